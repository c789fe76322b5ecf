use mathlib.Core.Path.{sym, ap}
use native.Mathlib.Omega.{arith}
use lib.ListN.{length}
use Rattle.texts.specs.Decimal.{decimal_two, decimal_three, length_small}
use Rattle.packets.proofs.len.small_len.Goals as goal

pub returns-then-b-lt10 : goal.returns-then-b-lt10
returns-then-b-lt10 c = (omega (arith, length_small c.args.b c.if-b-lt10.true), omega arith)

pub returns-then-b-lt100 : goal.returns-then-b-lt100
returns-then-b-lt100 c = (sym (ap length (decimal_two c.args.b c.if-b-lt10.false c.if-b-lt100.true)), omega arith)

pub returns-else-b-lt100 : goal.returns-else-b-lt100
returns-else-b-lt100 c = (sym (ap length (decimal_three c.args.b c.if-b-lt100.false (omega arith))), omega arith)
