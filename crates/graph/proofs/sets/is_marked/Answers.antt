use mathlib.Core.Path.{sym}
use native.Mathlib.Omega.{arith}
use Rattle.marks.specs.Laws.{has_out}
use Rattle.graph.proofs.sets.is_marked.Goals as goal

pub returns-then-i-ge64 : goal.returns-then-i-ge64
returns-then-i-ge64 c = sym (has_out 64 c.args.m c.args.i (omega arith) c.if-i-ge64.true)
