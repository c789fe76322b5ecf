use Rattle.std.proofs.Common.{arith}
use Rattle.loops.specs.Downto.{downto_turn, downto_none}
use Rattle.engines.specs.Words.{shuffled}
use Rattle.engines.proofs.words.shuffle.Goals as goal

pub loop-i-preserved : goal.loop-i-preserved
loop-i-preserved c = downto_turn _ (omega arith) c.loop-i.invariant c.swap_step-e.ensures

pub returns : goal.returns
unfolding shuffled
returns c = downto_none _ (omega arith) c.loop-i.invariant
