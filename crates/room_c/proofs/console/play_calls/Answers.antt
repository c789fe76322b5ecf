use native.Mathlib.Omega.{arith}
use Rattle.loops.specs.Upto.{upto_none, upto_turn, upto_all}
use Rattle.room_c.specs.Console.{play_first}
use Rattle.room_c.proofs.console.play_calls.Goals as goal

pub loop-i-init : goal.loop-i-init
loop-i-init c = (omega arith, upto_none _ _)

pub loop-i-preserved : goal.loop-i-preserved
loop-i-preserved c = (omega arith, upto_turn _ _ c.loop-i.invariant.1 c.call_at.ensures)

pub returns : goal.returns
unfolding play_first
returns c = upto_all _ _ c.loop-i.invariant.0 c.loop-i-test.false c.loop-i.invariant.1
