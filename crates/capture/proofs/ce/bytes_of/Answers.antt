use Rattle.std.proofs.Common.{refl}
use Rattle.engines.proofs.Marking.{over_turn, over_none}
use Rattle.capture.specs.Boards.{sent_by}
use Rattle.capture.proofs.ce.bytes_of.Goals as goal

pub loop-i-init : goal.loop-i-init
loop-i-init c = rw (c.into_iter-i-iterator.ensures.into_iter_gives, c.iter-i-items.ensures) refl

pub text_len-requires : goal.text_len-requires
text_len-requires c = c.in-Some.ensures.steps.low

pub loop-i-preserved : goal.loop-i-preserved
loop-i-preserved c = let w = c.in-Some.ensures.steps in over_turn _ w (rw (c.on_air-sum.ensures, c.text_len.ensures)) c.loop-i.invariant

pub returns : goal.returns
unfolding sent_by
returns c = over_none _ c.in-None.ensures.steps.0 c.loop-i.invariant
