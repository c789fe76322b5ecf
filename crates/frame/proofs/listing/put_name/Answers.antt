use native.Mathlib.Omega.{arith}
use Rattle.texts.specs.Put.{put_byte}
use Rattle.frame.proofs.Texts.{name_more, name_start}
use Rattle.frame.proofs.listing.put_name.Goals as goal

pub loop-k-init : goal.loop-k-init
loop-k-init c = name_start _ _

pub loop-k-preserved : goal.loop-k-preserved
loop-k-preserved c = name_more _ _ _ (omega arith) c.byte_at.ensures c.loop-k.invariant (put_byte _ _ _ (omega arith))
