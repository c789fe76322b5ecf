use mathlib.Core.Path.{◌≡◌}
use Prim.Native.Nat.{◌-◌}
use Rattle.std.specs.Prelude.{Ok}
use Rattle.frame.specs.Play.{play_pipeline}
use Rattle.frame.proofs.Playing.{going}
use Rattle.frame.proofs.play.play_pipeline.Given as goal

abbrev pub invariant-loop-k : goal.invariant-loop-k
invariant-loop-k l = going l.words l.conf (l.k-end - l.k) (Ok l.ran) ≡ play_pipeline l.t l.words l.conf
