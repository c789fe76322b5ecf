use mathlib.Core.Path.{◌≡◌}
use Rattle.std.specs.Prelude.{Ok}
use Rattle.frame.specs.Play.{play_capture}
use Rattle.frame.proofs.play.play_capture.Given as goal

abbrev pub invariant-loop-k : goal.invariant-loop-k
invariant-loop-k l = Ok l.captured ≡ play_capture l.k l.words l.room.conf
