-- What an accepted reading knows of its arguments. Assumes nothing.
use Rattle.std.proofs.Common.{◌≡◌, ◌<◌, ◌≤◌, ℕ, Ok, arith}
use Rattle.std.specs.Prelude.{ltb}
use borrow.Author.Tests.{ltb-true, lt-ltb, le-leb}
use Rattle.limits.specs.Refusals.{holds_or}
use Rattle.limits.specs.declared.refusals.Refusal.TheVariants.{NoPosition}
use Rattle.limits.proofs.Tests.{held, first_held, second_held}
use Rattle.graph.specs.Links.{size_test, position_test}
use Rattle.graph.proofs.Rules.{size_parts}
use Rattle.room.specs.declared.room.Room.{Room}
use Rattle.room.specs.Rooms.{size_of}
use Rattle.room.specs.Kinds.{pipeline_only}
use Rattle.room.proofs.Answers.{place_below}
use Rattle.readings.specs.Readings.{of_pipeline}

pub part_below : (r : Room) (v : ℕ) → of_pipeline r v ≡ Ok tt → v < 64
unfolding of_pipeline
part_below r v e = place_below (size_of r) v (first_held (position_test (size_of r) v) (pipeline_only r.conf.kind) tt e)

-- and a position below the size of a room is accepted
pub place_held : (n v : ℕ) → v < n → n ≤ 64 → position_test n v ≡ Ok tt
unfolding position_test size_test
place_held n v h l = rw (lt-ltb 0 n (omega arith), le-leb n 64 l, lt-ltb v n h)
