-- What an accepted call knows of its arguments. Assumes nothing.
use Rattle.std.proofs.Common.{◌≡◌, ℕ, ◌<◌, Ok, ltb, arith, ltb-true}
use Rattle.limits.specs.Refusals.{holds_or}
use Rattle.limits.specs.declared.refusals.Refusal.TheVariants.{NoPosition}
use Rattle.limits.proofs.Tests.{held, first_held, second_held}
use Rattle.graph.specs.Links.{size_test, position_test}
use Rattle.graph.proofs.Rules.{size_parts}
use Rattle.room.specs.Kinds.{positions_of}
use Rattle.room.specs.Capturing.{propose_test}
use Rattle.room.specs.declared.room.RoomConf.{RoomConf}

-- an accepted position is below the number of positions, and one of the 64 places
pub place_inside : (n v : ℕ) → position_test n v ≡ Ok tt → v < n
unfolding position_test
place_inside n v e = ltb-true v n (held (ltb v n) NoPosition (second_held (size_test n) (holds_or (ltb v n) NoPosition) tt e))

pub place_below : (n v : ℕ) → position_test n v ≡ Ok tt → v < 64
unfolding position_test
place_below n v e =
    let size = size_parts n (first_held (size_test n) (holds_or (ltb v n) NoPosition) tt e) in
    omega (arith, size.1, place_inside n v e)

-- and so is that of an accepted proposal
pub position_below : (c : RoomConf) (term v : ℕ) → propose_test c term v ≡ Ok tt → v < 64
unfolding propose_test
position_below c term v e = place_below (positions_of c) v (first_held (position_test (positions_of c) v) _ tt e)
