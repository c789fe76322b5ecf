-- RULES 11.7: what a refused call leaves. This is demand 1's last clause, for the calls of a room. Assumes nothing: it
-- is proved in proofs/Refusing.antt.
use Rattle.std.specs.Prelude.{◌≡◌, ℕ, Ok, List, length, ◌≢◌}
use Rattle.room.specs.declared.room.Room.{Room}
use Rattle.room.specs.Rooms.{propose_of, RoundAnswer, capture_of, capture_buffer, pipeline_of, pipeline_buffer}

-- all that a round was lent or handed is what it was: the room, the cursor, the count of used rows, and every number
-- of the row buffer
pub record AsBefore (r : Room) (at count : ℕ) (lent : List ℕ) (a : RoundAnswer) (left : List ℕ) : Type 0 where
  pub room : a.room ≡ r
  pub cursor : a.cursor ≡ at
  pub used : a.used ≡ count
  pub rows : left ≡ lent

-- if it is refused
abbrev pub Leaves : Room → ℕ → ℕ → List ℕ → RoundAnswer → List ℕ → Type 0
Leaves r cursor used rows a left = (a.told ≢ Ok tt) → AsBefore r cursor used rows a left

-- each call, whatever numbers the room holds, opened or not, and whatever it is lent
pub record RefusedLeaves : Type 0 where
  pub propose : (r : Room) (v : ℕ) → ((propose_of r v).told ≢ Ok tt) → (propose_of r v).room ≡ r
  pub capture : (ws rows : List ℕ) (used : ℕ) (r : Room) (cursor : ℕ) → Leaves r cursor used rows (capture_of ws (length rows) used r cursor) (capture_buffer ws rows used r cursor)
  pub pipeline : (ws rows : List ℕ) (used : ℕ) (r : Room) (cursor : ℕ) → Leaves r cursor used rows (pipeline_of ws (length rows) used r cursor) (pipeline_buffer ws rows used r cursor)
