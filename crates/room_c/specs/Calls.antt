-- RULES 17 and 11.11. The entry's list of numbers is a list of the room's own calls, readings among them. The room is
-- left as that list leaves it, so that whatever holds of every such list holds of what the entry leaves. What the
-- entry tells of each call is that call's answer in the room that it was made in, whatever calls came behind it.
-- Assumes nothing: these are statements. They are proved in proofs/Called.antt.
use Rattle.std.specs.Prelude.{List, [], ◌∷◌, ◌++◌, ◌≡◌, ℕ, zero, suc, ◌+◌, ◌*◌, ◌/◌, ◌<◌, Float, length, get_or, Option, None, Some}
use Rattle.room.specs.declared.room.Room.{Room}
use Rattle.demand.specs.Calls.{Call, after}
use Rattle.room_c.specs.Answers.{Said, plain, told_in}
use Rattle.room_c.specs.Console.{numbers_each, floats_each, Calling, call_at, call_said, play_first, play}

-- call i, with the lent lists as the calls before it left them
abbrev pub call_in : List ℕ → List ℕ → Calling → ℕ → Option Call
call_in ws calls w i = call_at ws calls i (play_first i ws calls w)

abbrev pub listed : Option Call → List Call
listed None = []
listed (Some c) = c ∷ []

-- the calls among the first k
unfoldable pub calls_in : List ℕ → List ℕ → Calling → ℕ → List Call
calls_in ws calls w zero = []
calls_in ws calls w (suc k) = calls_in ws calls w k ++ listed (call_in ws calls w k)

-- the room that call i is made in
abbrev pub room_in : List ℕ → List ℕ → Calling → ℕ → Room
room_in ws calls w i = after (calls_in ws calls w i) w.room

-- what a call answers in a room; what is no call has no refusal
unfoldable pub said_in : Option Call → Room → Said
said_in None r = plain 0 []
said_in (Some c) r = call_said c r

-- for any words, numbers, lent lists and room
pub record PlayedByCalls (ws calls : List ℕ) (w : Calling) : Type 0 where
  pub room : (play ws calls w).room ≡ after (calls_in ws calls w (length calls / 4)) w.room
  -- each refusal that the list has a place for
  pub refusals : (i : ℕ) → i < length calls / 4 → i * numbers_each < length w.told
      → get_or (play ws calls w).told (i * numbers_each) 0 ≡ (said_in (call_in ws calls w i) (room_in ws calls w i)).refusal
  -- each number and each float behind it
  pub numbers : (i k : ℕ) → i < length calls / 4 → i * numbers_each + k < length w.told
      → k < length (told_in (said_in (call_in ws calls w i) (room_in ws calls w i)))
      → get_or (play ws calls w).told (i * numbers_each + k) 0
      ≡ get_or (told_in (said_in (call_in ws calls w i) (room_in ws calls w i))) k 0
  pub floats : (i k : ℕ) (d : Float) → i < length calls / 4 → i * floats_each + k < length w.floats
      → k < length (said_in (call_in ws calls w i) (room_in ws calls w i)).floats
      → get_or (play ws calls w).floats (i * floats_each + k) d
      ≡ get_or (said_in (call_in ws calls w i) (room_in ws calls w i)).floats k d
