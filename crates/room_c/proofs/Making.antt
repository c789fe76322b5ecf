-- What each arm of a call leaves is what the rule says of the call of that number, at its own places. Assumes nothing.
use mathlib.Core.List.{List, [], ◌∷◌}
use Rattle.limits.specs.Refusals.{answer_of as tell, Tested}
use mathlib.Core.Logic.{◌⊎◌}
use mathlib.Core.Path.{◌≡◌, ap}
use Prim.Native.Nat.{ℕ, ◌-◌, ◌*◌, ◌<◌, ◌≤◌}
use lib.Ieee.{Float}
use lib.ListN.{length}
use lib.Seq.{sets}
use Rattle.room.specs.Rooms.{RoundAnswer, capture_of, capture_buffer, pipeline_of, pipeline_buffer}
use Rattle.room.specs.declared.room.Room.{Room}
use Rattle.demand.specs.Calls.{Propose, handed}
use Rattle.room_c.specs.Answers.{told_in}
use Rattle.room_c.specs.Console.{
  numbers_each,
  floats_each,
  whole_said,
  part_said,
  call_table,
  Calling,
  call_by,
  call_said,
  rows_left,
  untold,
  called,
  call_of,
}
use Rattle.room_c.proofs.Tabled.{whole_call, part_call, no_call, whole_text, part_floats}

module _ (ws : List ℕ) (i which a b c : ℕ) (w : Calling) where
  abbrev Left : List ℕ → List ℕ → List Float → List ℕ → Room → Type 0
  Left rows told floats text r =
      record { rows = rows; told = told; floats = floats; text = text; room = r } ≡ call_of ws i which a b c w

  pub proposed : {told : List ℕ} {r : Room} → which ≡ 1 → r ≡ handed (Propose a) w.room
      → told ≡ sets w.told (i * numbers_each) (told_in (call_said (Propose a) w.room))
      → Left w.rows told w.floats w.text r
  unfolding called call_by call_table rows_left call_said
  proposed e h t = rw (e, h, t)

  pub captured : {q : Tested} {cursor used : ℕ} {rows told : List ℕ} {r : Room} → which ≡ 2
      → record { told = q; cursor = cursor; used = used; room = r } ≡ capture_of ws (length w.rows) c w.room b
      → rows ≡ capture_buffer ws w.rows c w.room b
      → told ≡ sets w.told (i * numbers_each) (tell q ∷ cursor ∷ used ∷ []) → Left rows told w.floats w.text r
  unfolding called call_by call_table rows_left call_said handed
  captured e x h t =
      rw (
        e,
        h,
        t,
        ap (λ (a : RoundAnswer). a.told) x,
        ap (λ (a : RoundAnswer). a.cursor) x,
        ap (λ (a : RoundAnswer). a.used) x,
        ap (λ (a : RoundAnswer). a.room) x,
      )

  pub piped : {q : Tested} {cursor used : ℕ} {rows told : List ℕ} {r : Room} → which ≡ 3
      → record { told = q; cursor = cursor; used = used; room = r } ≡ pipeline_of ws (length w.rows) c w.room b
      → rows ≡ pipeline_buffer ws w.rows c w.room b
      → told ≡ sets w.told (i * numbers_each) (tell q ∷ cursor ∷ used ∷ []) → Left rows told w.floats w.text r
  unfolding called call_by call_table rows_left call_said handed
  piped e x h t =
      rw (
        e,
        h,
        t,
        ap (λ (a : RoundAnswer). a.told) x,
        ap (λ (a : RoundAnswer). a.cursor) x,
        ap (λ (a : RoundAnswer). a.used) x,
        ap (λ (a : RoundAnswer). a.room) x,
      )

  pub whole_read : {told : List ℕ} {floats : List Float} → 4 ≤ which → which < 18
      → (told ≡ sets w.told (i * numbers_each) (told_in (whole_said which w.room)))
      × (floats ≡ sets w.floats (i * floats_each) (whole_said which w.room).floats)
      → Left w.rows told floats w.text w.room
  unfolding called call_by rows_left call_said handed
  whole_read h g t =
      rw (whole_call ws w.rows w.text a b c which h g, t.0, t.1, whole_text (which - 4) w.room w.text)

  pub part_read : {told text : List ℕ} → 18 ≤ which → which < 24
      → (told ≡ sets w.told (i * numbers_each) (told_in (part_said w.text a b which w.room)))
      × (text ≡ (part_said w.text a b which w.room).text w.text)
      → Left w.rows told w.floats text w.room
  unfolding called call_by rows_left call_said handed
  part_read h g t =
      rw (
        part_call ws w.rows w.text a b c which h g,
        t.0,
        t.1,
        part_floats w.text a b (which - 18) w.room,
      )

  pub none_made : {told : List ℕ} → (which ≡ 0) ⊎ (24 ≤ which) → told ≡ untold i w.told
      → Left w.rows told w.floats w.text w.room
  unfolding called call_by
  none_made h t = rw (no_call ws w.rows w.text a b c which h, t)
