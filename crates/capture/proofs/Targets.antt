-- The targets of a slot, by their marks. Assumes nothing.
use Rattle.std.proofs.Common.{◌≡◌, ℕ, ◌^◌, ◌<◌, Bool, true, false, not, ◌&&◌, ltb, refl, ◌∙◌, arith, ltb-false}
use Rattle.marks.specs.Marks.{has}
use Rattle.marks.specs.Laws.{has_out}
use Rattle.marks.specs.Sets.{marks_is}
use Rattle.capture.specs.Plan.{targets_of}

pub targets_is : (a b r : ℕ) → a < 2 ^ 64 → r < 2 ^ 64 → ((j : ℕ) → has r j ≡ (has a j && not (has b j))) → r ≡ targets_of a b
unfolding targets_of
targets_is a b r h g e = marks_is 64 (λ j. has a j && not (has b j)) r (omega arith) g (λ j. e j ∙ by j (ltb j 64) refl)
  where
    by : (j : ℕ) (t : Bool) → ltb j 64 ≡ t → (has a j && not (has b j)) ≡ (t && (has a j && not (has b j)))
    by j true p = refl
    by j false p = rw (has_out 64 a j h (ltb-false j 64 p))
