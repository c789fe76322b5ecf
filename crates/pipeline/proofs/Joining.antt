-- Two sets by their marks: joined, common, and without one. Assumes nothing.
use Rattle.std.proofs.Common.{◌≡◌, ℕ, ◌^◌, ◌<◌, Bool, true, false, not, ◌&&◌, ◌||◌, eqb, ltb, refl, ◌∙◌, arith, ltb-false}
use Rattle.marks.specs.Marks.{has}
use Rattle.marks.specs.Laws.{has_out}
use Rattle.marks.specs.Sets.{marks_is}
use Rattle.pipeline.specs.Pending.{join_marks, common_marks, without_mark}

pub join_is : (a b r : ℕ) → a < 2 ^ 64 → b < 2 ^ 64 → r < 2 ^ 64 → ((j : ℕ) → has r j ≡ (has a j || has b j)) → r ≡ join_marks a b
unfolding join_marks
join_is a b r h k g e = marks_is 64 (λ j. has a j || has b j) r (omega arith) g (λ j. e j ∙ by j (ltb j 64) refl)
  where
    by : (j : ℕ) (t : Bool) → ltb j 64 ≡ t → (has a j || has b j) ≡ (t && (has a j || has b j))
    by j true p = refl
    by j false p = rw (has_out 64 a j h (ltb-false j 64 p), has_out 64 b j k (ltb-false j 64 p))

pub common_is : (a b r : ℕ) → a < 2 ^ 64 → r < 2 ^ 64 → ((j : ℕ) → has r j ≡ (has a j && has b j)) → r ≡ common_marks a b
unfolding common_marks
common_is a b r h g e = marks_is 64 (λ j. has a j && has b j) r (omega arith) g (λ j. e j ∙ by j (ltb j 64) refl)
  where
    by : (j : ℕ) (t : Bool) → ltb j 64 ≡ t → (has a j && has b j) ≡ (t && (has a j && has b j))
    by j true p = refl
    by j false p = rw (has_out 64 a j h (ltb-false j 64 p))

pub without_is : (m i r : ℕ) → m < 2 ^ 64 → r < 2 ^ 64 → ((j : ℕ) → has r j ≡ (has m j && not (eqb j i))) → r ≡ without_mark m i
unfolding without_mark
without_is m i r h g e = marks_is 64 (λ j. has m j && not (eqb j i)) r (omega arith) g (λ j. e j ∙ by j (ltb j 64) refl)
  where
    by : (j : ℕ) (t : Bool) → ltb j 64 ≡ t → (has m j && not (eqb j i)) ≡ (t && (has m j && not (eqb j i)))
    by j true p = refl
    by j false p = rw (has_out 64 m j h (ltb-false j 64 p))
