-- RULES none. Loops over the marks of a set in rising order, one mark more, and a change of one place of a list.
-- Assumes nothing.
use Rattle.std.specs.Prelude.{ℕ, ◌||◌, List, ◌==◌, slice_index_or, slice_set}
use Rattle.loops.specs.Pick.{either}
use Rattle.loops.specs.Upto.{upto}
use Rattle.marks.specs.Marks.{has, marks}

-- f at each mark of m, the lowest first
unfoldable pub over_marks : {S : Type 0} → ℕ → (ℕ → S → S) → S → S
over_marks m f s = upto 64 (λ i t. either (has m i) (f i t) t) s

-- m, and mark i
unfoldable pub with_mark : ℕ → ℕ → ℕ
with_mark m i = marks 64 (λ j. has m j || j == i)

-- place i changed by f, all others as they were
abbrev pub place : {A : Type 0} → A → (ℕ → A → A) → ℕ → List A → List A
place d f i l = slice_set l i (f i (slice_index_or l i d))
