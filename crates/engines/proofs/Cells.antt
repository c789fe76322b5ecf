-- Columns of a table, told by their numbers. Assumes nothing.
use Rattle.std.proofs.Common.{◌≡◌, ℕ, zero, suc, ◌+◌, ◌*◌, ◌<◌, ◌≤◌, List, [], ◌∷◌, length, get_or, take, drop, set, sym, refl, ap, ◌∙◌, arith, length-drop, length-set, length-take-le, get_or-drop, get_or-set_other, get_or-take, get_or-set_same}
use lib.Seq.{take-set-lt, drop-set-add}
use Rattle.loops.specs.Pick.{either}
use Rattle.marks.specs.Marks.{has}
use Rattle.engines.specs.Marked.{over_marks, place}
use Rattle.engines.specs.Columns.{cell, cell_by, row_put}
use Rattle.engines.proofs.Marking.{over_through, over_keeps}
use Rattle.engines.proofs.Places.{over_get}

-- the column as a list of its own
abbrev column : List ℕ → ℕ → List ℕ
column x k = take 64 (drop k x)

column_get : (x : List ℕ) (k i : ℕ) → i < 64 → get_or (column x k) i 0 ≡ get_or x (k + i) 0
column_get x k i h = get_or-take 64 (drop k x) i 0 h ∙ get_or-drop k x i 0

column_length : (x : List ℕ) (k : ℕ) → k + 64 ≤ length x → length (column x k) ≡ 64
column_length x k h = length-take-le 64 (drop k x) (omega (arith, length-drop k x))

module _ (k : ℕ) (f : ℕ → ℕ) (m : ℕ) (x : List ℕ) where
  changed : (s : List ℕ) (i : ℕ) → i < 64 → column (cell_by k f i s) k ≡ place 0 (λ j. f) i (column s k)
  changed s i h =
      ap (take 64) (drop-set-add k s i (f (get_or s (k + i) 0))) ∙ take-set-lt 64 (drop k s) i (f (get_or s (k + i) 0)) h
      ∙ ap (λ (v : ℕ). set (column s k) i (f v)) (sym (column_get s k i h))

  -- a number changes just if the set has its mark
  pub cells_own : (i : ℕ) → i < 64 → k + 64 ≤ length x → cell (over_marks m (cell_by k f) x) k i ≡ either (has m i) (f (cell x k i)) (cell x k i)
  unfolding cell
  cells_own i h long =
      sym (column_get (over_marks m (cell_by k f) x) k i h)
      ∙ ap (λ (l : List ℕ). get_or l i 0) (over_through (λ s. column s k) (cell_by k f) (place 0 (λ j. f)) (λ j b s. changed s j b) m x)
      ∙ over_get 0 (λ j. f) m (column x k) i (column_length x k long) h
      ∙ ap (λ (v : ℕ). either (has m i) (f v) v) (column_get x k i h)

  -- and no number elsewhere does
  pub cells_apart : (q : ℕ) → ((j : ℕ) → j < 64 → q ≡ k + j → ⊥) → get_or (over_marks m (cell_by k f) x) q 0 ≡ get_or x q 0
  cells_apart q apart = over_keeps (λ s. get_or s q 0) (cell_by k f) (λ j b s. get_or-set_other s (k + j) q (f (get_or s (k + j) 0)) 0 (apart j b)) m x

  pub cells_other : (p i : ℕ) → i < 64 → ((j : ℕ) → j < 64 → p + i ≡ k + j → ⊥) → cell (over_marks m (cell_by k f) x) p i ≡ cell x p i
  unfolding cell
  cells_other p i h apart = cells_apart (p + i) apart

  pub cells_length : length (over_marks m (cell_by k f) x) ≡ length x
  cells_length = over_keeps length (cell_by k f) (λ j b s. length-set s (k + j) (f (get_or s (k + j) 0))) m x

-- ---- numbers of one position, in columns that stand one behind the other

pub row_length : (k i : ℕ) (vs x : List ℕ) → length (row_put k i vs x) ≡ length x
unfolding row_put
row_length k i [] x = refl
row_length k i (v ∷ vs) x = row_length (k + 64) i vs (set x (k + i) v) ∙ length-set x (k + i) v

-- numbers that are at none of these places stay
pub row_other : (k i : ℕ) (vs x : List ℕ) (p j : ℕ) → ((m : ℕ) → m < length vs → p + j ≡ k + 64 * m + i → ⊥) → cell (row_put k i vs x) p j ≡ cell x p j
unfolding row_put cell
row_other k i [] x p j apart = refl
row_other k i (v ∷ vs) x p j apart =
    row_other (k + 64) i vs (set x (k + i) v) p j (λ m h e. apart (suc m) (omega arith) (omega arith))
    ∙ get_or-set_other x (k + i) (p + j) v 0 (λ e. apart 0 (omega arith) (omega arith))

-- nor does a number before the first column
pub row_before : (k i : ℕ) (vs x : List ℕ) (q : ℕ) → q < k → get_or (row_put k i vs x) q 0 ≡ get_or x q 0
unfolding row_put
row_before k i [] x q h = refl
row_before k i (v ∷ vs) x q h = row_before (k + 64) i vs (set x (k + i) v) q (omega arith) ∙ get_or-set_other x (k + i) q v 0 (λ e. omega arith)

-- number m of those that were put
pub row_own : (k i : ℕ) (vs x : List ℕ) (m : ℕ) → i < 64 → m < length vs → k + 64 * length vs ≤ length x → cell (row_put k i vs x) (k + 64 * m) i ≡ get_or vs m 0
unfolding row_put cell
row_own k i [] x m b h long = absurd (omega arith)
row_own k i (v ∷ vs) x zero b h long =
    row_other (k + 64) i vs (set x (k + i) v) (k + 64 * 0) i (λ m l e. omega arith)
    ∙ ap (λ (q : ℕ). get_or (set x (k + i) v) q 0) (let z : k + 64 * 0 + i ≡ k + i = omega arith in z)
    ∙ get_or-set_same x (k + i) v 0 (omega arith)
row_own k i (v ∷ vs) x (suc m) b h long =
    ap (λ (q : ℕ). get_or (row_put (k + 64) i vs (set x (k + i) v)) (q + i) 0) (let z : k + 64 * suc m ≡ k + 64 + 64 * m = omega arith in z)
    ∙ row_own (k + 64) i vs (set x (k + i) v) m b (omega arith) (omega (arith, length-set x (k + i) v))
