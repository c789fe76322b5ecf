-- Numbers of positions in a table: a column is 64 of them, one for each position, from its start on. RULES none: no
-- rule is said here. Assumes nothing.
use Rattle.std.specs.Prelude.{ℕ, ◌+◌, List, [], ◌∷◌, slice_index, slice_set}
use Rattle.loops.specs.Wrap.{add64}
use Rattle.engines.specs.Marked.{over_marks}

-- number i of the column that starts at k
unfoldable pub cell : List ℕ → ℕ → ℕ → ℕ
cell x k i = slice_index x (k + i)

-- .. changed by f, all others as they were
abbrev pub cell_by : ℕ → (ℕ → ℕ) → ℕ → List ℕ → List ℕ
cell_by k f i x = slice_set x (k + i) (f (slice_index x (k + i)))

-- the numbers of a column at the marks of m, higher by d
unfoldable pub raised_by : ℕ → ℕ → ℕ → List ℕ → List ℕ
raised_by k m d x = over_marks m (cell_by k (λ v. add64 v d)) x

-- .. each v
unfoldable pub stored_as : ℕ → ℕ → ℕ → List ℕ → List ℕ
stored_as k m v x = over_marks m (cell_by k (λ w. v)) x

-- numbers of position i in columns that stand one behind the other, from the one that starts at k on
unfoldable pub row_put : ℕ → ℕ → List ℕ → List ℕ → List ℕ
row_put k i [] x = x
row_put k i (v ∷ vs) x = row_put (k + 64) i vs (slice_set x (k + i) v)
