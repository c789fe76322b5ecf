use Rattle.std.proofs.Common.{◌≡◌, ℕ, length}
use Rattle.engines.specs.Marked.{over_marks}
use Rattle.engines.specs.Columns.{cell_by}
use Rattle.engines.proofs.columns.change.Given as goal

abbrev pub invariant-loop-i : goal.invariant-loop-i
invariant-loop-i g l =
    (length l.table ≡ length l.initial.table)
    × ((h : ℕ → ℕ) → ((v w : ℕ) → goal.F-post g l.f v w → w ≡ h v) → over_marks l.i-iterator.0 (cell_by l.start h) l.table ≡ over_marks l.who (cell_by l.start h) l.initial.table)
