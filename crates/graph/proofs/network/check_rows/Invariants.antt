use mathlib.Core.Path.{◌≡◌}
use mathlib.Core.Bool.{true}
use lib.ListN.{get_or, length}
use Rattle.marks.specs.Marks.{all_of}
use Rattle.graph.specs.Links.{inside}
use Rattle.graph.proofs.network.check_rows.Given as goal

abbrev pub invariant-loop-row : goal.invariant-loop-row
invariant-loop-row l = all_of l.row-index (λ j. inside (length l.rows) (get_or l.rows j 0)) ≡ true
