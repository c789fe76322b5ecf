use mathlib.Core.Path.{sym, ◌∙◌}
use lib.ListN.{get_or, length}
use Rattle.marks.specs.Sets.{all_left}
use Rattle.graph.specs.Links.{inside, all_inside}
use Rattle.graph.proofs.network.check_rows.Goals as goal

pub returns-then-not-row_inside : goal.returns-then-not-row_inside
unfolding all_inside
returns-then-not-row_inside c = rw (all_left (λ j. inside (length c.args.rows.now) (get_or c.args.rows.now j 0)) _ _ c.loop-row-test.true (sym c.row_inside.ensures ∙ c.if-not-row_inside.true))
