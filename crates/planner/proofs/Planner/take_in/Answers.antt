use mathlib.Core.Path.{sym, ◌∙◌}
use lib.ListN.{length-take}
use native.Mathlib.Omega.{arith}
use Rattle.planner.proofs.Calls.{one_kept}
use Rattle.planner.proofs.Planner.take_in.Goals as goal

pub returns : goal.returns
returns c = record {
  few = λ kept e. omega (arith, one_kept e, simp length-take at c.keep.ensures.0);
  on = λ kept e. record { from = c.in_ok-from.from; left = c.in_ok-from.ensures.1; count = sym (one_kept e) ∙ c.keep.ensures.0; front = c.keep.ensures.1 };
  last = λ e. absurd (omega arith);
}
