use mathlib.Core.Bool.{true}
use mathlib.Core.Path.{◌≡◌}
use Rattle.lines.specs.Ends.{Unbroken}
use Rattle.lines.proofs.search.is_unbroken.Given as goal

abbrev pub invariant-loop-b : goal.invariant-loop-b
invariant-loop-b l = l.good ≡ true → Unbroken l.block 0 l.b-index
