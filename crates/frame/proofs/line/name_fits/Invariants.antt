use mathlib.Core.Path.{◌≡◌}
use mathlib.Core.Bool.{true}
use Rattle.frame.specs.Lines.{name_fits}
use Rattle.frame.proofs.line.name_fits.Given as goal

abbrev pub invariant-loop-k : goal.invariant-loop-k
invariant-loop-k l = name_fits l.s l.k ≡ true
