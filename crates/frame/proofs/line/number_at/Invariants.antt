use mathlib.Core.Path.{◌≡◌}
use Rattle.frame.specs.Lines.{number_at}
use Rattle.frame.proofs.line.number_at.Given as goal

abbrev pub invariant-loop-k : goal.invariant-loop-k
invariant-loop-k l = l.v ≡ number_at l.s l.i l.k
