use mathlib.Core.Path.{◌≡◌}
use Rattle.frame.proofs.Digits.{hex_upto}
use Rattle.frame.proofs.line.all_hex.Given as goal

abbrev pub invariant-loop-b : goal.invariant-loop-b
invariant-loop-b l = l.good ≡ hex_upto l.s l.b-index
