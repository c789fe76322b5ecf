use Rattle.std.proofs.Common.{◌≡◌, ◌+◌, take}
use Rattle.std.proofs.lemmas.List.Edits.{sets}
use Rattle.engines_c.proofs.numbers.put_run.Given as goal

abbrev pub invariant-loop-i : goal.invariant-loop-i
invariant-loop-i l = l.xs ≡ sets l.initial.xs (l.at + l.k) (take l.i l.values)
