use Rattle.std.proofs.Common.{◌≡◌, map}
use Rattle.std.specs.List.{All}
use Rattle.case_lines.specs.Lines.{number_of, IsNumber}
use Rattle.case_lines.proofs.numbers.Given as goal

abbrev pub invariant-loop-word : goal.invariant-loop-word
invariant-loop-word l = let words = map (λ word. word.now) l.yielded in All IsNumber words × (l.all.items ≡ map number_of words)
