use Rattle.std.proofs.Common.{◌+◌, ◌∷◌, length, take, length-drop, ap, sym, ◌∙◌, ◌==◌, arith, rules, tests}
use Rattle.std.proofs.lemmas.Iterator.{YieldsList-from_slice}
use Rattle.std.proofs.lemmas.Iterator.Search.{position_from_yields_List}
use Rattle.std.proofs.lemmas.Slice.{between_to_end}
use Rattle.case_lines.specs.Lines.{lines_of}
use Rattle.case_lines.proofs.First.{first_line}
use Rattle.case_lines.proofs.first_line.Goals as goal

pub returns-in_err-end : goal.returns-in_err-end
returns-in_err-end c =
    let first = first_line c.args.text.now c.position.result (position_from_yields_List (λ b. b == 10) _ _ _ c.position.ensures.ran (YieldsList-from_slice c.args.text.now (cc)) (λ x b q k. search (rules, tests))) in
    let none = rw c.in_err-end.was at first in
    rw c.from_residual.ensures none

pub returns : goal.returns
returns c =
    let text = c.args.text.now in
    let end = c.in_ok-end.end in
    let first = first_line text c.position.result (position_from_yields_List (λ b. b == 10) _ _ _ c.position.ensures.ran (YieldsList-from_slice text (cc)) (λ x b q k. search (rules, tests))) in
    let found = rw c.in_ok-end.was at first in
    let behind = between_to_end text (end + 1) (length text) (omega arith) in
    (found.1 ∙ ap (λ rest. take end text ∷ lines_of rest) (sym behind), omega (arith, ap length behind, length-drop (end + 1) text, found.0))
