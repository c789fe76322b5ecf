use mathlib.Core.Path.{◌≡◌, refl, sym, ap, ◌∙◌}
use Rattle.std.specs.List.{position}
use Rattle.std.proofs.lemmas.List.{take_rest}
use Rattle.lines.specs.Feeding.{ends_line}
use Rattle.std.specs.Prelude.{None}
use native.Mathlib.Omega.{arith}
use Rattle.std.proofs.lemmas.Grind.{common_steps}
use Rattle.lines.proofs.Ends.{found, none_found, from_there, found_first, none_first}
use Rattle.lines.proofs.search.line_end.Goals as goal

pub returns-in_err-ahead : goal.returns-in_err-ahead
returns-in_err-ahead c =
    let p = c.pass_blocks-from.ensures in
    let n : c.from_residual.result ≡ None = grind (arith, common_steps) in
    let f = none_found c.args.text.now c.pass_blocks-from.result p.0 (ap (position ends_line) (sym (take_rest c.args.text.now c.pass_blocks-from.result)) ∙ sym c.first_end.ensures ∙ c.in_err-ahead.was) in
    rw n (none_first c.args.text.now (from_there c.args.text.now 0 c.pass_blocks-from.result (omega arith) p.1 f) refl)

pub returns : goal.returns
returns c =
    let p = c.pass_blocks-from.ensures in
    let f = found c.args.text.now c.pass_blocks-from.result p.0 c.in_ok-ahead.ahead (ap (position ends_line) (sym (take_rest c.args.text.now c.pass_blocks-from.result)) ∙ sym c.first_end.ensures ∙ c.in_ok-ahead.was) in
    found_first c.args.text.now (from_there c.args.text.now 0 c.pass_blocks-from.result (omega arith) p.1 f.0) f.1
