use Rattle.std.proofs.Common.{◌≡◌, ◌≤◌, ◌<◌, sym, ◌∙◌, length, Err}
use Rattle.std.proofs.lemmas.Grind.{common_steps}
use Rattle.frame.specs.Bounds.{listing_bytes}
use native.Mathlib.Omega.{arith}
use Rattle.lines.proofs.Answers.{ends_short, line_refused, line_listed}
use Rattle.lines.proofs.feed.put_line.Goals as goal

pub returns-then-out-lt-ENDED : goal.returns-then-out-lt-ENDED
returns-then-out-lt-ENDED c =
    let f = ends_short (length c.args.words.now) (length c.args.out.now) c.if-out-lt-ENDED.true in
    record { told = rw f; room = tt; words_after = rw f; out_after = rw f }

pub returns-in_err-end : goal.returns-in_err-end
returns-in_err-end c =
    let l = c.list_frame.ensures in
    let n = line_refused c.args.line.now c.args.words.now c.args.out.now c.if-out-lt-ENDED.false (sym c.in_err-end.was ∙ l.0) l.2 l.3 in
    let e : c.from_residual.result ≡ Err c.in_err-end.field-0.0 = grind (arith, common_steps) in
    record { told = e ∙ n.0; room = rw e tt; words_after = n.1; out_after = n.2 }

pub returns : goal.returns
returns c =
    let l = c.list_frame.ensures in
    let k : c.in_ok-end.end ≤ listing_bytes = rw c.in_ok-end.was at l.1 in
    let b : c.in_ok-end.end < length c.list_frame.new.out = omega (arith, c.list_frame.auto.out) in
    let n = line_listed c.args.line.now c.args.words.now c.args.out.now c.if-out-lt-ENDED.false (sym c.in_ok-end.was ∙ l.0) l.2 l.3 b in
    record { told = n.0; room = omega arith; words_after = n.1; out_after = n.2 }
