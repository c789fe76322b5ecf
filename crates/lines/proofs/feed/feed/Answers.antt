use Prim.Native.Nat.{◌+◌}
use Rattle.std.proofs.Common.{sym, ap, ◌∙◌, ◌≤◌, arith, length}
use Rattle.frame.specs.Bounds.{frame_words}
use Rattle.std.specs.List.{position}
use Rattle.std.proofs.lemmas.List.{take_rest}
use Rattle.lines.specs.Feeding.{ends_line}
use borrow.Author.Rules.{rules}
use Rattle.lines.proofs.Ends.{found, none_found}
use Rattle.lines.proofs.Feeds.{fed_refused, going_starts, no_end, no_room, next_line, cut}
use Rattle.lines.proofs.Answers.{lent_long, line_full, line_put}
use Rattle.lines.proofs.feed.feed.Goals as goal

pub returns-then-text-n : goal.returns-then-text-n
returns-then-text-n c = fed_refused c.args.text.now c.args.n c.args.words.now c.args.out.now c.args.used c.then-text-n.either

pub loop-ahead-init : goal.loop-ahead-init
loop-ahead-init c = going_starts c.args.text.now c.args.n c.args.words.now c.args.out.now c.args.used c.if-text-n.false c.if-out-used.false

pub loop-ahead-preserved : goal.loop-ahead-preserved
loop-ahead-preserved c =
    let text = c.args.text.now in
    let g = c.loop-ahead.invariant in
    let f = found text c.loop-ahead.at g.within c.in-Some.ahead (ap (position ends_line) (sym (take_rest text c.loop-ahead.at)) ∙ sym c.line_end.ensures ∙ c.in-Some.is) in
    let p = line_put _ c.loop-ahead.words c.loop-ahead.out c.loop-ahead.o (omega (arith, g.place, g.same_out)) (sym c.in-Ok.is ∙ c.put_line.ensures.told) c.put_line.ensures.words_after c.put_line.ensures.out_after in
    next_line text c.args.n c.args.words.now c.args.out.now c.args.used (c.if-text-n.false, c.if-words-lt-WORDS.false, c.if-out-used.false) g f.0 f.1 p.0 p.2 (omega (arith, c.in-Ok.ensures.room, lent_long (cut text c.loop-ahead.from (c.loop-ahead.at + c.in-Some.ahead)) c.loop-ahead.words c.loop-ahead.out c.loop-ahead.o (omega (arith, g.place, g.same_out)))) p.1 c.put_line.auto.words (search rules)

pub returns : goal.returns
returns c =
    let text = c.args.text.now in
    let g = c.loop-ahead.invariant in
    no_end text c.args.n c.args.words.now c.args.out.now c.args.used (c.if-text-n.false, c.if-words-lt-WORDS.false, c.if-out-used.false) g (none_found text c.loop-ahead.at g.within (ap (position ends_line) (sym (take_rest text c.loop-ahead.at)) ∙ sym c.line_end.ensures ∙ c.in_default.is))

pub returns-in_default-put_line : goal.returns-in_default-put_line
returns-in_default-put_line c =
    let text = c.args.text.now in
    let g = c.loop-ahead.invariant in
    let f = found text c.loop-ahead.at g.within c.in-Some.ahead (ap (position ends_line) (sym (take_rest text c.loop-ahead.at)) ∙ sym c.line_end.ensures ∙ c.in-Some.is) in
    let w : frame_words ≤ length c.loop-ahead.words = omega (arith, g.same_words) in
    let p = line_full _ c.loop-ahead.words c.loop-ahead.out c.loop-ahead.o (omega (arith, g.place, g.same_out)) w (sym c.in_default-put_line.is ∙ c.put_line.ensures.told) c.put_line.ensures.words_after c.put_line.ensures.out_after in
    rw (sym p.1, sym p.2) (no_room text c.args.n c.args.words.now c.args.out.now c.args.used (c.if-text-n.false, c.if-words-lt-WORDS.false, c.if-out-used.false) g f.0 f.1 p.0)
