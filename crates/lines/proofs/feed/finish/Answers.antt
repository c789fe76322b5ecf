use mathlib.Core.Path.{sym, ◌∙◌}
use borrow.Author.Tests.{eqb-true, eqb-false}
use native.Mathlib.Omega.{arith}
use Rattle.lines.proofs.Answers.{end_refused, end_listed, last_none, last_one}
use Rattle.lines.proofs.feed.finish.Goals as goal

pub returns-then-words-lt-WORDS : goal.returns-then-words-lt-WORDS
returns-then-words-lt-WORDS c =
    let n = end_refused c.args.line.now c.args.words.now c.args.out.now c.then-words-lt-WORDS.either in
    (n.0, tt, n.1, n.2)

pub returns-then-is_empty : goal.returns-then-is_empty
returns-then-is_empty c =
    let e = last_none c.args.line.now c.args.words.now c.args.out.now (eqb-true _ 0 (sym c.is_empty.ensures ∙ c.if-is_empty.true)) in
    let n = end_listed c.args.line.now c.args.words.now c.args.out.now c.if-words-lt-WORDS.false c.if-out-lt-ENDED.false e.0 e.1 in
    (n.0, omega arith, n.1, n.2)

pub returns : goal.returns
returns c =
    let n = last_one c.args.line.now c.args.words.now c.args.out.now (eqb-false _ 0 (sym c.is_empty.ensures ∙ c.if-is_empty.false)) c.put_line.ensures.told c.put_line.ensures.words_after c.put_line.ensures.out_after in
    (n.0, c.put_line.ensures.room, n.1, n.2)
