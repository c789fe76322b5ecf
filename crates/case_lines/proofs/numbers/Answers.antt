use Rattle.std.proofs.Common.{◌≡◌, ◌∙◌, ap, sym, subst, map, lit<}
use Rattle.std.specs.List.{All}
use Rattle.std.proofs.lemmas.Iterator.Splits.{YieldsList-from_str_split}
use Rattle.std.proofs.lemmas.Iterator.Consumers.{YieldsList-end}
use Rattle.std.proofs.lemmas.List.{map_push}
use Rattle.std.proofs.lemmas.List.Elements.{All-push}
use Rattle.std.specs.Str.Iter.{split_text, split_has_more, split_pattern}
use Rattle.case_lines.specs.Lines.{words_of, number_of, IsNumber}
use Rattle.case_lines.proofs.numbers.Goals as goal

pub loop-word-preserved : goal.loop-word-preserved
loop-word-preserved c =
    let before = c.loop-word.invariant in
    let number = c.in_ok-parse.ensures.value.0 in
    let more = map_push (λ word. word.now) c.loop-word.yielded c.in-Some.word in
    let numbers = map_push number_of (map (λ word. word.now) c.loop-word.yielded) c.in-Some.word.now in
    let pushed = c.in_ok-push.ensures.items in
    let known = before.1 in
    let is = number.1 in
    (subst (All IsNumber) (sym more) (All-push IsNumber _ _ before.0 number.0), cc)

-- nothing is left of the line, so the words that were read are all of them
words_read : (c : goal.In-None) → map (λ word. word.now) c.loop-word.yielded ≡ words_of c.args.line.now
words_read c =
    let same = c.into_iter-word-iterator.ensures.into_iter_gives in
    let words = YieldsList-from_str_split 32 c.args.line.now (lit< tt) (ap split_text same ∙ c.split-word-items.ensures.text) (ap split_has_more same ∙ c.split-word-items.ensures.has_more) (ap split_pattern same ∙ c.split-word-items.ensures.pattern) in
    (YieldsList-end words c.loop-word.yielded _ c.loop-word.yielded_by _ _ c.in-None.is c.next.ensures.steps).0

pub returns-clause-read : goal.returns-clause-read
returns-clause-read c = c.loop-word.invariant.1 ∙ ap (map number_of) (words_read c)

pub returns-clause-plain : goal.returns-clause-plain
returns-clause-plain c = subst (All IsNumber) (words_read c) c.loop-word.invariant.0
