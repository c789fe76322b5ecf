use Rattle.std.proofs.Common.{◌≡◌, take, ◌==◌, ◌∙◌, rules, tests}
use Rattle.std.specs.List.{All}
use Rattle.std.proofs.lemmas.Iterator.{YieldsList-from_map, YieldsList-from_take, items_from_collect}
use Rattle.std.proofs.lemmas.Iterator.Consumers.{YieldsList-at}
use Rattle.std.proofs.lemmas.Iterator.Splits.{YieldsList-from_slice_split}
use Rattle.std.proofs.lemmas.Result.{IfOk-weaker}
use Rattle.case_lines.specs.Lines.{words_of, numbers_of, IsNumber, number_read, numbers_read}
use Rattle.case_lines.proofs.Plain.{numbers_plain}
use Rattle.case_lines.proofs.numbers_read.Goals as goal

pub returns-clause-read : goal.returns-clause-read
returns-clause-read c =
    items_from_collect _ c.collect.ensures.ran
    (YieldsList-from_take c.args.most
    (YieldsList-at c.take.ensures.source
    (YieldsList-from_map _ number_read
    (YieldsList-at c.map.ensures.source
    (YieldsList-from_slice_split _ (λ b. b == 32) c.args.line.now c.split.ensures.rest c.split.ensures.done c.split.ensures.closure (λ x b q k. search (rules, tests))))
    c.map.ensures.closure
    (λ x r q k. search rules)))
    c.take.ensures.count)

pub returns-clause-plain : goal.returns-clause-plain
returns-clause-plain c =
    let line = c.args.line.now in
    let most = c.args.most in
    IfOk-weaker c.collect.result
    (λ v. v.items ≡ numbers_read most line)
    (λ v. All IsNumber (words_of line) → v.items ≡ take most (numbers_of line))
    (λ v read plain. read ∙ numbers_plain most line plain)
    (returns-clause-read c)
