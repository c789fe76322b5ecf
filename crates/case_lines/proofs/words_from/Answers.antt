use Rattle.std.proofs.Common.{◌+◌, ◌*◌, ◌%◌, ◌^◌, ℕ, map, sym, ◌∙◌, arith}
use Rattle.std.specs.List.{range_with_len}
use Rattle.std.proofs.lemmas.List.{ext_get_or, take_at}
use Rattle.std.proofs.lemmas.List.FromFn.{get_or-map-range_with_len, length-map-range_with_len}
use Rattle.case_lines.proofs.words_from.Goals as goal

pub returns : goal.returns
returns c =
    let words = c.fill_words.new.words in
    let count = c.args.count in
    let word = λ (i : ℕ). (c.args.first + c.args.step * i) % 2 ^ 64 in
    let kept = c.fill_words.auto.words ∙ c.deref_mut.ensures.len in
    let all = kept ∙ c.in_ok-words.ensures.len in
    take_at words _ c.in_ok-words.words.len kept
    ∙ ext_get_or 0 words (map word (range_with_len 0 count))
    (all ∙ sym (length-map-range_with_len word 0 count))
    (λ i low. c.fill_words.ensures i (omega (arith, low, c.fill_words.auto.words)) ∙ sym (get_or-map-range_with_len word 0 count i i 0 (omega (arith, low, all)) (omega arith)))
