-- RULES none. The first line of a text, and those behind it. Assumes nothing.
use Rattle.std.proofs.Common.{◌≡◌, ℕ, ◌+◌, ◌<◌, ◌≤◌, Bool, true, false, List, [], ◌∷◌, length, take, drop, not, ◌==◌, Option, Some, None, MatchOption, cond, ltb, refl, sym, ap, ◌∙◌, arith}
use Rattle.std.specs.List.{position_or_len, before_first, after_first}
use Rattle.std.proofs.lemmas.List.Splits.{slice_split_first, slice_split_none, length-slice_split}
use Rattle.std.proofs.lemmas.List.Sums.{prefix_len_passes}
use Rattle.std.proofs.lemmas.Bool.{ltb-true, ltb-false}
use Rattle.case_lines.specs.Lines.{but_last, lines_of}

abbrev ends : ℕ → Bool
ends b = b == 10

but_last-cons : (part : List ℕ) (parts : List (List ℕ)) → 0 < length parts → but_last (part ∷ parts) ≡ part ∷ but_last parts
but_last-cons part [] some = absurd (omega arith)
but_last-cons part (next ∷ parts) some = refl

lines_of-first : (text : List ℕ) → position_or_len ends text < length text → lines_of text ≡ before_first ends text ∷ lines_of (after_first ends text)
lines_of-first text found =
    ap but_last (slice_split_first ends text 0 found)
    ∙ but_last-cons _ _ (omega (arith, length-slice_split ends (after_first ends text)))

not_false : (b : Bool) → not b ≡ true → b ≡ false
not_false true h = sym h
not_false false h = refl

lines_of-none : (text : List ℕ) → length text ≤ position_or_len ends text → lines_of text ≡ []
lines_of-none text none =
    ap but_last (slice_split_none ends text (λ k d low. not_false _ (prefix_len_passes (λ b. not (ends b)) text k d (omega arith))))

-- what the place of the first byte 10 says of the lines
abbrev pub FirstLine : List ℕ → Option ℕ → Type 0
FirstLine text found = MatchOption found (lines_of text ≡ []) (λ end. (end < length text) × (lines_of text ≡ take end text ∷ lines_of (drop (end + 1) text)))

by_test : (text : List ℕ) (b : Bool) → ltb (position_or_len ends text) (length text) ≡ b → FirstLine text (cond b (Some (position_or_len ends text)) None)
by_test text true is = (ltb-true _ _ is, lines_of-first text (ltb-true _ _ is))
by_test text false is = lines_of-none text (ltb-false _ _ is)

pub first_line : (text : List ℕ) (found : Option ℕ) → found ≡ cond (ltb (position_or_len ends text) (length text)) (Some (position_or_len ends text)) None → FirstLine text found
first_line text found is = rw is (by_test text _ refl)
