-- RULES none. A plain number is read as the number that it is. Assumes nothing.
use Rattle.std.proofs.Common.{◌≡◌, ℕ, ◌+◌, ◌*◌, ◌^◌, ◌<◌, ◌≤◌, List, [], ◌∷◌, map, take, inl, inr, refl, sym, ap, subst, ◌∙◌, arith}
use Rattle.std.specs.Char.{digit_value}
use Rattle.std.specs.List.{All, fold}
use Rattle.std.specs.Str.Parse.{AllDigits, digits_value_after, digits_value, without_leading_plus}
use Rattle.std.proofs.lemmas.Bool.{cases_eq}
use Rattle.std.proofs.lemmas.Bool.Decides.{nat_tests}
use Rattle.std.proofs.lemmas.List.Elements.{All-head, All-tail}
use Rattle.std.proofs.lemmas.Str.Parse.{digit_from_value, without_leading_plus_none, without_leading_plus_plus}
use Rattle.case_lines.specs.Lines.{words_of, IsNumber, number_of, numbers_of, with_byte, number_read, numbers_read}

-- digits behind a number make it no smaller
grows : (n : ℕ) (cs : List ℕ) → n ≤ digits_value_after 10 n cs
grows n [] = omega arith
grows n (c ∷ cs) = omega (arith, grows (n * 10 + digit_value c) cs)

digit_read : (n c : ℕ) → digit_value c < 10 → n * 10 + digit_value c < 2 ^ 64 → with_byte n c ≡ n * 10 + digit_value c
digit_read n c small room = let digit = digit_from_value c small in grind (arith, nat_tests)

digits_read : (n : ℕ) (cs : List ℕ) → AllDigits 10 cs → digits_value_after 10 n cs < 2 ^ 64 → fold with_byte n cs ≡ digits_value_after 10 n cs
digits_read n [] digits room = refl
digits_read n (c ∷ cs) digits room =
    let fits : n * 10 + digit_value c < 2 ^ 64 = omega (arith, grows (n * 10 + digit_value c) cs) in
    ap (λ m. fold with_byte m cs) (digit_read n c digits.0 fits) ∙ digits_read (n * 10 + digit_value c) cs digits.1 room

-- a word, of which the rest is left behind a plus
behind_plus : (word rest : List ℕ) → without_leading_plus word ≡ rest → number_read word ≡ number_read rest → IsNumber word → number_read word ≡ number_of word
behind_plus word rest left same plain =
    let digits : AllDigits 10 rest = subst (AllDigits 10) left plain.0.1 in
    let room : digits_value 10 rest < 2 ^ 64 = subst (λ (ds : List ℕ). digits_value 10 ds < 2 ^ 64) left plain.1 in
    same ∙ digits_read 0 rest digits room ∙ sym (ap (digits_value 10) left)

plus_read : (c : ℕ) → c ≡ 43 → with_byte 0 c ≡ 0
plus_read c is = grind (arith, nat_tests)

number_plain : (word : List ℕ) → IsNumber word → number_read word ≡ number_of word
number_plain [] plain = refl
number_plain (c ∷ cs) plain =
    elim (cases_eq c 43) [
      | inl is ↦ behind_plus (c ∷ cs) cs (without_leading_plus_plus (c ∷ cs) is) (ap (λ m. fold with_byte m cs) (plus_read c is)) plain
      | inr other ↦ behind_plus (c ∷ cs) (c ∷ cs) (without_leading_plus_none (c ∷ cs) other) refl plain
    ]

all_plain : (words : List (List ℕ)) → All IsNumber words → map number_read words ≡ map number_of words
all_plain [] plain = refl
all_plain (w ∷ ws) plain =
    let one = number_plain w (All-head IsNumber w ws plain) in
    let rest = all_plain ws (All-tail IsNumber w ws plain) in
    cc

pub numbers_plain : (most : ℕ) (line : List ℕ) → All IsNumber (words_of line) → numbers_read most line ≡ take most (numbers_of line)
numbers_plain most line plain = ap (take most) (all_plain (words_of line) plain)
