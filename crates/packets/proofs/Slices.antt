-- What std says of slices, in the words of the rules.
-- Assumes nothing.
use Rattle.std.proofs.Common.{◌≡◌, refl, sym, ap, ◌∙◌, arith, ℕ, ◌-◌, ◌≤◌, ◌<◌, Bool, true, false, ◌&&◌, List, [], ◌∷◌, length, take, drop, get_or, eqb, ltb, le-ltb, min, length-drop}
use Rattle.std.proofs.Math.Seq.{drop-cons, take_all}
use lib.ListN.{drop_of_length-le}
use Rattle.std.proofs.lemmas.Bool.Decides.{nat_tests}
use borrow.Author.Tests.{ltb-true, ltb-false}
use Rattle.std.specs.List.{starts_with as begins_with}
use Rattle.std.specs.Char.{is_ascii_digit}
use Rattle.loops.specs.Pick.{either}
use Rattle.texts.specs.Literals.{starts_with, lit_at}
use Rattle.texts.specs.LiteralLaws.{with_short}
use Rattle.texts.specs.Readers.{is_digit, starts_num}
use Rattle.texts.specs.NumberLaws.{starts_end}

turned : (x y : ℕ) → eqb x y ≡ eqb y x
turned x y = grind (arith, nat_tests)

-- a text at a place
begins : (t s : List ℕ) → begins_with eqb s t ≡ starts_with t s
unfolding starts_with
begins [] s = refl
begins (x ∷ t) [] = refl
begins (x ∷ t) (y ∷ s) = rw (begins t s, turned x y) (both_is (eqb y x) (starts_with t s))
  where
    both_is : (p q : Bool) → (p && q) ≡ either p q false
    both_is true q = refl
    both_is false q = refl

-- what stands from a place on
rest_is : (at : ℕ) (s : List ℕ) → take (length s - min at (length s)) (drop (min at (length s)) s) ≡ drop at s
rest_is at s = take_all (length s - min at (length s)) (drop (min at (length s)) s) (omega (arith, length-drop (min at (length s)) s)) ∙ go (ltb at (length s)) refl
  where
    go : (t : Bool) → ltb at (length s) ≡ t → drop (min at (length s)) s ≡ drop at s
    go true e = let k : min at (length s) ≡ at = omega (arith, ltb-true at (length s) e) in ap (λ (n : ℕ). drop n s) k
    go false e =
        rw (drop_of_length-le s {i = at} (ltb-false at (length s) e), drop_of_length-le s {i = min at (length s)} (omega (arith, ltb-false at (length s) e)))

pub found_at : (s : List ℕ) (at : ℕ) (t : List ℕ)
    → begins_with eqb (take (length s - min at (length s)) (drop (min at (length s)) s)) t ≡ lit_at s at t
unfolding lit_at
found_at s at t = begins t _ ∙ ap (starts_with t) (rest_is at s)

-- a byte at a place
either_is : (t : Bool) → t ≡ either t true false
either_is true = refl
either_is false = refl

pub byte_there : (s : List ℕ) (at b : ℕ) → at < length s → eqb (get_or s at 0) b ≡ lit_at s at (b ∷ [])
unfolding lit_at starts_with
byte_there s at b h = rw (drop-cons s at 0 h) (either_is (eqb (get_or s at 0) b))

pub byte_none : (s : List ℕ) (at b : ℕ) → length s ≤ at → ltb at (length s) ≡ lit_at s at (b ∷ [])
unfolding lit_at
byte_none s at b h = le-ltb at (length s) h ∙ sym (with_short s at (b ∷ []) 0 (omega arith) h)

pub digit_is : (b : ℕ) → is_ascii_digit b ≡ is_digit b
unfolding is_digit
digit_is b = grind (arith, nat_tests)

-- where a number starts there is a byte
pub starts_within : (s : List ℕ) (at : ℕ) → starts_num (drop at s) ≡ true → at < length s
starts_within s at h = go (ltb at (length s)) refl
  where
    no : false ≡ true → at < length s
    no e = let z : ◌≡◌ {A = ℕ} 0 1 = cc in absurd (omega arith)

    go : (t : Bool) → ltb at (length s) ≡ t → at < length s
    go true e = ltb-true at (length s) e
    go false e = no (sym (starts_end s at (ltb-false at (length s) e)) ∙ h)
