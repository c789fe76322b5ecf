-- Strings: a reader of characters up to the closing mark, a device of the proofs, and that it reads what the grammar
-- has. It is free on all else: an escape is not checked. Assumes nothing.
use mathlib.Core.Path.{◌≡◌, refl, subst}
use mathlib.Core.Bool.{Bool, true, false, cond, ◌&&◌, ◌||◌, not}
use mathlib.Core.List.{List, [], ◌∷◌, ◌++◌}
use Prim.Native.Nat.{ℕ, zero, suc, ◌+◌, ◌-◌, ◌*◌, ◌/◌, ◌%◌, ◌≤◌, ◌<◌}
use native.Mathlib.Omega.{arith}
use lib.Dec.{T, leb, ltb, eqb, leb→le, ltb→lt, eqb→eq}
use borrow.Author.Tests.{lt-ltb, le-ltb, ne_eqb}
use Rattle.texts.specs.Rfc8259.{is_plain, Escape, Hex, is_tail, is_two, is_three, is_four, above, Chars}
use Rattle.texts.specs.JsonLaws.{left, right}

abbrev pub hd : List ℕ → ℕ
hd [] = 0
hd (b ∷ s) = b

abbrev pub tl : List ℕ → List ℕ
tl [] = []
tl (b ∷ s) = s

-- the character behind a backslash, and the value of a hexadecimal digit
abbrev escaped : ℕ → ℕ
escaped c =
    cond (eqb c 98) 8 (cond (eqb c 102) 12 (cond (eqb c 110) 10 (cond (eqb c 114) 13 (cond (eqb c 116) 9 c))))

abbrev hex : ℕ → ℕ
hex b = cond (ltb b 58) (b - 48) (cond (ltb b 71) (b - 55) (b - 87))

-- a character: its code units, and what is behind it
abbrev Char : Type 0
Char = List ℕ × List ℕ

abbrev unit_at : ℕ → ℕ → ℕ → ℕ → List ℕ → Char
unit_at a b c d s = ((hex a * 4096 + hex b * 256 + hex c * 16 + hex d) ∷ [], s)

abbrev escape_at : ℕ → List ℕ → Char
escape_at c s =
    cond (eqb c 117) (unit_at (hd s) (hd (tl s)) (hd (tl (tl s))) (hd (tl (tl (tl s)))) (tl (tl (tl (tl s)))))
    (escaped c ∷ [], s)

abbrev two_at : ℕ → ℕ → List ℕ → Char
two_at a b s = (((a - 192) * 64 + (b - 128)) ∷ [], s)

abbrev three_at : ℕ → ℕ → ℕ → List ℕ → Char
three_at a b c s = (((a - 224) * 4096 + (b - 128) * 64 + (c - 128)) ∷ [], s)

abbrev four_at : ℕ → ℕ → ℕ → ℕ → List ℕ → Char
four_at a b c d s = ((55296 + above a b c d / 1024) ∷ (56320 + above a b c d % 1024) ∷ [], s)

unfoldable pub char_at : ℕ → List ℕ → Char
char_at a s =
    cond (ltb a 128) (cond (eqb a 92) (escape_at (hd s) (tl s)) (a ∷ [], s))
    (cond (ltb a 224) (two_at a (hd s) (tl s))
    (cond (ltb a 240) (three_at a (hd s) (hd (tl s)) (tl (tl s)))
    (four_at a (hd s) (hd (tl s)) (hd (tl (tl s))) (tl (tl (tl s))))))

-- the code units up to the closing mark, and what is behind the mark; n bounds the number of characters
unfoldable pub chars_at : ℕ → List ℕ → Char
chars_at zero s = ([], [])
chars_at (suc n) [] = ([], [])
chars_at (suc n) (b ∷ s) =
    cond (eqb b 34) ([], s) (let p = chars_at n (char_at b s).1 in ((char_at b s).0 ++ p.0, p.1))

-- ---- hexadecimal digits and escapes
of_hex : {b p : ℕ} → Hex b p → hex b ≡ p
of_hex (Hex.digit {b} h k) = rw (lt-ltb b 58 k)
of_hex (Hex.upper {b} h k) = rw (le-ltb b 58 (omega arith), lt-ltb b 71 k)
of_hex (Hex.lower {b} h k) = rw (le-ltb b 58 (omega arith), le-ltb b 71 (omega arith))

of_escape : {c b : ℕ} → Escape c b → (s : List ℕ) → escape_at c s ≡ (b ∷ [], s)
of_escape Escape.quote s = refl
of_escape Escape.backslash s = refl
of_escape Escape.slash s = refl
of_escape Escape.backspace s = refl
of_escape Escape.form s = refl
of_escape Escape.line s = refl
of_escape Escape.return s = refl
of_escape Escape.tab s = refl

-- ---- what the tests on first bytes say
-- the closing mark is not plain, and neither is a backslash
not_mark : (b : ℕ) → T (is_plain b) → b ≡ 34 → ⊥
not_mark b h e = subst (λ x. T (is_plain x)) e h

not_backslash : (b : ℕ) → T (is_plain b) → b ≡ 92 → ⊥
not_backslash b h e = subst (λ x. T (is_plain x)) e h

plain_small : (b : ℕ) → T (is_plain b) → b < 128
plain_small b h =
    let rest = not (eqb b 34) && not (eqb b 92) in
    ltb→lt b 128 (left (ltb b 128) rest (right (leb 32 b) (ltb b 128 && rest) h))

two_range : (a b : ℕ) → T (is_two a b) → (194 ≤ a) × (a < 224)
two_range a b h =
    let h1 = left (leb 194 a && ltb a 224) (is_tail b) h in
    (leb→le 194 a (left (leb 194 a) (ltb a 224) h1), ltb→lt a 224 (right (leb 194 a) (ltb a 224) h1))

or_cases : {P : Type 0} (a b : Bool) → (T a → P) → (T b → P) → T (a || b) → P
or_cases true b f g h = f tt
or_cases false b f g h = g h

three_range : (a b c : ℕ) → T (is_three a b c) → (224 ≤ a) × (a < 240)
three_range a b c h =
    let x = eqb a 224 && (leb 160 b && ltb b 192) in
    let y = eqb a 237 && (leb 128 b && ltb b 160) in
    let z = (leb 225 a && (ltb a 240 && not (eqb a 237))) && is_tail b in
    or_cases x (y || z)
    (λ k. let e = eqb→eq a 224 (left (eqb a 224) (leb 160 b && ltb b 192) k) in (omega arith, omega arith))
    (or_cases y z
    (λ k. let e = eqb→eq a 237 (left (eqb a 237) (leb 128 b && ltb b 160) k) in (omega arith, omega arith))
    (λ k.
    let k1 = left (leb 225 a && (ltb a 240 && not (eqb a 237))) (is_tail b) k in
    let p = leb→le 225 a (left (leb 225 a) (ltb a 240 && not (eqb a 237)) k1) in
    let q = ltb→lt a 240 (left (ltb a 240) (not (eqb a 237)) (right (leb 225 a) (ltb a 240 && not (eqb a 237)) k1)) in
    (omega arith, q)))
    (left (x || (y || z)) (is_tail c) h)

four_range : (a b c d : ℕ) → T (is_four a b c d) → 240 ≤ a
four_range a b c d h =
    let x = eqb a 240 && (leb 144 b && ltb b 192) in
    let y = eqb a 244 && (leb 128 b && ltb b 144) in
    let z = (leb 241 a && ltb a 244) && is_tail b in
    or_cases x (y || z)
    (λ k. let e = eqb→eq a 240 (left (eqb a 240) (leb 144 b && ltb b 192) k) in omega arith)
    (or_cases y z
    (λ k. let e = eqb→eq a 244 (left (eqb a 244) (leb 128 b && ltb b 144) k) in omega arith)
    (λ k.
    let p = leb→le 241 a (left (leb 241 a) (ltb a 244) (left (leb 241 a && ltb a 244) (is_tail b) k)) in
    omega arith))
    (left (x || (y || z)) (is_tail c && is_tail d) h)

-- ---- one character
open_same : (b : ℕ) (s : List ℕ) → T (is_plain b) → (eqb b 34 ≡ false) × (char_at b s ≡ (b ∷ [], s))
unfolding char_at
open_same b s h =
    (ne_eqb b 34 (not_mark b h), rw (lt-ltb b 128 (plain_small b h), ne_eqb b 92 (not_backslash b h)))

open_two : (a b : ℕ) (s : List ℕ) → T (is_two a b) → (eqb a 34 ≡ false) × (char_at a (b ∷ s) ≡ two_at a b s)
unfolding char_at
open_two a b s h =
    let r = two_range a b h in
    (ne_eqb a 34 (omega arith), rw (le-ltb a 128 (omega arith), lt-ltb a 224 r.1))

open_three : (a b c : ℕ) (s : List ℕ) → T (is_three a b c)
    → (eqb a 34 ≡ false) × (char_at a (b ∷ c ∷ s) ≡ three_at a b c s)
unfolding char_at
open_three a b c s h =
    let r = three_range a b c h in
    (ne_eqb a 34 (omega arith), rw (le-ltb a 128 (omega arith), le-ltb a 224 r.0, lt-ltb a 240 r.1))

open_four : (a b c d : ℕ) (s : List ℕ) → T (is_four a b c d)
    → (eqb a 34 ≡ false) × (char_at a (b ∷ c ∷ d ∷ s) ≡ four_at a b c d s)
unfolding char_at
open_four a b c d s h =
    let r = four_range a b c d h in
    (ne_eqb a 34 (omega arith), rw (le-ltb a 128 (omega arith), le-ltb a 224 (omega arith), le-ltb a 240 r))

open_escape : {c b : ℕ} (s : List ℕ) → Escape c b → char_at 92 (c ∷ s) ≡ (b ∷ [], s)
unfolding char_at
open_escape s e = of_escape e s

open_unit : {a b c d p q r z : ℕ} (s : List ℕ) → Hex a p → Hex b q → Hex c r → Hex d z
    → char_at 92 (117 ∷ a ∷ b ∷ c ∷ d ∷ s) ≡ ((p * 4096 + q * 256 + r * 16 + z) ∷ [], s)
unfolding char_at
open_unit s ha hb hc hd = rw (of_hex ha, of_hex hb, of_hex hc, of_hex hd)

-- ---- all characters of a string
-- how many steps the reader needs
unfoldable pub chars_size : {t u : List ℕ} → Chars t u → ℕ
chars_size Chars.end = 1
chars_size (Chars.same h d) = suc (chars_size d)
chars_size (Chars.two h d) = suc (chars_size d)
chars_size (Chars.three h d) = suc (chars_size d)
chars_size (Chars.four h d) = suc (chars_size d)
chars_size (Chars.escape e d) = suc (chars_size d)
chars_size (Chars.unit ha hb hc hd d) = suc (chars_size d)

-- a character that is no closing mark, and the rest
chars_step : {m : ℕ} {w x u r : List ℕ} (b : ℕ) (s : List ℕ) (n : ℕ) → suc m ≤ n
    → (eqb b 34 ≡ false) × (char_at b s ≡ (w, x)) → ((k : ℕ) → m ≤ k → chars_at k x ≡ (u, r))
    → chars_at n (b ∷ s) ≡ (w ++ u, r)
unfolding chars_at
chars_step b s zero l o f = absurd (omega arith)
chars_step b s (suc n) l o f = rw (o.0, o.1, f n (omega arith))

chars_end : (r : List ℕ) (n : ℕ) → 1 ≤ n → chars_at n (34 ∷ r) ≡ ([], r)
unfolding chars_at
chars_end r zero l = absurd (omega arith)
chars_end r (suc n) l = refl

pub read_chars : {t u : List ℕ} (d : Chars t u) (r : List ℕ) (n : ℕ) → chars_size d ≤ n
    → chars_at n (t ++ (34 ∷ r)) ≡ (u, r)
unfolding chars_size
read_chars Chars.end r n k = chars_end r n k
read_chars (Chars.same {b} {t} h d) r n k =
    chars_step b (t ++ (34 ∷ r)) n k (open_same b (t ++ (34 ∷ r)) h) (λ m l. read_chars d r m l)
read_chars (Chars.two {a} {b} {t} h d) r n k =
    chars_step a (b ∷ (t ++ (34 ∷ r))) n k (open_two a b (t ++ (34 ∷ r)) h) (λ m l. read_chars d r m l)
read_chars (Chars.three {a} {b} {c} {t} h d) r n k =
    chars_step a (b ∷ c ∷ (t ++ (34 ∷ r))) n k (open_three a b c (t ++ (34 ∷ r)) h) (λ m l. read_chars d r m l)
read_chars (Chars.four {a} {b} {c} {d = e} {t} h d) r n k =
    chars_step a (b ∷ c ∷ e ∷ (t ++ (34 ∷ r))) n k (open_four a b c e (t ++ (34 ∷ r)) h)
    (λ m l. read_chars d r m l)
read_chars (Chars.escape {c} {t} e d) r n k =
    chars_step 92 (c ∷ (t ++ (34 ∷ r))) n k (refl, open_escape (t ++ (34 ∷ r)) e) (λ m l. read_chars d r m l)
read_chars (Chars.unit {a} {b} {c} {d = e} {t} ha hb hc he d) r n k =
    chars_step 92 (117 ∷ a ∷ b ∷ c ∷ e ∷ (t ++ (34 ∷ r))) n k (refl, open_unit (t ++ (34 ∷ r)) ha hb hc he)
    (λ m l. read_chars d r m l)
