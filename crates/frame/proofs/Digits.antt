-- Digits and numbers of a frame line, as the code reads them. Assumes nothing.
use mathlib.Core.Path.{◌≡◌, refl}
use mathlib.Core.Bool.{Bool, true, false, ◌&&◌, ◌||◌}
use mathlib.Core.Logic.{◌⊎◌, inl, inr, ⊎_elim}
use mathlib.Core.List.{List}
use Prim.Native.Nat.{ℕ, zero, suc, ◌+◌, ◌-◌, ◌*◌, ◌/◌, ◌%◌, ◌^◌, ◌≤◌, ◌<◌}
use native.Mathlib.Nat.{pow-suc, pow-le-pow_right}
use native.Mathlib.Numerals.{add-one}
use native.Mathlib.Omega.{arith}
use lib.ListN.{length, get_or}
use lib.Dec.{leb}
use borrow.Author.Tests.{le-leb, lt-leb, leb-true}
use Rattle.loops.specs.Pick.{either}
use Rattle.marks.specs.Marks.{all_of}
use Rattle.marks.specs.Sets.{all_at, all_more, all_left}
use Rattle.frame.specs.Lines.{is_hex, digit_of, all_hex, number_at, name_byte, name_fits}

hex_ranges : (b : ℕ) → is_hex b ≡ true → ((48 ≤ b) × (b ≤ 57)) ⊎ ((65 ≤ b) × (b ≤ 70))
hex_ranges b e = go (leb 48 b) (leb b 57) (leb 65 b) (leb b 70) refl refl refl refl e
  where
    go : (p q r s : Bool) → leb 48 b ≡ p → leb b 57 ≡ q → leb 65 b ≡ r → leb b 70 ≡ s → ((p && q) || (r && s)) ≡ true → ((48 ≤ b) × (b ≤ 57)) ⊎ ((65 ≤ b) × (b ≤ 70))
    go true true r s h k l m e = inl (leb-true 48 b h, leb-true b 57 k)
    go true false true true h k l m e = inr (leb-true 65 b l, leb-true b 70 m)
    go false q true true h k l m e = inr (leb-true 65 b l, leb-true b 70 m)
    go true false true false h k l m e = absurd (let z : ◌≡◌ {A = ℕ} 0 1 = cc in omega arith)
    go true false false s h k l m e = absurd (let z : ◌≡◌ {A = ℕ} 0 1 = cc in omega arith)
    go false q true false h k l m e = absurd (let z : ◌≡◌ {A = ℕ} 0 1 = cc in omega arith)
    go false q false s h k l m e = absurd (let z : ◌≡◌ {A = ℕ} 0 1 = cc in omega arith)

-- the value of a digit without a test
pub value_is : (b : ℕ) → is_hex b ≡ true → b % 16 + b / 64 * 9 ≡ digit_of b
value_is b e = ⊎_elim (λ h. low h.0 h.1) (λ h. high h.0 h.1) (hex_ranges b e)
  where
    low : 48 ≤ b → b ≤ 57 → b % 16 + b / 64 * 9 ≡ digit_of b
    low h k = rw (le-leb 48 b h, le-leb b 57 k) (omega arith)

    high : 65 ≤ b → b ≤ 70 → b % 16 + b / 64 * 9 ≡ digit_of b
    high h k = rw (le-leb 48 b (omega arith), lt-leb b 57 (omega arith), le-leb 65 b h, le-leb b 70 k) (omega arith)

pub hex_at : (s : List ℕ) (i : ℕ) → all_hex s ≡ true → i < length s → is_hex (get_or s i 0) ≡ true
unfolding all_hex
hex_at s i e h = all_at (length s) (λ j. is_hex (get_or s j 0)) e i h

pub digit_lt : (b : ℕ) → digit_of b < 16
digit_lt b = go (leb 48 b) (leb b 57) refl (leb 65 b) (leb b 70) refl
  where
    go : (p q : Bool) → leb b 57 ≡ q → (r s : Bool) → leb b 70 ≡ s → either (p && q) (b - 48) (either (r && s) (b - 55) 0) < 16
    go true true e r s f = omega (arith, leb-true b 57 e)
    go true false e true true f = omega (arith, leb-true b 70 f)
    go true false e true false f = omega arith
    go true false e false s f = omega arith
    go false q e true true f = omega (arith, leb-true b 70 f)
    go false q e true false f = omega arith
    go false q e false s f = omega arith

-- the first i bytes are digits
abbrev pub hex_upto : List ℕ → ℕ → Bool
hex_upto s i = all_of i (λ j. is_hex (get_or s j 0))

pub hex_none : (s : List ℕ) → hex_upto s 0 ≡ true
unfolding all_of
hex_none s = refl

pub hex_more : (s : List ℕ) (i : ℕ) → hex_upto s (i + 1) ≡ (hex_upto s i && is_hex (get_or s i 0))
unfolding all_of
hex_more s i = rw (add-one i)

pub hex_all : (s : List ℕ) → all_hex s ≡ hex_upto s (length s)
unfolding all_hex
hex_all s = refl

-- c digits are a number below 16 ^ c
pub number_lt : (s : List ℕ) (i c : ℕ) → number_at s i c < 16 ^ c
unfolding number_at
number_lt s i zero = omega arith
number_lt s i (suc c) = omega (arith, number_lt s i c, digit_lt (get_or s (i + c) 0), pow-suc 16 c)

pub byte_lt : (s : List ℕ) (i : ℕ) {v : ℕ} → v ≡ number_at s i 2 → v < 256
byte_lt s i e = omega (arith, number_lt s i 2)

-- a digit more
pub number_more : (s : List ℕ) (i k v d : ℕ) → v ≡ number_at s i k → d ≡ digit_of (get_or s (i + k) 0) → v * 16 + d ≡ number_at s i (k + 1)
unfolding number_at
number_more s i k v d e f = rw (add-one k, e, f)

pub number_none : (s : List ℕ) (i : ℕ) → 0 ≡ number_at s i 0
unfolding number_at
number_none s i = refl

-- one digit more fits a word while there are fewer than 16
pub number_room : (s : List ℕ) (i k v : ℕ) → k < 16 → v ≡ number_at s i k → v * 16 + 15 < 2 ^ 64
number_room s i k v h e = omega (arith, number_lt s i k, pow-le-pow_right {n = 16} (omega arith) {i = k} {j = 15} (omega arith))

pub four_bytes_lt : (s : List ℕ) (i : ℕ) {v : ℕ} → v ≡ number_at s i 8 → v < 2 ^ 32
four_bytes_lt s i e = omega (arith, number_lt s i 8)

-- a byte more of a name
pub name_none : (s : List ℕ) → name_fits s 0 ≡ true
unfolding name_fits all_of
name_none s = refl

pub name_more : (s : List ℕ) (k : ℕ) → name_fits s k ≡ true → name_byte s k ≡ true → name_fits s (k + 1) ≡ true
unfolding name_fits
name_more s k e f = all_more (λ j. name_byte s j) k e f

-- a byte that does not print
pub name_bad : (s : List ℕ) (k n : ℕ) → k < n → name_byte s k ≡ false → name_fits s n ≡ false
unfolding name_fits
name_bad s k n h f = all_left (λ j. name_byte s j) k n h f
