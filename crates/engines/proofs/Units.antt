-- A unit is the fraction that RULES 3.2 names, and a frame is lost if that fraction lies below the loss
-- (specs/Exact). Assumes nothing.
use Rattle.std.proofs.Common.{◌≡◌, ℕ, ◌+◌, ◌-◌, ◌*◌, ◌^◌, ◌<◌, ◌≤◌, Bool, true, false, ◌&&◌, T, ltb, ℤ, pos, sym, refl, ap, ◌∙◌, subst, true≢false, zero-le, lt_of_lt_of_le, mul_assoc, mul_comm, mul-pos, one-mul, lt_of_not-le, zero-mul, mul-one, mul_right_comm, not-le_of_lt, mul_left_comm, arith, le→leb, pow_pos, pow_mono, pow-add, shl_lt, ltb-false, ltb-true, le-ltb, lt-ltb, eqb-true}
use native.Mathlib.Nat.{eq_of_mul-eq-mul_right}
use mathlib.Core.Bool.{false≢true}
use lib.Ieee.{Float, nan, inf, fin, binary64, up, down, div, of_int, of_bits, of_fields, odd, round, in_float, lt, le, eq}
use lib.Ieee.Digits.{back}
use lib.Ieee.Fits.{down_pos}
use lib.Ieee.Exact.{HasValue, round_exact}
use lib.Ieee.Back.{round_whole}
use lib.Ieee.Order.{transfer}
use Rattle.engines.specs.Words.{unit_of, lost_of}
use Rattle.engines.specs.Settings.{loss_accepted}
use Rattle.engines.specs.Exact.{Exactly, Fraction, UnitExact, LossExact, LostExact}

-- what has a value is that fraction
exactly : (x : Float) (s : Bool) (a c : ℕ) → HasValue x s a c → Exactly x s a c
exactly nan s a c h = absurd h
exactly (inf t) s a c h = absurd h
exactly (fin t m e) s a c h = record { m = m; e = e; is = ap (λ (b : Bool). fin b m e) h.0; across = h.1 }

-- ---- the unit

-- a fraction (q * d) / (p * d) is q / p
reduced : (x : Float) (q p d : ℕ) → 0 < d → HasValue x false (q * d) (p * d) → HasValue x false q p
reduced nan q p d D h = h
reduced (inf t) q p d D h = h
reduced (fin t m e) q p d D h = (
  h.0,
  eq_of_mul-eq-mul_right d D (m * up e * p) (q * down e)
      (mul_assoc (m * up e) p d ∙ h.1 ∙ mul_right_comm q d (down e)),
)

split : (q d a b c : ℕ) → a * b ≡ c → q * d * c ≡ q * a * (b * d)
split q d a b c e = rw (← e) (simp (mul_assoc, mul_comm, mul_left_comm))

-- q of at most 53 digits, divided by a power of two: all its digits have place
quotient : (q d k : ℕ) → 0 < d → k ≤ 1074 → q < 2 ^ 53
    → HasValue (round binary64 false (q * d) (2 ^ k * d)) false q (2 ^ k)
quotient q d k D K h =
    let j = 1074 - k in
    let all : 2 ^ j * 2 ^ k ≡ 2 ^ 1074 = sym (pow-add 2 j k) ∙ ap (λ (i : ℕ). 2 ^ i) (back 1074 k K) in
    let fine : 53 + (1074 - k) ≤ 1074 + 1024 = omega arith in
    reduced (round binary64 false (q * d) (2 ^ k * d)) q (2 ^ k) d D
    (round_exact binary64 false (q * d) (2 ^ k * d) q j (mul-pos (pow_pos k) D) h
    (lt_of_lt_of_le (shl_lt 53 j h) (pow_mono fine))
    (split q d (2 ^ j) (2 ^ k) (2 ^ 1074) all))

-- a whole number q of so many digits, as a binary64 value, divided by a power of two
divided : (x : Float) (q k : ℕ) → k ≤ 1074 → q < 2 ^ 53 → HasValue x false q 1
    → HasValue (div binary64 x (fin false 1 (pos k))) false q (2 ^ k)
unfolding div
divided nan q k K h v = v
divided (inf t) q k K h v = v
divided (fin true m e) q k K h v = absurd (true≢false v.0)
divided (fin false m e) q k K h v =
    subst (λ (i : ℕ). HasValue (round binary64 false i (1 * 2 ^ k * down e)) false q (2 ^ k)) (sym v.1)
    (subst (λ (i : ℕ). HasValue (round binary64 false (q * down e) (i * down e)) false q (2 ^ k)) (sym (one-mul (2 ^ k)))
    (quotient q (down e) k (down_pos e) K h))

whole_divided : (q k : ℕ) → k ≤ 1074 → q < 2 ^ 53
    → HasValue (div binary64 (of_int binary64 (pos q)) (fin false 1 (pos k))) false q (2 ^ k)
unfolding of_int
whole_divided q k K h = divided (round binary64 false q 1) q k K h (round_whole binary64 false q (omega arith))

pub unit_exact : UnitExact
unfolding unit_of of_bits of_fields odd
unit_exact w h = exactly _ _ _ _ (whole_divided _ _ (omega arith) (omega arith))

-- a count that the cast takes as it is
pub cast_fits : (k : ℕ) → k ≤ 2 ^ 53 → T (in_float binary64 (pos k))
unfolding in_float
cast_fits k h = le→leb k (2 ^ 53) h

-- ---- comparisons of fractions

-- x / d is x' / d', and y / c is y' / c': x / d < y / c and x' / d' < y' / c' are one question
compared : (x y d c x' y' d' c' : ℕ) → 0 < d → 0 < c → 0 < d' → 0 < c' → x * d' ≡ x' * d → y * c' ≡ y' * c
    → ltb (x * c) (y * d) ≡ ltb (x' * c') (y' * d')
compared x y d c x' y' d' c' D C D' C' p q = go (ltb (x' * c') (y' * d')) refl
  where
    go : (b : Bool) → ltb (x' * c') (y' * d') ≡ b → ltb (x * c) (y * d) ≡ b
    go false e = le-ltb (x * c) (y * d) (transfer y x c d y' x' c' d' C' D' q p (ltb-false (x' * c') (y' * d') e))
    go true e =
        lt-ltb (x * c) (y * d)
        (lt_of_not-le (λ (h : y * d ≤ x * c).
        not-le_of_lt (ltb-true (x' * c') (y' * d') e) (transfer y' x' c' d' y x c d C D (sym q) (sym p) h)))

-- ---- losses

no : {A : Type 0} → ◌≡◌ {A = Bool} false true → A
no h = absurd (false≢true h)

left : (a b : Bool) → (a && b) ≡ true → a ≡ true
left true b h = refl
left false b h = no h

-- an accepted loss with a minus sign is 0
minus_zero : (n : ℕ) (d : ℤ) → loss_accepted (fin true n d) ≡ true → n * up d ≡ 0
unfolding loss_accepted of_bits of_fields odd le lt eq
minus_zero n d h =
    let same = eqb-true (0 * down d) (n * up d * 1) (left _ _ (left _ _ h)) in
    sym (sym (zero-mul (down d)) ∙ same ∙ mul-one (n * up d))

finite : (s : Bool) (m : ℕ) (e : ℤ) → (s ≡ true → m * up e ≡ 0) → Fraction (fin s m e)
finite s m e z =
    record {
      minus = s;
      over = m * up e;
      under = down e;
      divides = down_pos e;
      is = record { m = m; e = e; is = refl; across = refl };
      zero = z;
    }

pub loss_exact : LossExact
unfolding loss_accepted of_bits of_fields odd le lt eq
loss_exact nan h = no h
loss_exact (inf true) h = no h
loss_exact (inf false) h = no h
loss_exact (fin true m e) h = finite true m e (λ z. minus_zero m e h)
loss_exact (fin false m e) h = finite false m e (λ z. no z)

-- ---- the draw

-- a unit m * 2 ^ e that is k / p, and an accepted loss n * 2 ^ d of either sign that is a / c
below : (m : ℕ) (e : ℤ) (k p : ℕ) (s : Bool) (n : ℕ) (d : ℤ) (a c : ℕ) → 0 < p → 0 < c
    → m * up e * p ≡ k * down e → n * up d * c ≡ a * down d → loss_accepted (fin s n d) ≡ true
    → lt (fin false m e) (fin s n d) ≡ ltb (k * c) (a * p)
unfolding lt
below m e k p false n d a c P C y z h =
    compared (m * up e) (n * up d) (down e) (down d) k a p c (down_pos e) (down_pos d) P C y z
below m e k p true n d a c P C y z h =
    let none : a * down d ≡ 0 = sym z ∙ ap (λ (i : ℕ). i * c) (minus_zero n d h) ∙ zero-mul c in
    let nothing : a ≡ 0 = eq_of_mul-eq-mul_right (down d) (down_pos d) a 0 (none ∙ sym (zero-mul (down d))) in
    sym (le-ltb (k * c) (a * p) (rw (nothing, zero-mul) zero-le))

pub lost_exact : LostExact
unfolding lost_of
lost_exact w x minus a c W h C y =
    let u = unit_exact w W in
    ap (λ (v : Float). lt v x) u.is
    ∙ ap (lt (fin false u.m u.e)) y.is
    ∙ below u.m u.e _ _ minus y.m y.e a c (omega arith) C u.across y.across
    (ap loss_accepted (sym y.is) ∙ h)
