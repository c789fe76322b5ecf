-- Numbers: what the grammar has is the longest run of bytes that numbers have. Assumes nothing.
use mathlib.Core.Path.{◌≡◌, refl, ap}
use mathlib.Core.Bool.{true, false, cond}
use mathlib.Core.List.{List, [], ◌∷◌, ◌++◌}
use Prim.Native.Nat.{ℕ, ◌≤◌, ◌<◌}
use native.Mathlib.Omega.{arith}
use lib.Dec.{T}
use borrow.Author.Tests.{le-leb, lt-ltb, ne_eqb}
use Rattle.texts.specs.Rfc8259.{Digits, Int, Frac, Sign, Exp, Number}
use Rattle.texts.specs.Single.{is_space, is_numeric, no_numeric}
use Rattle.texts.proofs.Spaces.{shut}

-- the bytes of a number at the front of a text, and what is behind them
unfoldable pub run : List ℕ → List ℕ
run [] = []
run (b ∷ s) = cond (is_numeric b) (b ∷ run s) []

unfoldable pub past : List ℕ → List ℕ
past [] = []
past (b ∷ s) = cond (is_numeric b) (past s) (b ∷ s)

pub data Numeric : List ℕ → Type 0 where
  end : Numeric []
  more : {b : ℕ} {t : List ℕ} → is_numeric b ≡ true → Numeric t → Numeric (b ∷ t)

joined : {s t : List ℕ} → Numeric s → Numeric t → Numeric (s ++ t)
joined Numeric.end q = q
joined (Numeric.more h p) q = Numeric.more h (joined p q)

digit : (d : ℕ) → 48 ≤ d → d < 58 → is_numeric d ≡ true
digit d h k = rw (le-leb 48 d h, lt-ltb d 58 k)

of_digits : {t : List ℕ} → Digits t → Numeric t
of_digits Digits.end = Numeric.end
of_digits (Digits.digit {d} h k r) = Numeric.more (digit d h k) (of_digits r)

-- it begins with such a byte, which is no white space
pub data Led : List ℕ → Type 0 where
  led : {b : ℕ} {t : List ℕ} → is_space b ≡ false → is_numeric b ≡ true → Numeric t → Led (b ∷ t)

led_joined : {s t : List ℕ} → Led s → Numeric t → Led (s ++ t)
led_joined (led g h p) q = led g h (joined p q)

pub numeric : {t : List ℕ} → Led t → Numeric t
numeric (led g h p) = Numeric.more h p

no_space : (d : ℕ) → 48 ≤ d → is_space d ≡ false
no_space d h =
    rw (ne_eqb d 32 (omega arith), ne_eqb d 9 (omega arith), ne_eqb d 10 (omega arith), ne_eqb d 13 (omega arith))

of_int : {t : List ℕ} → Int t → Led t
of_int Int.only_zero = led refl refl Numeric.end
of_int (Int.more {d} h k r) = led (no_space d (omega arith)) (digit d (omega arith) k) (of_digits r)

of_frac : {t : List ℕ} → Frac t → Numeric t
of_frac Frac.none = Numeric.end
of_frac (Frac.point r) = Numeric.more refl (of_digits r)

of_sign : {t : List ℕ} → Sign t → Numeric t
of_sign Sign.none = Numeric.end
of_sign Sign.minus = Numeric.more refl Numeric.end
of_sign Sign.plus = Numeric.more refl Numeric.end

of_exp : {t : List ℕ} → Exp t → Numeric t
of_exp Exp.none = Numeric.end
of_exp (Exp.upper s r) = Numeric.more refl (joined (of_sign s) (of_digits r))
of_exp (Exp.lower s r) = Numeric.more refl (joined (of_sign s) (of_digits r))

pub of_number : {t : List ℕ} → Number t → Led t
of_number (Number.plain i f e) = led_joined (of_int i) (joined (of_frac f) (of_exp e))
of_number (Number.minus i f e) = led refl refl (joined (numeric (of_int i)) (joined (of_frac f) (of_exp e)))

run_none : (r : List ℕ) → T (no_numeric r) → run r ≡ []
unfolding run
run_none [] h = refl
run_none (b ∷ r) h = rw (shut (is_numeric b) h)

past_none : (r : List ℕ) → T (no_numeric r) → past r ≡ r
unfolding past
past_none [] h = refl
past_none (b ∷ r) h = rw (shut (is_numeric b) h)

pub run_number : {t : List ℕ} → Numeric t → (r : List ℕ) → T (no_numeric r) → run (t ++ r) ≡ t
unfolding run
run_number Numeric.end r h = run_none r h
run_number (Numeric.more {b} k p) r h = rw k (ap (b ∷◌) (run_number p r h))

pub past_number : {t : List ℕ} → Numeric t → (r : List ℕ) → T (no_numeric r) → past (t ++ r) ≡ r
unfolding past
past_number Numeric.end r h = past_none r h
past_number (Numeric.more {b} k p) r h = rw k (past_number p r h)
