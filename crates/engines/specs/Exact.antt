-- RULES 3.2: a unit is exact, so that a draw compares the two numbers themselves and none that are near
-- them. Assumes nothing.
use Rattle.std.specs.Prelude.{◌≡◌, ℕ, ◌*◌, ◌/◌, ◌^◌, ◌<◌, Bool, true, false, ℤ, nat_lt, Float}
use Rattle.std.specs.Float.{fin}
use Rattle.std.specs.Float.Ieee.{up, down}
use Rattle.engines.specs.Words.{unit_of, lost_of}
use Rattle.engines.specs.Settings.{loss_accepted}

-- x is the fraction a / c itself, with a minus sign if `minus` says so. A binary64 number is m * 2 ^ e, and 2 ^ e is
-- the fraction up e / down e; that m * up e / down e is a / c is said by the products across.
pub record Exactly (x : Float) (minus : Bool) (a c : ℕ) : Type 0 where
  pub m : ℕ
  pub e : ℤ
  pub is : x ≡ fin minus m e
  pub across : m * up e * c ≡ a * down e

-- some fraction that x is; with a minus sign it is 0
pub record Fraction (x : Float) : Type 0 where
  pub minus : Bool
  pub over : ℕ
  pub under : ℕ
  pub divides : 0 < under
  pub is : Exactly x minus over under
  pub zero : minus ≡ true → over ≡ 0

-- For every word: its unit is (w / 2^11) / 2^53. It is not negative, and nothing is rounded.
abbrev pub UnitExact : Type 0
UnitExact = (w : ℕ) → w < 2 ^ 64 → Exactly (unit_of w) false (w / 2 ^ 11) (2 ^ 53)

-- Every loss that is accepted is some fraction, and has a minus sign only if it is -0.
abbrev pub LossExact : Type 0
LossExact = (x : Float) → loss_accepted x ≡ true → Fraction x

-- So with a loss that is a / c a frame is lost just if (w / 2^11) / 2^53 lies below a / c.
abbrev pub LostExact : Type 0
LostExact =
    (w : ℕ) (x : Float) (minus : Bool) (a c : ℕ) → w < 2 ^ 64 → loss_accepted x ≡ true → 0 < c → Exactly x minus a c
    → lost_of w x ≡ nat_lt (w / 2 ^ 11 * c) (a * 2 ^ 53)
