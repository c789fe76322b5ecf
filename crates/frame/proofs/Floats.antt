-- Patterns of bits that are no number. Assumes nothing.
use mathlib.Core.Path.{◌≡◌, refl}
use mathlib.Core.Bool.{Bool, true, false, not, ◌&&◌, cond}
use Prim.Native.Nat.{ℕ, zero, suc, ◌/◌, ◌%◌, ◌<◌}
use native.Mathlib.Omega.{arith}
use lib.Dec.{eqb}
use borrow.Author.Tests.{eq-eqb, ne_eqb}
use lib.Ieee.{Float, nan, inf, binary64, of_bits, of_fields, nan_bits, hid, ones, top}

no : false ≡ true → ⊥
no e = let z : ◌≡◌ {A = ℕ} 0 1 = cc in omega arith

pick : (p q : Bool) (s : Bool) (z : Float) → (p && not q) ≡ true → cond p (cond q (inf s) nan) z ≡ nan
pick true true s z e = absurd (no e)
pick true false s z e = refl
pick false q s z e = absurd (no e)

fields : (s : Bool) (x t : ℕ) → (eqb x (ones binary64) && not (eqb t 0)) ≡ true → of_fields binary64 s x t ≡ nan
unfolding of_fields
fields s zero t e = absurd (no e)
fields s (suc x) t e = pick (eqb (suc x) (ones binary64)) (eqb t 0) s _ e

nan_bits_lem : (b : ℕ) → nan_bits binary64 b ≡ true → of_bits binary64 b ≡ nan
unfolding of_bits nan_bits
nan_bits_lem b e = fields _ (b % top binary64 / hid binary64) (b % hid binary64) e

full : (b : ℕ) → 0x7ff0_0000_0000_0000 < b % 0x8000_0000_0000_0000 → nan_bits binary64 b ≡ true
unfolding nan_bits
full b h = rw (eq-eqb (b % 0x8000_0000_0000_0000 / 0x10_0000_0000_0000) 2047 (omega arith), ne_eqb (b % 0x10_0000_0000_0000) 0 (λ z. omega arith))

-- what stands above infinity is no number
pub nan_above : (b : ℕ) → 0x7ff0_0000_0000_0000 < b % 0x8000_0000_0000_0000 → of_bits binary64 b ≡ nan
nan_above b h = nan_bits_lem b (full b h)
