-- Why the laws ask what follows a value: without it they are false. Assumes nothing.
use mathlib.Core.Path.{◌≡◌, refl}
use mathlib.Core.List.{List, [], ◌∷◌, ◌++◌}
use Prim.Native.Nat.{ℕ}
use native.Mathlib.Omega.{arith}
use lib.Dec.{T}
use Rattle.texts.specs.Rfc8259.{Tree, Trees, Ws, Token, Digits, Int, Frac, Exp, Number, Value}
use Rattle.texts.specs.Single.{no_numeric}

one : Number (49 ∷ [])
one = Number.plain (Int.more {d = 49} (omega arith) (omega arith) Digits.end) Frac.none Exp.none

twelve : Number (49 ∷ 50 ∷ [])
twelve =
    Number.plain
    (Int.more {d = 49} (omega arith) (omega arith) (Digits.digit {d = 50} (omega arith) (omega arith) Digits.end))
    Frac.none Exp.none

-- 1 and 12 both stand at the front of 12
pub needs_no_digit : ((t₁ t₂ r₁ r₂ : List ℕ) → Number t₁ → Number t₂ → t₁ ++ r₁ ≡ t₂ ++ r₂ → t₁ ≡ t₂) → ⊥
needs_no_digit f =
    let e = f (49 ∷ []) (49 ∷ 50 ∷ []) (50 ∷ []) [] one twelve refl in
    let z : ◌≡◌ {A = ℕ} 0 1 = cc in
    omega arith

-- an empty array, with white space behind its closing bracket
empty : {w : List ℕ} → Ws w → Value (91 ∷ 93 ∷ w) (Tree.array Trees.no_trees)
empty d = Value.no_items (Token.token Ws.end Ws.end) (Token.token Ws.end d)

-- the array [] without the blank behind it, and with it, both stand at the front of one text
pub needs_no_space : ((t₁ t₂ r₁ r₂ : List ℕ) (v : Tree) → Value t₁ v → Value t₂ v → T (no_numeric r₁) → T (no_numeric r₂)
    → t₁ ++ r₁ ≡ t₂ ++ r₂ → t₁ ≡ t₂) → ⊥
needs_no_space f =
    let e =
    f (91 ∷ 93 ∷ []) (91 ∷ 93 ∷ 32 ∷ []) (32 ∷ []) [] (Tree.array Trees.no_trees)
    (empty Ws.end) (empty (Ws.blank Ws.end)) tt tt refl in
    let z : ◌≡◌ {A = ℕ} 0 1 = cc in
    omega arith
