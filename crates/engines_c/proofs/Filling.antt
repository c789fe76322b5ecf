-- Arrays that are made by a rule for their entries. Assumes nothing.
use Rattle.std.proofs.Common.{◌≡◌, ℕ, zero, suc, ◌+◌, ◌<◌, ◌≤◌, Bool, true, false, List, get_or, refl, sym, ◌∙◌, subst, arith, ext_get_or, eqb, eqb-true}
use denote.Param.Members.{Mut}
use borrow.Author.Tests.{eqb-false}
use Rattle.std.specs.Fn.{Called}
use Rattle.std.specs.Array.{IsFromFnResult, IsFromFnResultFrom}
use Rattle.loops.specs.Table.{tabulate, tabulate_at, length_tabulate}

-- calls that leave the rule as it is, and give its entries
module _ {F B : Type 0} (g : Mut F (ℕ × Unit {0}) B) (f : F) (h : ℕ → B) (d : B) (same : (i : ℕ) (y : B) (q : F) → Called g f (i, tt) y q → (y ≡ h i) × (q ≡ f)) where
  entries : (ys : List B) (i n : ℕ) (p : F) → p ≡ f → IsFromFnResultFrom g p ys i n → (j : ℕ) → i ≤ j → j < i + n → get_or ys j d ≡ h j
  entries ys i zero p e each j a b = absurd (omega arith)
  entries ys i (suc n) p e each j a b = by (λ q s rest l. entries ys (i + 1) n q s rest j l (omega arith)) (eqb j i) refl
    where
      called : Called g f (i, tt) each.1 each.0
      called = subst (λ (p : F). Called g p (i, tt) each.1 each.0) e each.3

      by : ((q : F) → q ≡ f → IsFromFnResultFrom g q ys (i + 1) n → i + 1 ≤ j → get_or ys j d ≡ h j) → (t : Bool) → eqb j i ≡ t → get_or ys j d ≡ h j
      by later true k = rw (eqb-true j i k) (each.2.1 d ∙ (same i each.1 each.0 called).0)
      by later false k = let apart = eqb-false j i k in later each.0 (same i each.1 each.0 called).1 each.4 (omega arith)

  pub made_by : (ys : List B) (n : ℕ) → IsFromFnResult g f ys n → ys ≡ tabulate n h
  made_by ys n made =
      ext_get_or d ys (tabulate n h) (made.long ∙ sym (length_tabulate n h))
      (λ j b.
      let low : j < n = omega (arith, made.long) in
      entries ys 0 n f refl made.each j (omega arith) (omega arith) ∙ sym (tabulate_at n h j d low))
