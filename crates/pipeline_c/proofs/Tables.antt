-- An array that `from_fn` makes is the table of the rule that its closure follows. Assumes nothing.
use Rattle.std.proofs.Common.{◌≡◌, ℕ, zero, suc, ◌+◌, ◌<◌, ◌≤◌, List, get_or, sym, subst, ◌∙◌, arith}
use Rattle.std.proofs.lemmas.List.{ext_get_or}
use Rattle.std.proofs.Math.Decide.{dec_lt}
use Rattle.std.specs.Array.{IsFromFnResultFrom, IsFromFnResult}
use denote.Param.Members.{Mut, Called}
use Rattle.loops.specs.Table.{tabulate, length_tabulate, tabulate_at}

module _ {F B : Type 0} (g : Mut F (ℕ × Unit {0}) B) (f : F) (rule : ℕ → B) (one : (i : ℕ) (y : B) (q : F) → Called g f (i, tt) y q → (q ≡ f) × (y ≡ rule i)) where
  elements : (ys : List B) (n i k : ℕ) (d : B) → IsFromFnResultFrom g f ys i n → i ≤ k → k < i + n → get_or ys k d ≡ rule k
  elements ys zero i k d r a b = absurd (omega arith)
  elements ys (suc n) i k d r a b = by (dec_lt i k) (λ c. elements ys n (i + 1) k d (subst (λ (p : F). IsFromFnResultFrom g p ys (i + 1) n) (one i r.1 r.0 r.3).0 r.4) (omega arith) (omega arith))
    where
      here : k ≡ i → get_or ys k d ≡ rule k
      here e = rw e (r.2.1 d ∙ (one i r.1 r.0 r.3).1)

      by : Dec (i < k) → (i < k → get_or ys k d ≡ rule k) → get_or ys k d ≡ rule k
      by (yes c) rest = rest c
      by (no c) rest = here (omega arith)

  pub made_is : (ys : List B) (n : ℕ) (d : B) → IsFromFnResult g f ys n → ys ≡ tabulate n rule
  made_is ys n d r =
      ext_get_or d ys (tabulate n rule) (r.long ∙ sym (length_tabulate n rule))
      (λ i b. elements ys n 0 i d r.each (omega arith) (omega (arith, r.long)) ∙ sym (tabulate_at n rule i d (omega (arith, r.long))))
