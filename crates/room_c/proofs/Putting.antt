-- Loops whose turns put a few values each at a place of their own. Assumes nothing.
use mathlib.Core.List.{List, [], ◌∷◌}
use mathlib.Core.Logic.{◌⊎◌, inl, inr}
use mathlib.Core.Path.{◌≡◌, refl, ap, subst, ◌∙◌}
use Prim.Native.Nat.{ℕ, zero, suc, ◌+◌, ◌<◌, ◌≤◌}
use native.Mathlib.Nat.{add-zero, eq-or-lt_of_le}
use native.Mathlib.Omega.{arith}
use lib.ListN.{length, get_or, set, length-set}
use lib.Seq.{sets, length-sets, get_or-set_same, get_or-set_other}
use Rattle.loops.specs.Upto.{upto}

-- values put from i on leave what stands before it
sets_before : {A : Type 0} (vs l : List A) (i j : ℕ) (d : A) → j < i → get_or (sets l i vs) j d ≡ get_or l j d
sets_before [] l i j d h = refl
sets_before (v ∷ vs) l i j d h =
    sets_before vs (set l i v) (suc i) j d (omega arith) ∙ get_or-set_other l i j v d (λ e. omega arith)

-- and are found there
sets_at : {A : Type 0} (vs l : List A) (i k : ℕ) (d : A) → k < length vs → i + k < length l
    → get_or (sets l i vs) (i + k) d ≡ get_or vs k d
sets_at [] l i k d h g = absurd (omega arith)
sets_at (v ∷ vs) l i zero d h g =
    rw add-zero (sets_before vs (set l i v) (suc i) i d (omega arith) ∙ get_or-set_same l i v d (omega arith))
sets_at (v ∷ vs) l i (suc k) d h g =
    let e : i + suc k ≡ suc i + k = omega arith in
    rw e (sets_at vs (set l i v) (suc i) k d (omega arith) (omega (arith, length-set l i v)))

-- a turn puts what it says at its place, all of it before the next one's
module _ {S A : Type 0} (step : ℕ → S → S) (list : S → List A) (says : ℕ → S → List A) (place : ℕ → ℕ)
    (puts : (i : ℕ) (s : S) → list (step i s) ≡ sets (list s) (place i) (says i s))
    (few : (i j : ℕ) (s : S) → i < j → place i + length (says i s) ≤ place j) where
  same_length : (n : ℕ) (s : S) → length (list (upto n step s)) ≡ length (list s)
  unfolding upto
  same_length zero s = refl
  same_length (suc n) s =
      ap length (puts n (upto n step s)) ∙ length-sets (list (upto n step s)) (place n) (says n (upto n step s))
      ∙ same_length n s

  put_here : (i k : ℕ) (d : A) (s : S) → place i + k < length (list s) → k < length (says i (upto i step s))
      → get_or (list (step i (upto i step s))) (place i + k) d ≡ get_or (says i (upto i step s)) k d
  put_here i k d s g l =
      let t = upto i step s in
      ap (λ (x : List A). get_or x (place i + k) d) (puts i t)
      ∙ sets_at (says i t) (list t) (place i) k d l (omega (arith, same_length i s))

  -- what turn i put is there at the end
  pub put_stays : (n i k : ℕ) (d : A) (s : S) → i < n → place i + k < length (list s)
      → k < length (says i (upto i step s))
      → get_or (list (upto n step s)) (place i + k) d ≡ get_or (says i (upto i step s)) k d
  unfolding upto
  put_stays zero i k d s h g l = absurd (omega arith)
  put_stays (suc n) i k d s h g l = by (λ b. put_stays n i k d s b g l) (eq-or-lt_of_le (omega arith))
    where
      Stays : ℕ → Type 0
      Stays m = get_or (list (step m (upto m step s))) (place i + k) d ≡ get_or (says i (upto i step s)) k d

      by : (i < n → get_or (list (upto n step s)) (place i + k) d ≡ get_or (says i (upto i step s)) k d)
          → (i ≡ n) ⊎ (i < n) → Stays n
      by f (inl e) = subst Stays e (put_here i k d s g l)
      by f (inr b) =
          let t = upto n step s in
          ap (λ (x : List A). get_or x (place i + k) d) (puts n t)
          ∙ sets_before (says n t) (list t) (place n) (place i + k) d (omega (arith, few i n (upto i step s) b))
          ∙ f b
