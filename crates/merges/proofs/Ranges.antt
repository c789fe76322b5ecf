-- A test of the first of a list, by their indices.
-- Assumes nothing.
use Rattle.std.specs.List.{list_all, list_any}
use Rattle.std.proofs.Common.{◌≡◌, ℕ, zero, suc, ◌≤◌, Bool, true, false, ◌&&◌, ◌||◌, List, [], ◌∷◌, length, take, get_or, sym, refl, ap, ◌∙◌, arith}
use Rattle.marks.specs.Marks.{all_of, any_of}

all_first : (g : ℕ → Bool) (n : ℕ) → all_of (suc n) g ≡ (g 0 && all_of n (λ i. g (suc i)))
unfolding all_of
all_first g zero = turned (g 0)
  where
    turned : (b : Bool) → (true && b) ≡ (b && true)
    turned true = refl
    turned false = refl
all_first g (suc n) = ap (λ (b : Bool). b && g (suc n)) (all_first g n) ∙ grouped (g 0) (all_of n (λ i. g (suc i))) (g (suc n))
  where
    grouped : (a b c : Bool) → ((a && b) && c) ≡ (a && (b && c))
    grouped true b c = refl
    grouped false b c = refl

any_first : (g : ℕ → Bool) (n : ℕ) → any_of (suc n) g ≡ (g 0 || any_of n (λ i. g (suc i)))
unfolding any_of
any_first g zero = turned (g 0)
  where
    turned : (b : Bool) → (false || b) ≡ (b || false)
    turned true = refl
    turned false = refl
any_first g (suc n) = ap (λ (b : Bool). b || g (suc n)) (any_first g n) ∙ grouped (g 0) (any_of n (λ i. g (suc i))) (g (suc n))
  where
    grouped : (a b c : Bool) → ((a || b) || c) ≡ (a || (b || c))
    grouped true b c = refl
    grouped false b c = refl

module _ {X : Type 0} (p : X → Bool) (d : X) where
  pub all_taken : (n : ℕ) (xs : List X) → n ≤ length xs → list_all p (take n xs) ≡ all_of n (λ i. p (get_or xs i d))
  unfolding all_of
  all_taken zero xs h = refl
  all_taken (suc n) [] h = absurd (omega arith)
  all_taken (suc n) (x ∷ xs) h =
      ap (λ (b : Bool). p x && b) (all_taken n xs (omega arith)) ∙ sym (all_first (λ i. p (get_or (x ∷ xs) i d)) n)

  pub any_taken : (n : ℕ) (xs : List X) → n ≤ length xs → list_any p (take n xs) ≡ any_of n (λ i. p (get_or xs i d))
  unfolding any_of
  any_taken zero xs h = refl
  any_taken (suc n) [] h = absurd (omega arith)
  any_taken (suc n) (x ∷ xs) h =
      ap (λ (b : Bool). p x || b) (any_taken n xs (omega arith)) ∙ sym (any_first (λ i. p (get_or (x ∷ xs) i d)) n)
