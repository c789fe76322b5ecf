-- Which call the numbers of the table's parts are, and what the readings of each part leave. Assumes nothing.
use mathlib.Core.List.{List, [], ◌∷◌, ◌++◌, map}
use mathlib.Core.Logic.{◌⊎◌, inl, inr}
use Rattle.std.specs.Prelude.{Option, None, Some}
use mathlib.Core.Path.{◌≡◌, refl, sym, ◌∙◌, ap}
use Prim.Native.Nat.{ℕ, zero, suc, ◌+◌, ◌-◌, ◌<◌, ◌≤◌}
use native.Mathlib.Omega.{arith}
use lib.ListN.{length, get_or, get_or-eq_default}
use lib.Seq.{get_or-drop}
use Rattle.readings.specs.Calls.{Reading, proposal_outcome, «record», answer_of}
use Rattle.room.specs.declared.room.Room.{Room}
use Rattle.demand.specs.Calls.{Call, Read}
use Rattle.room_c.specs.Answers.{said}
use Rattle.room_c.specs.Console.{whole_readings, part_readings, call_table}

-- a number from k on that is none of the next count
abbrev NoneOf : ℕ → ℕ → ℕ → Type 0
NoneOf x k zero = Unit
NoneOf x k (suc count) = NoneOf x k count × (x ≡ k + count → ⊥)

pub past : (x k count : ℕ) → k ≤ x → NoneOf x k count → k + count ≤ x
past x k zero h n = omega arith
past x k (suc count) h n = let e = past x k count h n.0 in let d = n.1 in omega arith

-- ---- lists

-- beyond the last element, if that is the value past the end too
pub get_d_last : {A : Type 0} (l : List A) (d : A) (j k : ℕ) → length l ≤ suc j → get_or l j d ≡ d → j ≤ k → get_or l k d ≡ d
get_d_last [] d j k h e g = refl
get_d_last (x ∷ l) d zero zero h e g = e
get_d_last (x ∷ l) d (suc j) zero h e g = absurd (omega arith)
get_d_last (x ∷ l) d zero (suc k) h e g = get_or-eq_default l d (omega arith)
get_d_last (x ∷ l) d (suc j) (suc k) h e g = get_d_last l d j k (omega arith) e (omega arith)

found : {A B : Type 0} (f : A → B) (l more : List A) (d : A) (e : B) (k : ℕ) → k < length l
    → get_or (map f (l ++ more)) k e ≡ f (get_or l k d)
found f [] more d e k h = absurd (omega arith)
found f (x ∷ l) more d e zero h = refl
found f (x ∷ l) more d e (suc k) h = found f l more d e k (omega arith)

-- what holds of all elements, and of the value past the end
abbrev Every : {A : Type 0} → (A → Type 0) → List A → Type 0
Every P [] = Unit
Every P (x ∷ l) = P x × Every P l

every_at : {A : Type 0} (P : A → Type 0) (l : List A) (d : A) → Every P l → P d → (k : ℕ) → P (get_or l k d)
every_at P [] d t p k = p
every_at P (x ∷ l) d t p zero = t.0
every_at P (x ∷ l) d t p (suc k) = every_at P l d t.1 p k

-- ---- the table

module _ (ws rows text : List ℕ) (a b c : ℕ) where
  abbrev at : ℕ → Option Call
  at which = get_or (call_table ws rows text a b c) which None

  pub whole_call : (which : ℕ) → 4 ≤ which → which < 18
      → at which ≡ Some (Read (get_or whole_readings (which - 4) proposal_outcome))
  unfolding call_table
  whole_call which h g =
      let k = which - 4 in
      let e : which ≡ 4 + k = omega arith in
      let t = call_table ws rows text a b c in
      ap (λ (j : ℕ). get_or t j None) e ∙ sym (get_or-drop 4 t k None)
      ∙ found (λ q. Some (Read q)) whole_readings (part_readings text a b) proposal_outcome None k (omega arith)

  pub part_call : (which : ℕ) → 18 ≤ which → which < 24
      → at which ≡ Some (Read (get_or (part_readings text a b) (which - 18) («record» a)))
  unfolding call_table
  part_call which h g =
      let k = which - 18 in
      let e : which ≡ 18 + k = omega arith in
      let t = call_table ws rows text a b c in
      ap (λ (j : ℕ). get_or t j None) e ∙ sym (get_or-drop 18 t k None)
      ∙ found (λ q. Some (Read q)) (part_readings text a b) [] («record» a) None k (omega arith)

  pub no_call : (which : ℕ) → (which ≡ 0) ⊎ (24 ≤ which) → at which ≡ None
  unfolding call_table
  no_call which (inl e) = rw e
  no_call which (inr h) = get_or-eq_default (call_table ws rows text a b c) None h

-- ---- what a reading leaves alone

abbrev Textless : Reading → Type 0
Textless q = (r : Room) (t : List ℕ) → (said (answer_of q r)).text t ≡ t

pub whole_text : (k : ℕ) → Textless (get_or whole_readings k proposal_outcome)
unfolding said answer_of
whole_text k =
    every_at Textless whole_readings proposal_outcome (
      λ r t. refl,
      (
        λ r t. refl,
        (
          λ r t. refl,
          (
            λ r t. refl,
            (
              λ r t. refl,
              (
                λ r t. refl,
                (
                  λ r t. refl,
                  (
                    λ r t. refl,
                    (λ r t. refl, (λ r t. refl, (λ r t. refl, (λ r t. refl, (λ r t. refl, (λ r t. refl, tt)))))),
                  ),
                ),
              ),
            ),
          ),
        ),
      ),
    )
    (λ r t. refl) k

abbrev Floatless : Reading → Type 0
Floatless q = (r : Room) → (said (answer_of q r)).floats ≡ []

pub part_floats : (text : List ℕ) (a b k : ℕ) → Floatless (get_or (part_readings text a b) k («record» a))
unfolding said answer_of
part_floats text a b k =
    every_at Floatless (part_readings text a b) («record» a)
    (λ r. refl, (λ r. refl, (λ r. refl, (λ r. refl, (λ r. refl, (λ r. refl, tt))))))
    (λ r. refl) k
