-- A text says one thing: whoever derives it by the grammar has what one reader reads, and a function has one result.
-- Assumes nothing.
use mathlib.Core.Path.{◌≡◌, sym, ap, ap₂, ◌∙◌}
use mathlib.Core.List.{List, ◌++◌, append_cancel_right}
use Prim.Native.Nat.{ℕ, ◌+◌, ◌≤◌}
use native.Mathlib.Omega.{arith}
use lib.Dec.{T}
use Rattle.texts.specs.Rfc8259.{Tree, Number, Str, Value, Json}
use Rattle.texts.specs.Single.{no_numeric, stops, Single}
use Rattle.texts.proofs.Spaces.{skip, skip_ws, all_apart, apart_ends, stops_ends}
use Rattle.texts.proofs.Numbers.{numeric, of_number, run, past, run_number, past_number}
use Rattle.texts.proofs.Strings.{chars_at, tl}
use Rattle.texts.proofs.Reading.{Got, value_at}
use Rattle.texts.proofs.Values.{behind, read_value, quoted, str_size}

-- ---- two readings of one text
says : {v w : Tree} {x y : List ℕ} → Got.got v x ≡ Got.got w y → v ≡ w
says e = cc

rest : {v w : Tree} {x y : List ℕ} → Got.got v x ≡ Got.got w y → x ≡ y
rest e = cc

value : {t₁ t₂ : List ℕ} {v₁ v₂ : Tree} {r₁ r₂ : List ℕ}
    → Value t₁ v₁ → Value t₂ v₂ → T (stops v₁ r₁) → T (stops v₂ r₂)
    → t₁ ++ r₁ ≡ t₂ ++ r₂ → (t₁ ≡ t₂) × (v₁ ≡ v₂) × (r₁ ≡ r₂)
value {t₁} {t₂} {v₁} {v₂} {r₁} {r₂} d₁ d₂ e₁ e₂ h =
    let a = read_value d₁ in
    let b = read_value d₂ in
    let n = a.steps + b.steps in
    let e : Got.got v₁ (a.space ++ r₁) ≡ Got.got v₂ (b.space ++ r₂)
    = sym (a.reads r₁ (stops_ends v₁ r₁ e₁) n (omega arith))
    ∙ (ap (λ s. value_at n (skip s)) h ∙ b.reads r₂ (stops_ends v₂ r₂ e₂) n (omega arith)) in
    let k : r₁ ≡ r₂ = sym (a.left r₁ e₁) ∙ (ap₂ behind (says e) (rest e) ∙ b.left r₂ e₂) in
    (append_cancel_right t₁ t₂ r₂ (rw k at h), says e, k)

number : {t₁ t₂ r₁ r₂ : List ℕ} → Number t₁ → Number t₂ → T (no_numeric r₁) → T (no_numeric r₂)
    → t₁ ++ r₁ ≡ t₂ ++ r₂ → (t₁ ≡ t₂) × (r₁ ≡ r₂)
number {t₁} {t₂} {r₁} {r₂} d₁ d₂ e₁ e₂ h =
    let p = numeric (of_number d₁) in
    let q = numeric (of_number d₂) in (
      sym (run_number p r₁ e₁) ∙ (ap run h ∙ run_number q r₂ e₂),
      sym (past_number p r₁ e₁) ∙ (ap past h ∙ past_number q r₂ e₂),
    )

string : {t₁ t₂ u₁ u₂ r₁ r₂ : List ℕ} → Str t₁ u₁ → Str t₂ u₂
    → t₁ ++ r₁ ≡ t₂ ++ r₂ → (t₁ ≡ t₂) × (u₁ ≡ u₂) × (r₁ ≡ r₂)
string {t₁} {t₂} {r₁} {r₂} d₁ d₂ h =
    let p = quoted d₁ r₁ in
    let q = quoted d₂ r₂ in
    let n = str_size d₁ + str_size d₂ in
    let k : p.inside ≡ q.inside = ap tl (sym p.first ∙ (h ∙ q.first)) in
    let e = sym (p.reads n (omega arith)) ∙ (ap (chars_at n) k ∙ q.reads n (omega arith)) in
    let r : r₁ ≡ r₂ = ap (λ x. x.1) e in
    (append_cancel_right t₁ t₂ r₂ (rw r at h), ap (λ x. x.0) e, r)

-- ---- a whole text
record Told (s : List ℕ) (v : Tree) : Type 0 where
  steps : ℕ
  rest : List ℕ
  reads : (n : ℕ) → steps ≤ n → value_at n (skip s) ≡ Got.got v rest

told : {s : List ℕ} {v : Tree} → Json s v → Told s v
told (Json.text {t} {w} {v} p d q) =
    let a = read_value d in
    record {
      steps = a.steps;
      rest = a.space ++ w;
      reads = λ n l. ap (value_at n) (skip_ws p (t ++ w)) ∙ a.reads w (apart_ends v w (all_apart q)) n l;
    }

text : {s : List ℕ} {v w : Tree} → Json s v → Json s w → v ≡ w
text j k =
    let a = told j in
    let b = told k in
    let n = a.steps + b.steps in
    says (sym (a.reads n (omega arith)) ∙ b.reads n (omega arith))

pub single : Single
single =
    record {
      text = λ j k. text j k;
      value = λ a b p q h. value a b p q h;
      number = λ a b p q h. number a b p q h;
      string = λ a b h. string a b h;
    }
