-- RULES 7.2 and 7.5: a slot's tick raises the flood ticks of all positions by the number of those that flood, in 64
-- binary digits; and what is sent for each of them goes with that number. Assumes nothing.
use Rattle.std.proofs.Common.{◌≡◌, ℕ, zero, suc, ◌+◌, ◌-◌, ◌*◌, ◌/◌, ◌%◌, ◌^◌, ◌<◌, ◌≤◌, Bool, true, false, ◌&&◌, eqb, List, [], ◌∷◌, length, get_or, set, sym, refl, ap, ◌∙◌, subst, add-zero, add_assoc, add-suc, mul_assoc, add-mul, arith, get_or-set_other, get_or-set_same, lt-ltb, eqb-true}
use mir.Val.{bool_byte}
use lib.Seq.{set_out}
use native.Mathlib.Decide.{dec_lt}
use native.Mathlib.Nat.{mod-add-div, add-mul-mod_self_left, mod-add-mod, add-mod-mod}
use borrow.Author.Tests.{eqb-false}
use Rattle.loops.specs.Upto.{upto, upto_keeps}
use Rattle.loops.specs.Wrap.{add64, mul64}
use Rattle.marks.specs.Marks.{has, marks, count_of}
use Rattle.marks.specs.Laws.{has_out}
use Rattle.marks.specs.Sets.{has_marks, marks_lt, marks_ext}
use Rattle.engines.specs.Clamp.{at_most64}
use Rattle.engines.specs.Nodes.{no_node, is_flood, floods, sets_of, ticked, ticked_in, tick_at, ticked_all, flood_ticks}
use Rattle.engines.specs.declared.node.Node.{Node}
use Rattle.engines.specs.declared.node.NodeState.{NodeState}
use Rattle.engines.specs.declared.node.NodeState.TheVariants.{Listen, Flood, Sleep}
use Rattle.engines.proofs.Stretches.{ticked_state}

-- one position changed
set_ticks : (l : List Node) (i : ℕ) (v : Node) → i < length l → flood_ticks (set l i v) + (get_or l i no_node).slots_flood ≡ flood_ticks l + v.slots_flood
unfolding flood_ticks
set_ticks [] i v h = absurd (omega arith)
set_ticks (x ∷ l) zero v h = omega arith
set_ticks (x ∷ l) (suc i) v h = omega (arith, set_ticks l i v (omega arith))

-- .. and its flood ticks not
pub kept_ticks : (l : List Node) (i : ℕ) (v : Node) → v.slots_flood ≡ (get_or l i no_node).slots_flood → flood_ticks (set l i v) ≡ flood_ticks l
kept_ticks l i v e = go (dec_lt i (length l))
  where
    go : Dec (i < length l) → flood_ticks (set l i v) ≡ flood_ticks l
    go (yes h) = omega (arith, e, set_ticks l i v h)
    go (no h) = ap flood_ticks (set_out l i v (omega arith))

no_node_lem : (l : List Node) (i : ℕ) → length l ≤ i → get_or l i no_node ≡ no_node
no_node_lem [] i h = refl
no_node_lem (v ∷ l) zero h = absurd (omega arith)
no_node_lem (v ∷ l) (suc i) h = no_node_lem l i (omega arith)

tick_one : (s : NodeState) (v : Node) → (ticked_in s v).slots_flood % 2 ^ 64 ≡ (v.slots_flood + bool_byte (is_flood s)) % 2 ^ 64
tick_one Listen v = omega arith
tick_one Flood v = omega arith
tick_one Sleep v = omega arith

tick_ticks : (l : List Node) (i : ℕ) → flood_ticks (tick_at i l) % 2 ^ 64 ≡ (flood_ticks l + bool_byte (floods l i)) % 2 ^ 64
unfolding tick_at ticked floods
tick_ticks l i = go (dec_lt i (length l))
  where
    v : Node
    v = get_or l i no_node

    go : Dec (i < length l) → flood_ticks (set l i (ticked_in v.state v)) % 2 ^ 64 ≡ (flood_ticks l + bool_byte (is_flood v.state)) % 2 ^ 64
    go (yes h) = omega (arith, set_ticks l i (ticked_in v.state v) h, tick_one v.state v)
    go (no h) =
        let out = set_out l i (ticked_in v.state v) (omega arith) in
        rw (out, no_node_lem l i (omega arith)) (omega arith)

-- a tick changes nobody's state
tick_floods : (l : List Node) (j i : ℕ) → floods (tick_at j l) i ≡ floods l i
unfolding tick_at floods
tick_floods l j i = ap is_flood (go (dec_lt j (length l)) (eqb i j) refl)
  where
    v : Node
    v = ticked (get_or l j no_node)

    go : Dec (j < length l) → (t : Bool) → eqb i j ≡ t → (get_or (set l j v) i no_node).state ≡ (get_or l i no_node).state
    go (yes h) true e = rw (eqb-true i j e, get_or-set_same l j v no_node h) (ticked_state (get_or l j no_node))
    go (yes h) false e = ap (λ (x : Node). x.state) (get_or-set_other l j i v no_node (eqb-false i j e))
    go (no h) t e = ap (λ (x : List Node). (get_or x i no_node).state) (set_out l j v (omega arith))

pub floods_kept : (l : List Node) (k i : ℕ) → floods (upto k tick_at l) i ≡ floods l i
floods_kept l k i = upto_keeps (λ (t : List Node). floods t i) tick_at l k (λ j t. tick_floods t j i)

-- marks behind the first n are none
count_above : (m n d : ℕ) → m < 2 ^ n → count_of m (n + d) ≡ count_of m n
unfolding count_of
count_above m n zero h = rw (add-zero n)
count_above m n (suc d) h = rw (add-suc n d, has_out n m (n + d) h (omega arith)) (omega (arith, count_above m n d h))

module _ (n : ℕ) (l : List Node) where
  abbrev flooding : ℕ
  flooding = marks (at_most64 n) (floods l)

  first_ticks : (k : ℕ) → k ≤ at_most64 n → flood_ticks (upto k tick_at l) % 2 ^ 64 ≡ (flood_ticks l + count_of flooding k) % 2 ^ 64
  unfolding upto count_of
  first_ticks zero h = omega arith
  first_ticks (suc k) h =
      omega (arith, tick_ticks (upto k tick_at l) k, ap bool_byte (floods_kept l k k), ap bool_byte marked, first_ticks k (omega arith))
    where
      marked : has flooding k ≡ floods l k
      marked = has_marks (at_most64 n) (floods l) k ∙ ap (λ (t : Bool). t && floods l k) (lt-ltb k (at_most64 n) (omega arith))

  -- A slot's tick.
  pub ticked_floods : flood_ticks (ticked_all n l) % 2 ^ 64 ≡ (flood_ticks l + count_of (sets_of n (ticked_all n l)).flooding 64) % 2 ^ 64
  unfolding ticked_all sets_of
  ticked_floods =
      let all : count_of flooding (at_most64 n + (64 - at_most64 n)) ≡ count_of flooding (at_most64 n) = count_above flooding (at_most64 n) (64 - at_most64 n) (marks_lt (at_most64 n) (floods l)) in
      let whole : count_of flooding 64 ≡ count_of flooding (at_most64 n) = subst (λ (k : ℕ). count_of flooding k ≡ count_of flooding (at_most64 n)) (omega arith) all in
      let same : flooding ≡ marks (at_most64 n) (floods (upto (at_most64 n) tick_at l)) = marks_ext (at_most64 n) (floods l) (floods (upto (at_most64 n) tick_at l)) (λ i h. sym (floods_kept l (at_most64 n) i)) in
      first_ticks (at_most64 n) (omega arith) ∙ ap (λ (k : ℕ). (flood_ticks l + k) % 2 ^ 64) (sym whole ∙ ap (λ (m : ℕ). count_of m 64) same)

-- ---- so much for each of them

pub times_wrap : (a c : ℕ) → a * c % 2 ^ 64 ≡ a % 2 ^ 64 * c % 2 ^ 64
times_wrap a c =
    let high = a / 2 ^ 64 in
    let split = add-mul (a % 2 ^ 64) (2 ^ 64 * high) c ∙ ap (λ (x : ℕ). a % 2 ^ 64 * c + x) (mul_assoc (2 ^ 64) high c) in
    let parts : a % 2 ^ 64 * c + 2 ^ 64 * (high * c) ≡ a * c =
    sym split ∙ ap (λ (x : ℕ). x * c) (mod-add-div a (2 ^ 64)) in
    ap (λ (x : ℕ). x % 2 ^ 64) (sym parts) ∙ add-mul-mod_self_left (a % 2 ^ 64 * c) (2 ^ 64) (a / 2 ^ 64 * c)

-- t' is t and k more: then `each` was sent k times more
pub each_more : (each k t t' x : ℕ) → t' % 2 ^ 64 ≡ (t + k) % 2 ^ 64 → add64 (add64 x (mul64 k each)) (mul64 t each) ≡ add64 x (mul64 t' each)
each_more each k t t' x e =
    let product : t' * each % 2 ^ 64 ≡ (t * each + k * each) % 2 ^ 64
    = times_wrap t' each ∙ ap (λ (y : ℕ). y * each % 2 ^ 64) e ∙ sym (times_wrap (t + k) each) ∙ ap (λ (y : ℕ). y % 2 ^ 64) (add-mul t k each) in
    sum (t * each) (k * each) (t' * each) product
  where
    sum : (a b c : ℕ) → c % 2 ^ 64 ≡ (a + b) % 2 ^ 64 → ((x + b % 2 ^ 64) % 2 ^ 64 + a % 2 ^ 64) % 2 ^ 64 ≡ (x + c % 2 ^ 64) % 2 ^ 64
    sum a b c e =
        mod-add-mod (x + b % 2 ^ 64) (2 ^ 64) (a % 2 ^ 64)
        ∙ add-mod-mod (x + b % 2 ^ 64) a (2 ^ 64)
        ∙ ap (λ (y : ℕ). y % 2 ^ 64) turned
        ∙ add-mod-mod (x + a) b (2 ^ 64)
        ∙ ap (λ (y : ℕ). y % 2 ^ 64) (add_assoc x a b)
        ∙ sym (add-mod-mod x (a + b) (2 ^ 64))
        ∙ ap (λ (y : ℕ). (x + y) % 2 ^ 64) (sym e)
      where
        turned : x + b % 2 ^ 64 + a ≡ x + a + b % 2 ^ 64
        turned = omega arith
