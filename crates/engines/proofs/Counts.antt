-- RULES 11.9, the sum: what a slot's tick does to the counts of all positions. Assumes nothing.
use Rattle.std.proofs.Common.{◌≡◌, ℕ, zero, suc, ◌+◌, ◌-◌, ◌^◌, ◌<◌, ◌≤◌, List, [], ◌∷◌, ◌++◌, map, length, get_or, take, drop, refl, ap, ◌∙◌, mod-eq_of_lt, arith, length-set, take-append-drop, length-take-le}
use Rattle.loops.specs.Upto.{upto, upto_keeps}
use Rattle.loops.specs.Each.{upto_each}
use Rattle.engines.specs.Clamp.{at_most64}
use Rattle.engines.specs.Nodes.{inc, no_node, ticked, ticked_in, tick_at, ticked_all, slots, total, Below, none, more}
use Rattle.engines.specs.declared.node.Node.{Node}
use Rattle.engines.specs.declared.node.NodeState.{NodeState}
use Rattle.engines.specs.declared.node.NodeState.TheVariants.{Listen, Flood, Sleep}

inc_small : (x : ℕ) → x < 2 ^ 64 - 1 → inc x ≡ x + 1
inc_small x h = mod-eq_of_lt (omega arith)

tick_one : (s : NodeState) (v : Node) → v.slots_listen < 2 ^ 64 - 1 → v.slots_flood < 2 ^ 64 - 1 → v.slots_sleep < 2 ^ 64 - 1 → slots (ticked_in s v) ≡ suc (slots v)
tick_one Listen v a b c = omega (arith, inc_small v.slots_listen a)
tick_one Flood v a b c = omega (arith, inc_small v.slots_flood b)
tick_one Sleep v a b c = omega (arith, inc_small v.slots_sleep c)

total_map : (l : List Node) → Below (2 ^ 64 - 1) l → total (map ticked l) ≡ length l + total l
unfolding total ticked
total_map [] h = refl
total_map (v ∷ l) (more _ a b c h) = omega (arith, tick_one v.state v a b c, total_map l h)

below_take : {b : ℕ} (n : ℕ) (l : List Node) → Below b l → Below b (take n l)
below_take zero l h = none
below_take (suc n) [] h = none
below_take (suc n) (v ∷ l) (more _ p q r h) = more v p q r (below_take n l h)

pub total_append : (l r : List Node) → total (l ++ r) ≡ total l + total r
unfolding total
total_append [] r = omega arith
total_append (v ∷ l) r = omega (arith, total_append l r)

-- the tick of the first n positions is a map
pub ticked_map : (n : ℕ) (l : List Node) → n ≤ 64 → n ≤ length l → ticked_all n l ≡ map ticked (take n l) ++ drop n l
unfolding ticked_all tick_at
ticked_map n l s h = ap (λ (k : ℕ). upto k tick_at l) (low n s) ∙ upto_each no_node ticked l n h
  where
    low : (n : ℕ) → n ≤ 64 → at_most64 n ≡ n
    low n s = omega arith

-- A slot's tick of n positions raises the sum of all counts by n, as long as no count is at its highest.
pub ticked_total : (n : ℕ) (l : List Node) → n ≤ 64 → n ≤ length l → Below (2 ^ 64 - 1) l → total (ticked_all n l) ≡ n + total l
ticked_total n l s h b =
    rw (ticked_map n l s h, total_append, total_map (take n l) (below_take n l b), length-take-le n l h)
    (omega (arith, total_append (take n l) (drop n l), ap total (take-append-drop n l)))

-- a tick raises each count by at most one
low_one : {b : ℕ} (s : NodeState) (v : Node) {l : List Node} → b < 2 ^ 64 → v.slots_listen < b → v.slots_flood < b → v.slots_sleep < b → Below (suc b) l → Below (suc b) (ticked_in s v ∷ l)
low_one Listen v g p q r h = more (ticked_in Listen v) (omega (arith, inc_small v.slots_listen (omega arith))) (omega arith) (omega arith) h
low_one Flood v g p q r h = more (ticked_in Flood v) (omega arith) (omega (arith, inc_small v.slots_flood (omega arith))) (omega arith) h
low_one Sleep v g p q r h = more (ticked_in Sleep v) (omega arith) (omega arith) (omega (arith, inc_small v.slots_sleep (omega arith))) h

pub below_le : {a b : ℕ} {l : List Node} → a ≤ b → Below a l → Below b l
below_le g none = none
below_le g (more v p q r h) = more v (omega arith) (omega arith) (omega arith) (below_le g h)

low_first : {b : ℕ} (n : ℕ) (l : List Node) → b < 2 ^ 64 → Below b l → Below (suc b) (map ticked (take n l) ++ drop n l)
unfolding ticked
low_first zero l g h = below_le (omega arith) h
low_first (suc n) [] g h = none
low_first (suc n) (v ∷ l) g (more _ p q r h) = low_one v.state v g p q r (low_first n l g h)

pub ticked_low : {b : ℕ} (n : ℕ) (l : List Node) → n ≤ 64 → n ≤ length l → b < 2 ^ 64 → Below b l → Below (suc b) (ticked_all n l)
ticked_low n l s h g b = rw (ticked_map n l s h) (low_first n l g b)

pub ticked_length : (n : ℕ) (l : List Node) → length (ticked_all n l) ≡ length l
unfolding ticked_all tick_at
ticked_length n l = upto_keeps length tick_at l (at_most64 n) (λ i t. length-set t i (ticked (get_or t i no_node)))
