-- Several slots at once: what a slot is in which no state changes, and that such slots add up. Assumes nothing.
use Rattle.std.proofs.Common.{◌≡◌, ℕ, ◌+◌, ◌-◌, ◌<◌, ◌≤◌, List, length, get_or, refl, ap, ◌∙◌, arith}
use Rattle.loops.specs.Upto.{upto}
use Rattle.loops.specs.Each.{each, each_twice, each_get, each_length}
use Rattle.marks.specs.Sets.{marks_ext}
use Rattle.engines.specs.Clamp.{at_most64}
use Rattle.engines.specs.Nodes.{no_node, is_listen, is_flood, is_sleep, listens, floods, sleeps, sets_of, ticked, ticked_in, tick_at, ticked_all}
use Rattle.engines.specs.Stretch.{passed_in, passed, passed_all}
use Rattle.loops.specs.Wrap.{add64}
use Rattle.engines.specs.declared.node.Node.{Node}
use Rattle.engines.specs.declared.node.NodeState.{NodeState}
use Rattle.engines.specs.declared.node.NodeState.TheVariants.{Listen, Flood, Sleep}

-- ---- sums

pub add_both : (x a b : ℕ) → add64 (add64 x a) b ≡ add64 x (a + b)
add_both x a b = omega arith

sub_both : (x a b : ℕ) → x - a - b ≡ x - (a + b)
sub_both x a b = omega arith

-- ---- one position

passed_both : (a b : ℕ) (s : NodeState) (v : Node) → v.state ≡ s → passed b (passed a v) ≡ passed (a + b) v
unfolding passed
passed_both a b Listen v e = rw (e, add_both v.slots_listen a b)
passed_both a b Flood v e = rw (e, add_both v.slots_flood a b, sub_both v.flood_remaining a b)
passed_both a b Sleep v e = rw (e, add_both v.slots_sleep a b)

pub passed_state : (k : ℕ) (v : Node) → (passed k v).state ≡ v.state
unfolding passed
passed_state k v = go v.state refl
  where
    go : (s : NodeState) → v.state ≡ s → (passed_in v.state k v).state ≡ v.state
    go Listen e = rw e
    go Flood e = rw e
    go Sleep e = rw e

pub ticked_state : (v : Node) → (ticked v).state ≡ v.state
unfolding ticked
ticked_state v = go v.state refl
  where
    go : (s : NodeState) → v.state ≡ s → (ticked_in v.state v).state ≡ v.state
    go Listen e = rw e
    go Flood e = rw e
    go Sleep e = rw e

-- ---- all of them

few_le : (n m : ℕ) → m ≡ 64 → at_most64 n ≤ m
few_le n m e = omega arith

module _ (n : ℕ) (l : List Node) (long : length l ≡ 64) where
  -- what leaves each state leaves the sets
  each_sets : (f : Node → Node) → ((v : Node) → (f v).state ≡ v.state) → sets_of n (upto (at_most64 n) (each no_node f) l) ≡ sets_of n l
  unfolding sets_of listens floods sleeps
  each_sets f keeps =
      let at : (i : ℕ) → i < at_most64 n → (get_or (upto (at_most64 n) (each no_node f) l) i no_node).state ≡ (get_or l i no_node).state
      = λ i h. ap (λ (v : Node). v.state) (each_get no_node f l (at_most64 n) i (few_le n (length l) long) h) ∙ keeps (get_or l i no_node) in
      rw (
        marks_ext (at_most64 n) (listens (upto (at_most64 n) (each no_node f) l)) (listens l) (λ i h. ap is_listen (at i h)),
        marks_ext (at_most64 n) (floods (upto (at_most64 n) (each no_node f) l)) (floods l) (λ i h. ap is_flood (at i h)),
        marks_ext (at_most64 n) (sleeps (upto (at_most64 n) (each no_node f) l)) (sleeps l) (λ i h. ap is_sleep (at i h)),
      )

  pub pass_sets : (k : ℕ) → sets_of n (passed_all n k l) ≡ sets_of n l
  unfolding passed_all
  pass_sets k = each_sets (passed k) (passed_state k)

  pub tick_sets : sets_of n (ticked_all n l) ≡ sets_of n l
  unfolding ticked_all tick_at
  tick_sets = each_sets ticked ticked_state

  pub pass_get : (k i : ℕ) → i < at_most64 n → get_or (passed_all n k l) i no_node ≡ passed k (get_or l i no_node)
  unfolding passed_all
  pass_get k i h = each_get no_node (passed k) l (at_most64 n) i (few_le n (length l) long) h

  pub tick_get : (i : ℕ) → i < at_most64 n → get_or (ticked_all n l) i no_node ≡ ticked (get_or l i no_node)
  unfolding ticked_all tick_at
  tick_get i h = each_get no_node ticked l (at_most64 n) i (few_le n (length l) long) h

  -- two stretches, one behind the other
  pub pass_both : (a b : ℕ) → passed_all n b (passed_all n a l) ≡ passed_all n (a + b) l
  unfolding passed_all
  pass_both a b = each_twice no_node (passed a) (passed b) (passed (a + b)) l (at_most64 n) (few_le n (length l) long) (λ i h. passed_both a b (get_or l i no_node).state (get_or l i no_node) refl)

  -- a tick and a turn that together raise a count and no more
  pub turn_passes : (g : Node → Node) → ((i : ℕ) → i < at_most64 n → g (ticked (get_or l i no_node)) ≡ passed 1 (get_or l i no_node)) → upto (at_most64 n) (each no_node g) (ticked_all n l) ≡ passed_all n 1 l
  unfolding ticked_all tick_at passed_all
  turn_passes g same = each_twice no_node ticked g (passed 1) l (at_most64 n) (few_le n (length l) long) same

pub pass_length : (n k : ℕ) (l : List Node) → length (passed_all n k l) ≡ length l
unfolding passed_all
pass_length n k l = each_length no_node (passed k) l (at_most64 n)
