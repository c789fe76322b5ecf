-- Demand 3's sum, for both kinds of room: what a slot's tick adds to the counts, and what every other change of the positions leaves as it is. Assumes nothing.
use Rattle.std.proofs.Common.{◌≡◌, ℕ, zero, suc, ◌+◌, ◌*◌, ◌^◌, ◌<◌, ◌≤◌, Bool, true, false, List, [], ◌∷◌, map, length, get_or, take, drop, set, replicate, sym, refl, ap, ◌∙◌, mod-eq_of_lt, mul-add, add-one, arith, length-set, take-append-drop, length-take-le, drop_at}
use lib.ListN.{length-map}
use Rattle.loops.specs.Pick.{either}
use Rattle.loops.specs.Upto.{upto, upto_holds}
use Rattle.engines.specs.Nodes.{inc, no_node, reset_round, ticked, ticked_all, total, Alike, Below, none, more}
use Rattle.engines.specs.declared.node.Node.{Node}
use Rattle.engines.proofs.Counts.{total_append, ticked_map, ticked_total, ticked_low, ticked_length, below_le}

pub alike : (v : Node) → Alike v v
alike v = record { listen = refl; flood = refl; sleep = refl }

pub either_alike : (b : Bool) (x y v : Node) → Alike x v → Alike y v → Alike (either b x y) v
either_alike true x y v p q = p
either_alike false x y v p q = q

pub reset_alike : (v : Node) → Alike (reset_round v) v
unfolding reset_round
reset_alike v = record { listen = refl; flood = refl; sleep = refl }

-- The counts of n positions at a slot: each is at most the slot, all together are n for each slot, and behind the positions nothing is counted.
pub record Counts (n slot : ℕ) (l : List Node) : Type 0 where
  pub long : n ≤ length l
  pub low : Below (suc slot) l
  pub sum : total l ≡ n * slot
  pub rest : total (drop n l) ≡ 0

-- a change of one position that keeps its counts
module _ (g : Node → Node) (same : (v : Node) → Alike (g v) v) where
  kept_total : (l : List Node) (i : ℕ) → total (set l i (g (get_or l i no_node))) ≡ total l
  unfolding total
  kept_total [] i = refl
  kept_total (v ∷ l) zero = let s = same v in omega (arith, s.listen, s.flood, s.sleep)
  kept_total (v ∷ l) (suc i) = omega (arith, kept_total l i)

  kept_below : {b : ℕ} (l : List Node) (i : ℕ) → Below b l → Below b (set l i (g (get_or l i no_node)))
  kept_below [] i h = none
  kept_below (v ∷ l) zero (more _ p q r h) = let s = same v in more (g v) (omega (arith, s.listen)) (omega (arith, s.flood)) (omega (arith, s.sleep)) h
  kept_below (v ∷ l) (suc i) (more _ p q r h) = more v p q r (kept_below l i h)

  kept_rest : (n : ℕ) (l : List Node) (i : ℕ) → total (drop n (set l i (g (get_or l i no_node)))) ≡ total (drop n l)
  unfolding total
  kept_rest zero [] i = refl
  kept_rest zero (v ∷ l) zero = let s = same v in omega (arith, s.listen, s.flood, s.sleep)
  kept_rest zero (v ∷ l) (suc i) = omega (arith, kept_rest zero l i)
  kept_rest (suc n) [] i = refl
  kept_rest (suc n) (v ∷ l) zero = refl
  kept_rest (suc n) (v ∷ l) (suc i) = kept_rest n l i

  pub kept_counts : {n slot : ℕ} (l : List Node) (i : ℕ) → Counts n slot l → Counts n slot (set l i (g (get_or l i no_node)))
  kept_counts {n} l i c =
      record {
        long = omega (arith, c.long, length-set l i (g (get_or l i no_node)));
        low = kept_below l i c.low;
        sum = kept_total l i ∙ c.sum;
        rest = kept_rest n l i ∙ c.rest;
      }

-- .. and of any number of them, one after the other
pub all_counts : {n slot : ℕ} (g : ℕ → Node → Node) → ((i : ℕ) (v : Node) → Alike (g i v) v) → (k : ℕ) (l : List Node) → Counts n slot l
    → Counts n slot (upto k (λ i t. set t i (g i (get_or t i no_node))) l)
all_counts {n} {slot} g same k l c =
    upto_holds (λ (t : List Node). Counts n slot t) (λ i t. set t i (g i (get_or t i no_node))) k (λ i t _. kept_counts (g i) (same i) t i) l c

-- A slot's tick: n more counts, and still nothing behind the positions.
ticked_rest : (n : ℕ) (l : List Node) → n ≤ 64 → n ≤ length l → drop n (ticked_all n l) ≡ drop n l
ticked_rest n l s h =
    ap (drop n) (ticked_map n l s h) ∙ drop_at (map ticked (take n l)) (drop n l) n (length-map (take n l) ticked ∙ length-take-le n l h)

pub ticked_counts : {n slot : ℕ} (l : List Node) → n ≤ 64 → slot < 2 ^ 32 → Counts n slot l → Counts n (slot + 1) (ticked_all n l)
ticked_counts {n} {slot} l m h c =
    record {
      long = omega (arith, c.long, ticked_length n l);
      low = rw (add-one slot) (ticked_low n l m c.long (omega arith) c.low);
      sum = ticked_total n l m c.long (below_le (omega arith) c.low) ∙ more_sum (total l) c.sum;
      rest = ap total (ticked_rest n l m c.long) ∙ c.rest;
    }
  where
    more_sum : (t : ℕ) → t ≡ n * slot → n + t ≡ n * (slot + 1)
    more_sum t e = omega (arith, e, mul-add n slot 1)

-- the next slot's number does not wrap
pub inc_is : (x : ℕ) → x < 2 ^ 32 → inc x ≡ x + 1
inc_is x h = mod-eq_of_lt (omega arith)

pub next_counts : {n slot : ℕ} {l : List Node} → slot < 2 ^ 32 → Counts n (slot + 1) l → Counts n (inc slot) l
next_counts {n} {slot} {l} h c = rw (inc_is slot h) c

-- As opened nothing is counted.
none_total : (k n : ℕ) → total (drop n (replicate k no_node)) ≡ 0
unfolding total
none_total zero zero = refl
none_total zero (suc n) = refl
none_total (suc k) zero = omega (arith, none_total k zero)
none_total (suc k) (suc n) = none_total k n

none_below : (k : ℕ) → Below 1 (replicate k no_node)
none_below zero = none
none_below (suc k) = more no_node (omega arith) (omega arith) (omega arith) (none_below k)

pub new_counts : (n : ℕ) → n ≤ 64 → Counts n 0 (replicate 64 no_node)
unfolding total
new_counts n h = record { long = h; low = none_below 64; sum = zero_sum n; rest = none_total 64 n }
  where
    zero_sum : (n : ℕ) → 0 ≡ n * 0
    zero_sum n = omega arith

-- What demand 3 says of them.
pub first_total : {n slot : ℕ} (l : List Node) → Counts n slot l → total (take n l) ≡ n * slot
first_total {n} {slot} l c =
    let e : total (take n l) + total (drop n l) ≡ total l = sym (total_append (take n l) (drop n l)) ∙ ap total (take-append-drop n l) in
    omega (arith, c.sum, c.rest)
