-- The sets of the positions in each state, as a loop over the positions finds them. Assumes nothing.
use Rattle.std.proofs.Common.{◌≡◌, ℕ, ◌+◌, ◌^◌, ◌<◌, ◌≤◌, Bool, true, false, ◌&&◌, ◌||◌, eqb, ltb, List, take, get_or, refl, ap, ◌∙◌, arith, ltb-true, get_or-take}
use Rattle.marks.specs.Marks.{has}
use Rattle.marks.specs.Sets.{grown_none, grown_turn, grown_all}
use Rattle.engines.specs.Clamp.{at_most64}
use Rattle.engines.specs.Nodes.{no_node, is_listen, is_flood, is_sleep, listens, floods, sleeps, sets_of}
use Rattle.engines.specs.declared.node.Node.{Node}
use Rattle.engines.specs.declared.node.NodeState.{NodeState}
use Rattle.engines.specs.declared.node.StateSets.{StateSets}

-- s holds the positions below i, each in the set of its state
pub record Sorted (l : List Node) (i : ℕ) (s : StateSets) : Type 0 where
  pub listening : (k : ℕ) → has s.listening k ≡ (ltb k i && listens l k)
  pub flooding : (k : ℕ) → has s.flooding k ≡ (ltb k i && floods l k)
  pub sleeping : (k : ℕ) → has s.sleeping k ≡ (ltb k i && sleeps l k)

pub sorted_none : (l : List Node) → Sorted l 0 (record { listening = 0; flooding = 0; sleeping = 0 })
sorted_none l = record { listening = grown_none (listens l); flooding = grown_none (floods l); sleeping = grown_none (sleeps l) }

-- position i entered
abbrev pub Entered : StateSets → NodeState → ℕ → StateSets → Type 0
Entered s state i r =
    ((j : ℕ) → has r.listening j ≡ (has s.listening j || (is_listen state && (ltb j 64 && eqb j i))))
    × (((j : ℕ) → has r.flooding j ≡ (has s.flooding j || (is_flood state && (ltb j 64 && eqb j i))))
    × ((j : ℕ) → has r.sleeping j ≡ (has s.sleeping j || (is_sleep state && (ltb j 64 && eqb j i)))))

pub sorted_turn : (l : List Node) (i : ℕ) (s r : StateSets) → i < 64 → Sorted l i s → Entered s (get_or l i no_node).state i r → Sorted l (i + 1) r
unfolding listens floods sleeps
sorted_turn l i s r h o e =
    record {
      listening = λ k. grown_turn (listens l) s.listening r.listening i k (is_listen (get_or l i no_node).state) h (o.listening k) refl (e.0 k);
      flooding = λ k. grown_turn (floods l) s.flooding r.flooding i k (is_flood (get_or l i no_node).state) h (o.flooding k) refl (e.1.0 k);
      sleeping = λ k. grown_turn (sleeps l) s.sleeping r.sleeping i k (is_sleep (get_or l i no_node).state) h (o.sleeping k) refl (e.1.1 k);
    }

-- a loop over the front of a list
pub sorted_front : (l : List Node) (m i : ℕ) (s : StateSets) → i ≤ m → Sorted (take m l) i s → Sorted l i s
unfolding listens floods sleeps
sorted_front l m i s h o =
    record {
      listening = λ k. o.listening k ∙ by k is_listen (ltb k i) refl;
      flooding = λ k. o.flooding k ∙ by k is_flood (ltb k i) refl;
      sleeping = λ k. o.sleeping k ∙ by k is_sleep (ltb k i) refl;
    }
  where
    by : (k : ℕ) (f : NodeState → Bool) (b : Bool) → ltb k i ≡ b → (b && f (get_or (take m l) k no_node).state) ≡ (b && f (get_or l k no_node).state)
    by k f true e = let low = ltb-true k i e in ap (λ v. f v.state) (get_or-take m l k no_node (omega arith))
    by k f false e = refl

pub sorted_all : (l : List Node) (n i : ℕ) (s : StateSets) → s.listening < 2 ^ 64 → s.flooding < 2 ^ 64 → s.sleeping < 2 ^ 64 → i ≤ at_most64 n → at_most64 n ≤ i → Sorted l i s → s ≡ sets_of n l
unfolding sets_of
sorted_all l n i s a b c p q o =
    rw (
      ← grown_all (listens l) (at_most64 n) i s.listening (omega arith) a p q o.listening,
      ← grown_all (floods l) (at_most64 n) i s.flooding (omega arith) b p q o.flooding,
      ← grown_all (sleeps l) (at_most64 n) i s.sleeping (omega arith) c p q o.sleeping,
    )
