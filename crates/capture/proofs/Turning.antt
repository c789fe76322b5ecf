-- The next states on sets, told by the positions that are shown. Assumes nothing.
use Rattle.std.proofs.Common.{◌≡◌, ℕ, ◌<◌, ◌≤◌, Bool, true, false, not, ◌&&◌, ◌||◌, ltb, List, length, get_or, sym, refl, ap, ◌∙◌, arith, ltb-false, ltb-true}
use Rattle.loops.specs.Pick.{either}
use Rattle.marks.specs.Marks.{has}
use Rattle.engines.specs.Clamp.{at_most64}
use Rattle.engines.specs.Columns.{cell, stored_as}
use Rattle.engines.specs.Nodes.{no_node, is_listen, is_flood, is_sleep}
use Rattle.engines.specs.declared.node.Node.{Node}
use Rattle.engines.specs.declared.node.StateSets.{StateSets}
use Rattle.engines.specs.declared.node.NodeState.{NodeState}
use Rattle.engines.specs.declared.node.NodeState.TheVariants.{Listen, Flood, Sleep}
use Rattle.engines.proofs.Cells.{cells_own, cells_other}
use Rattle.engines.proofs.Places.{view_step}
use Rattle.capture.specs.Turns.{News, next_state, turned, turn_of, turned_all}
use Rattle.capture.specs.Boards.{last_at, listen_at, flood_at, sleep_at, state_by, Split, node_by, nodes_by, Changed}
use Rattle.capture.proofs.Viewing.{below, above}

-- the three tests of the next state
next_listen : (x : NodeState) (p q : Bool) → ((is_listen x || is_flood x) && not (p || q)) ≡ is_listen (next_state x p q)
unfolding next_state
next_listen Listen true true = refl
next_listen Listen true false = refl
next_listen Listen false true = refl
next_listen Listen false false = refl
next_listen Flood true true = refl
next_listen Flood true false = refl
next_listen Flood false true = refl
next_listen Flood false false = refl
next_listen Sleep true true = refl
next_listen Sleep true false = refl
next_listen Sleep false true = refl
next_listen Sleep false false = refl

next_flood : (x : NodeState) (p q : Bool) → (((is_listen x || is_flood x) || is_sleep x) && ((p && not q) || (q && not (is_flood x)))) ≡ is_flood (next_state x p q)
unfolding next_state
next_flood Listen true true = refl
next_flood Listen true false = refl
next_flood Listen false true = refl
next_flood Listen false false = refl
next_flood Flood true true = refl
next_flood Flood true false = refl
next_flood Flood false true = refl
next_flood Flood false false = refl
next_flood Sleep true true = refl
next_flood Sleep true false = refl
next_flood Sleep false true = refl
next_flood Sleep false false = refl

next_sleep : (x : NodeState) (p q : Bool) → ((q && is_flood x) || (is_sleep x && not (p || q))) ≡ is_sleep (next_state x p q)
unfolding next_state
next_sleep Listen true true = refl
next_sleep Listen true false = refl
next_sleep Listen false true = refl
next_sleep Listen false false = refl
next_sleep Flood true true = refl
next_sleep Flood true false = refl
next_sleep Flood false true = refl
next_sleep Flood false false = refl
next_sleep Sleep true true = refl
next_sleep Sleep true false = refl
next_sleep Sleep false true = refl
next_sleep Sleep false false = refl

-- a state by its tests
state_back : (y : NodeState) → either (is_flood y) Flood (either (is_sleep y) Sleep Listen) ≡ y
state_back Listen = refl
state_back Flood = refl
state_back Sleep = refl

and_none : (t : Bool) → ((t && false) || false) ≡ false
and_none true = refl
and_none false = refl

module _ (n : ℕ) (s : StateSets) (progressed rests : ℕ) (r : StateSets) (o : Split n s) (e : Changed s progressed rests r) where
  abbrev next : ℕ → NodeState
  next i = next_state (state_by s i) (has progressed i) (has rests i)

  listen_in : (i : ℕ) → i < at_most64 n → has r.listening i ≡ is_listen (next i)
  listen_in i h =
      e.listening i
      ∙ rw (below i (at_most64 n) (is_listen (state_by s i)) h (o.listening i), below i (at_most64 n) (is_flood (state_by s i)) h (o.flooding i))
      (next_listen (state_by s i) (has progressed i) (has rests i))

  flood_in : (i : ℕ) → i < at_most64 n → has r.flooding i ≡ is_flood (next i)
  flood_in i h =
      e.flooding i
      ∙ rw (
        below i (at_most64 n) (is_listen (state_by s i)) h (o.listening i),
        below i (at_most64 n) (is_flood (state_by s i)) h (o.flooding i),
        below i (at_most64 n) (is_sleep (state_by s i)) h (o.sleeping i),
      )
      (next_flood (state_by s i) (has progressed i) (has rests i))

  sleep_in : (i : ℕ) → i < at_most64 n → has r.sleeping i ≡ is_sleep (next i)
  sleep_in i h =
      e.sleeping i
      ∙ rw (below i (at_most64 n) (is_flood (state_by s i)) h (o.flooding i), below i (at_most64 n) (is_sleep (state_by s i)) h (o.sleeping i))
      (next_sleep (state_by s i) (has progressed i) (has rests i))

  state_next : (i : ℕ) → i < at_most64 n → state_by r i ≡ next i
  unfolding state_by
  state_next i h = rw (flood_in i h, sleep_in i h) (state_back (next i))

  pub split_next : Split n r
  split_next = record { listening = λ i. at_listen i (ltb i (at_most64 n)) refl; flooding = λ i. at_flood i (ltb i (at_most64 n)) refl; sleeping = λ i. at_sleep i (ltb i (at_most64 n)) refl }
    where
      none_l : (i : ℕ) → ltb i (at_most64 n) ≡ false → has s.listening i ≡ false
      none_l i q = above i (at_most64 n) (is_listen (state_by s i)) (ltb-false i (at_most64 n) q) (o.listening i)

      none_f : (i : ℕ) → ltb i (at_most64 n) ≡ false → has s.flooding i ≡ false
      none_f i q = above i (at_most64 n) (is_flood (state_by s i)) (ltb-false i (at_most64 n) q) (o.flooding i)

      none_s : (i : ℕ) → ltb i (at_most64 n) ≡ false → has s.sleeping i ≡ false
      none_s i q = above i (at_most64 n) (is_sleep (state_by s i)) (ltb-false i (at_most64 n) q) (o.sleeping i)

      at_listen : (i : ℕ) (t : Bool) → ltb i (at_most64 n) ≡ t → has r.listening i ≡ (t && is_listen (state_by r i))
      at_listen i true q = listen_in i (ltb-true i (at_most64 n) q) ∙ ap is_listen (sym (state_next i (ltb-true i (at_most64 n) q)))
      at_listen i false q = e.listening i ∙ rw (none_l i q, none_f i q)

      at_flood : (i : ℕ) (t : Bool) → ltb i (at_most64 n) ≡ t → has r.flooding i ≡ (t && is_flood (state_by r i))
      at_flood i true q = flood_in i (ltb-true i (at_most64 n) q) ∙ ap is_flood (sym (state_next i (ltb-true i (at_most64 n) q)))
      at_flood i false q = e.flooding i ∙ rw (none_l i q, none_f i q, none_s i q)

      at_sleep : (i : ℕ) (t : Bool) → ltb i (at_most64 n) ≡ t → has r.sleeping i ≡ (t && is_sleep (state_by r i))
      at_sleep i true q = sleep_in i (ltb-true i (at_most64 n) q) ∙ ap is_sleep (sym (state_next i (ltb-true i (at_most64 n) q)))
      at_sleep i false q = e.sleeping i ∙ rw (none_f i q, none_s i q) (and_none (has rests i))

  -- the positions shown, in the next slot
  module _ (slot goal goal' : ℕ) (x : List ℕ) (long : length x ≡ 576) (w : News) (prog : (i : ℕ) → has progressed i ≡ (has w.recovering i || has w.new_info i))
      (sleeps : (i : ℕ) → i < at_most64 n → has rests i ≡ has w.can_sleep i)
      (reached : (i : ℕ) → i < at_most64 n → has goal' i ≡ either (has w.new_info i) (has w.goal_reached i) (has goal i)) where
    abbrev y : List ℕ
    y = stored_as last_at progressed slot x

    last_at_lem : (i : ℕ) → i < 64 → cell y last_at i ≡ either (has progressed i) slot (cell x last_at i)
    unfolding stored_as
    last_at_lem i h = cells_own last_at (λ v. slot) progressed x i h (omega arith)

    counts_at : (p i : ℕ) → i < 64 → 64 ≤ p → cell y p i ≡ cell x p i
    unfolding stored_as
    counts_at p i h l = cells_other last_at (λ v. slot) progressed x p i h (λ j b e. omega arith)

    turned_at : (i : ℕ) → i < at_most64 n → (v : Node) → node_by r goal' y i v ≡ turn_of slot w i (node_by s goal x i v)
    unfolding node_by turn_of turned
    turned_at i k v =
        rw (
          state_next i k,
          last_at_lem i (omega arith),
          counts_at listen_at i (omega arith) (omega arith),
          counts_at flood_at i (omega arith) (omega arith),
          counts_at sleep_at i (omega arith) (omega arith),
          reached i k,
          prog i,
          sleeps i k,
        )

    pub nodes_turned : (base : List Node) → length base ≡ 64 → nodes_by n base r goal' y ≡ turned_all n slot w (nodes_by n base s goal x)
    unfolding nodes_by turned_all
    nodes_turned base whole = view_step no_node base (at_most64 n) (omega arith) (node_by s goal x) (turn_of slot w) (node_by r goal' y) (λ i h. turned_at i h (get_or base i no_node))
