-- Coins and the goal by sets and table, and the slots in which nobody acts, told by board and table. Assumes nothing.
use Rattle.std.proofs.Common.{◌≡◌, ℕ, ◌+◌, ◌-◌, ◌^◌, ◌<◌, ◌≤◌, Bool, true, false, not, ◌&&◌, eqb, List, length, get_or, sym, refl, ap, ◌∙◌, true≢false, arith, le-ltb, lt-ltb, eqb-true, le-leb}
use borrow.Author.Tests.{lt-leb}
use Rattle.loops.specs.Pick.{either}
use Rattle.loops.specs.Upto.{upto_same}
use Rattle.marks.specs.Marks.{has, all_of, count_of}
use Rattle.marks.specs.Laws.{has_none}
use Rattle.engines.specs.Clamp.{at_most64}
use Rattle.engines.specs.Marked.{over_marks}
use Rattle.engines.specs.Columns.{cell}
use Rattle.engines.specs.Nodes.{no_node, is_listen, sets_of}
use Rattle.engines.specs.Stretch.{Small}
use Rattle.engines.specs.declared.words.Draw.{Draw}
use Rattle.engines.specs.declared.node.Node.{Node}
use Rattle.engines.specs.declared.node.StateSets.{StateSets}
use Rattle.engines.specs.declared.network.RoundConf.{RoundConf}
use Rattle.engines.proofs.Marking.{Without}
use Rattle.engines.proofs.Places.{view_get, view_length}
use Rattle.capture.specs.Plan.{timed_out, tossed1, toss_at, coins_of, targets_in, Captured, capture_at}
use Rattle.capture.specs.Idle.{Waits, Idle}
use Rattle.capture.specs.Boards.{last_at, state_by, node_by, nodes_by, seen_by, Shown, Goes}
use Rattle.capture.specs.Boards.{waiting_since, coins_by, PlannedBy, goal_by}
use Rattle.capture.specs.declared.plan.Coins.{Coins}
use Rattle.capture.specs.declared.plan.Reception.{Reception}
use Rattle.capture.specs.declared.board.Phases.{Phases}
use Rattle.capture.specs.declared.board.Board.{Board}
use Rattle.capture.specs.declared.board.CeFixed.{CeFixed}
use Rattle.capture.specs.declared.capture.CeState.{CeState}
use Rattle.capture.proofs.Hearing.{plan_is}
use Rattle.capture.proofs.Viewing.{below, sets_is}
use Rattle.capture.proofs.Holding.{all_same, goal_is}

-- ---- coins

-- A coin needs the last progress of its position alone, so the table gives the coins of nodes with that progress.
pub coins_same : (ws : List ℕ) (slot timeout : ℕ) (x : List ℕ) (nodes : List Node) (listening : ℕ) (d : Draw)
    → ((i : ℕ) → has listening i ≡ true → (get_or nodes i no_node).last_progress_slot ≡ cell x last_at i)
    → coins_by ws slot timeout x listening d ≡ coins_of ws slot timeout nodes listening d
unfolding coins_by coins_of over_marks tossed1 timed_out
coins_same ws slot timeout x nodes listening d at =
    upto_same _ _ (record { recovering = 0; draw = d }) 64 (λ i h c. by i (has listening i) refl c)
  where
    by : (i : ℕ) (t : Bool) → has listening i ≡ t → (c : Coins)
        → either t (tossed1 ws slot timeout (waiting_since (cell x last_at i)) i c) c
        ≡ either t (toss_at ws slot timeout nodes i c) c
    by i true q c = rw (at i q)
    by i false q c = refl

-- coins by the table, then the targets, then what each hears, in a list that had nobody for each
pub planned_by : (ws links : List ℕ) (f : CeFixed) (s : StateSets) (slot : ℕ) (d : Draw) (x hears : List ℕ)
    {c : Coins} {ts k : ℕ} {after : List ℕ} {q : Reception}
    → c ≡ coins_by ws slot f.listen_timeout x s.listening d
    → ts ≡ targets_in s c.recovering
    → ◌≡◌ {A = Captured} (record { hears = after; tally = q })
    (over_marks ts (capture_at ws f.loss_rate links s.flooding)
    (record { hears = hears; tally = record { draw = c.draw; rx_attempts = 0; rx_success = 0 } }))
    → k ≡ count_of c.recovering 64
    → PlannedBy ws links f s slot d x hears
    (record {
      recovering = c.recovering;
      targets = ts;
      draw = q.draw;
      ce_timeouts = k;
      rx_attempts = q.rx_attempts;
      rx_success = q.rx_success;
    }) after
planned_by ws links f s slot d x hears ec et eq ek =
    record {
      targets = et;
      plan = λ nodes e same.
          plan_is ws f.loss_rate links slot f.listen_timeout nodes s d
          (ec ∙ coins_same ws slot f.listen_timeout x nodes s.listening d same) et (rw e at eq) ek;
    }

-- ---- the goal

module _ (n : ℕ) (p : Phases) where
  pub goal_none : n ≡ 0 → false ≡ goal_by n p
  unfolding goal_by
  goal_none e = rw (le-ltb 0 n (omega arith))

  pub goal_beyond : 64 < n → false ≡ goal_by n p
  unfolding goal_by
  goal_beyond h = rw (lt-ltb 0 n (omega arith), lt-leb n 64 h)

  pub goal_met : (n ≡ 0 → ⊥) → n ≤ 64 → all_of n (λ i. has p.committed i) ≡ true → true ≡ goal_by n p
  unfolding goal_by
  goal_met ne h e = rw (lt-ltb 0 n (omega arith), le-leb n 64 h, e)

  -- not all hold Committed: then all have to hold Aborted, which d has the marks of
  pub goal_left : {r : Bool} (d : ℕ) → (n ≡ 0 → ⊥) → n ≤ 64 → all_of n (λ i. has p.committed i) ≡ false
      → ((i : ℕ) → has d i ≡ (has p.aborted i && not (has p.committed i)))
      → r ≡ all_of n (λ i. has d i) → r ≡ goal_by n p
  unfolding goal_by
  goal_left d ne h e same q =
      q ∙ all_same (λ i. has d i) (λ i. has p.aborted i && not (has p.committed i)) n (λ i l. same i)
      ∙ rw (lt-ltb 0 n (omega arith), le-leb n 64 h, e)

-- ---- waiting

-- No coin is due in so many slots for the listening positions that are not left.
pub record Waited (listening : ℕ) (x : List ℕ) (slot timeout wait left : ℕ) : Type 0 where
  pub early : 0 < wait → (i : ℕ) → has listening i ≡ true → has left i ≡ false
      → slot - cell x last_at i + wait ≤ timeout

module _ {listening : ℕ} {x : List ℕ} {slot timeout : ℕ} where
  pub waited_none : {wait : ℕ} → Waited listening x slot timeout wait listening
  waited_none = record { early = λ p i a b. absurd (true≢false (sym a ∙ b)) }

  -- position r is taken out of those that are left
  pub waited_more : {wait wait' left left' r : ℕ} → Waited listening x slot timeout wait left → wait' ≤ wait
      → (0 < wait' → slot - cell x last_at r + wait' ≤ timeout)
      → Without left r left'
      → Waited listening x slot timeout wait' left'
  waited_more {wait} {wait'} {left} {left'} {r} w less own taken =
      record { early = λ p i a b. by p i a (has left i) refl (eqb i r) refl (sym (taken.rest i) ∙ b) }
    where
      by : 0 < wait' → (i : ℕ) → has listening i ≡ true → (s : Bool) → has left i ≡ s → (t : Bool) → eqb i r ≡ t
          → (has left i && not (eqb i r)) ≡ false → slot - cell x last_at i + wait' ≤ timeout
      by p i a false e t q z = let h = w.early (omega arith) i a e in omega arith
      by p i a true e true q z = rw (eqb-true i r q) (own p)
      by p i a true e false q z = absurd (true≢false (rw (e, q) at z))

  pub waited_all : {wait left : ℕ} → Waited listening x slot timeout wait left → left ≡ 0
      → 0 < wait → (i : ℕ) → has listening i ≡ true → slot - cell x last_at i + wait ≤ timeout
  waited_all w e p i a = w.early p i a (rw e (has_none i))

-- ---- what board and table show

module _ {n : ℕ} {base : CeState} {b : Board} {x : List ℕ} {c : CeState} (o : Shown n base b x c) where
  abbrev shows : ℕ → Node → Node
  shows = node_by b.states b.goal_reached x

  pub nodes_long : length c.network.nodes ≡ 64
  unfolding seen_by nodes_by
  nodes_long =
      ap (λ (s : CeState). length s.network.nodes) (sym o.sees)
      ∙ view_length no_node base.network.nodes (at_most64 n) (omega (arith, o.whole)) shows ∙ o.whole

  pub node_at : (i : ℕ) → i < at_most64 n
      → get_or c.network.nodes i no_node ≡ shows i (get_or base.network.nodes i no_node)
  unfolding seen_by nodes_by
  node_at i h =
      ap (λ (s : CeState). get_or s.network.nodes i no_node) (sym o.sees)
      ∙ view_get no_node base.network.nodes (at_most64 n) (omega (arith, o.whole)) shows i h

  pub state_at : (i : ℕ) → i < at_most64 n → (get_or c.network.nodes i no_node).state ≡ state_by b.states i
  unfolding node_by
  state_at i h = ap (λ (v : Node). v.state) (node_at i h)

  pub last_at_lem : (i : ℕ) → i < at_most64 n → (get_or c.network.nodes i no_node).last_progress_slot ≡ cell x last_at i
  unfolding node_by
  last_at_lem i h = ap (λ (v : Node). v.last_progress_slot) (node_at i h)

  -- its sets are those of its positions
  pub sets_shown : b.states ≡ sets_of n c.network.nodes
  sets_shown = sets_is n b.states o.split c.network.nodes state_at

-- ---- nobody acts

-- numbers of a board as they are held
pub record SmallBoard (b : Board) : Type 0 where
  pub sent : b.bytes_sent < 2 ^ 64
  pub timeouts : b.metrics.ce_timeouts < 2 ^ 64
  pub attempts : b.metrics.rx_attempts < 2 ^ 64
  pub success : b.metrics.rx_success < 2 ^ 64

-- ---- what the board says of the state that it shows

module _ {n : ℕ} {base : CeState} {b : Board} {x : List ℕ} {c : CeState} (o : Shown n base b x c) where
  pub ended_is : c.ended ≡ b.ended
  unfolding seen_by
  ended_is = ap (λ (z : CeState). z.ended) (sym o.sees)

  pub short_is : c.draw.short ≡ b.draw.short
  unfolding seen_by
  short_is = ap (λ (z : CeState). z.draw.short) (sym o.sees)

  pub slot_is : c.network.slot ≡ b.slot
  unfolding seen_by
  slot_is = ap (λ (z : CeState). z.network.slot) (sym o.sees)

  pub row_is : c.network.next_row ≡ b.next_row
  unfolding seen_by
  row_is = ap (λ (z : CeState). z.network.next_row) (sym o.sees)

-- what a board and a table have to say for k slots in which nobody acts
pub record Rests (f : CeFixed) (b : Board) (x : List ℕ) (k : ℕ) : Type 0 where
  pub small : SmallBoard b
  pub going : b.ended ≡ false
  pub rows : b.slot + k ≤ b.next_row
  pub goal : goal_by f.voting.n b.phases ≡ false
  pub silent : b.states.flooding ≡ 0
  pub awake : b.can_sleep ≡ 0
  pub waits : (i : ℕ) → has b.states.listening i ≡ true → b.slot - cell x last_at i + k ≤ f.listen_timeout

module _ (conf : RoundConf) (base c : CeState) (links : List ℕ) (f : CeFixed) (b : Board) (x : List ℕ) (k : ℕ)
    (g : Goes conf links f) (o : Shown conf.graph.n base b x c) (q : Rests f b x k) where
  abbrev n : ℕ
  n = conf.graph.n

  small_shown : Small c.network
  unfolding seen_by
  small_shown =
      let e = o.sees in
      record {
        nodes = nodes_long o;
        sent = rw (sym e) q.small.sent;
        timeouts = rw (sym e) q.small.timeouts;
        attempts = rw (sym e) q.small.attempts;
        success = rw (sym e) q.small.success;
      }

  count_is : f.voting.n ≡ n
  count_is = ap (λ (h : CeFixed). h.voting.n) (sym g.fixed)

  timeout_is : f.listen_timeout ≡ conf.settings.listen_timeout
  timeout_is = ap (λ (h : CeFixed). h.listen_timeout) (sym g.fixed)

  wait_shown : (i : ℕ) → i < at_most64 n
      → Waits c.network.slot conf.settings.listen_timeout k (get_or c.network.nodes i no_node)
  wait_shown i h =
      record {
        early = λ l.
            let e = below i (at_most64 n) (is_listen (state_by b.states i)) h (o.split.listening i) in
            let p = q.waits i (e ∙ sym (ap is_listen (state_at o i h)) ∙ l) in
            omega (arith, last_at_lem o i h, slot_is o, timeout_is);
      }

  -- then nobody acts by the rules
  pub rests_idle : Idle conf k c
  rests_idle =
      record {
        small = small_shown;
        going = ended_is o ∙ q.going;
        rows = omega (arith, slot_is o, row_is o, q.rows);
        goal = sym (goal_is o.held) ∙ ap (λ (m : ℕ). goal_by m b.phases) (sym count_is) ∙ q.goal;
        silent = ap (λ (s : StateSets). s.flooding) (sym (sets_shown o)) ∙ q.silent;
        waits = wait_shown;
        awake = λ i h. sym (o.held.resting i h) ∙ ap (λ (m : ℕ). has m i) q.awake ∙ has_none i;
      }
