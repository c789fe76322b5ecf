-- A slot on board and table is a slot of the rules. Assumes nothing.
use Rattle.std.proofs.Common.{◌≡◌, ℕ, ◌+◌, ◌<◌, ◌≤◌, Bool, true, false, not, ◌&&◌, ◌||◌, ltb, List, length, get_or, replicate, sym, refl, ap, ◌∙◌, subst, inl, inr, true≢false, arith, ltb-true, le-ltb}
use Rattle.loops.specs.Pick.{either}
use Rattle.loops.specs.Wrap.{add64}
use Rattle.marks.specs.Marks.{has}
use Rattle.marks.specs.Sets.{and_true, has_marks}
use Rattle.merges.specs.Merging.{network_goal_of}
use Rattle.engines.specs.Clamp.{at_most64}
use Rattle.engines.specs.Columns.{cell, stored_as}
use Rattle.engines.specs.Nodes.{no_node, is_listen, is_flood, sets_of}
use Rattle.engines.specs.Network.{ticking}
use Rattle.engines.specs.declared.node.Node.{Node}
use Rattle.engines.specs.declared.node.NodeState.{NodeState}
use Rattle.engines.specs.declared.node.NodeState.TheVariants.{Listen, Flood, Sleep}
use Rattle.engines.specs.declared.node.StateSets.{StateSets}
use Rattle.engines.specs.declared.network.RoundConf.{RoundConf}
use Rattle.engines.proofs.Cells.{cells_apart, cells_length}
use Rattle.engines.proofs.Places.{view_same}
use Rattle.capture.specs.Plan.{Plan, targets_of, targets_in, plan_of, Hears}
use Rattle.capture.specs.Turns.{News, turned_all}
use Rattle.capture.specs.Ce.{SlotMerges, sent_of, told_all}
use Rattle.capture.specs.Capture.{voting_of, begun, goal_met, news_of, applied, plan_for, acted, finished}
use Rattle.capture.specs.Idle.{idled}
use Rattle.capture.specs.Boards.{last_at, state_by, node_by, nodes_by, ShownHeld, seen_by, Shown, fixed_of, Goes, plan_by, PlannedBy, sent_by, Apart, ToldAll, passed_cells, TurnedBy, goal_by, ended_by}
use Rattle.capture.specs.declared.board.Board.{Board}
use Rattle.capture.specs.declared.board.CeFixed.{CeFixed}
use Rattle.capture.specs.declared.plan.SlotPlan.{SlotPlan}
use Rattle.capture.specs.declared.ce.Told.{Told}
use Rattle.capture.specs.declared.capture.CeState.{CeState}
use Rattle.capture.proofs.Viewing.{passed_length, passed_rest, nodes_passed, nodes_ticked}
use Rattle.capture.proofs.Turning.{split_next, nodes_turned}
use Rattle.capture.proofs.Holding.{held_length, decided_at, goal_is, sent_is, held_kept}
use Rattle.capture.proofs.Telling.{told_goal, told_rests}
use Rattle.capture.proofs.Neighbours.{plan_heard, plan_others}
use Rattle.capture.proofs.Resting as resting

-- what a slot goes by, as the settings have it
pub goes_as : (P : List ℕ → CeFixed → Type 0) {conf : RoundConf} {links : List ℕ} {f : CeFixed} → Goes conf links f → P links f → P conf.graph.adj (fixed_of conf)
goes_as P {conf} {links} {f} g p = subst (λ (l : List ℕ). P l (fixed_of conf)) (sym g.adj) (subst (P links) (sym g.fixed) p)

pub goes : (conf : RoundConf) {f : CeFixed} → f ≡ fixed_of conf → Goes conf conf.graph.adj f
goes conf e = record { adj = refl; fixed = sym e }

-- what holds of the state that is shown holds of the one that it is
pub as_seen : (P : CeState → Type 0) {n : ℕ} {base : CeState} {b : Board} {x : List ℕ} {c : CeState} → Shown n base b x c
    → (Shown n base b x (seen_by n base b x) → P (seen_by n base b x)) → P c
as_seen P {n} {base} {b} {x} o f = subst P o.sees (f (subst (Shown n base b x) (sym o.sees) o))

module _ {n : ℕ} {base : CeState} {b : Board} {x : List ℕ} (o : Shown n base b x (seen_by n base b x)) where
  abbrev nodes : List Node
  nodes = nodes_by n base.network.nodes b.states b.goal_reached x

  pub states_are : b.states ≡ sets_of n nodes
  unfolding seen_by
  states_are = resting.sets_shown o

  pub last_at_lem : (i : ℕ) → i < at_most64 n → (get_or nodes i no_node).last_progress_slot ≡ cell x last_at i
  unfolding seen_by
  last_at_lem i h = resting.last_at_lem o i h

  -- a mark of a set of states is a position's
  in_set : (f : NodeState → Bool) (m i : ℕ) → has m i ≡ (ltb i (at_most64 n) && f (state_by b.states i)) → has m i ≡ true → i < at_most64 n
  in_set f m i e q = ltb-true i (at_most64 n) (and_true (ltb i (at_most64 n)) (f (state_by b.states i)) (sym e ∙ q)).0

  pub listens_in : (i : ℕ) → has b.states.listening i ≡ true → i < at_most64 n
  listens_in i q = in_set is_listen b.states.listening i (o.split.listening i) q

  pub floods_in : (i : ℕ) → has b.states.flooding i ≡ true → i < at_most64 n
  floods_in i q = in_set is_flood b.states.flooding i (o.split.flooding i) q

  -- who floods does not listen
  pub not_both : (i : ℕ) → has b.states.flooding i ≡ true → has b.states.listening i ≡ false
  not_both i q = o.split.listening i ∙ by (ltb i (at_most64 n)) (state_by b.states i) (sym (o.split.flooding i) ∙ q)
    where
      by : (t : Bool) (s : NodeState) → (t && is_flood s) ≡ true → (t && is_listen s) ≡ false
      by true Listen e = absurd (true≢false (sym e))
      by true Flood e = refl
      by true Sleep e = refl
      by false s e = refl

-- ---- counts

-- the board after k slots in which no state changes
abbrev pub later : Board → ℕ → Board
later b k =
    record {
      states = b.states;
      goal_reached = b.goal_reached;
      phases = b.phases;
      can_sleep = b.can_sleep;
      metrics = b.metrics;
      slot = add64 b.slot k;
      next_row = b.next_row;
      bytes_sent = b.bytes_sent;
      draw = b.draw;
      ended = b.ended;
    }

module _ (conf : RoundConf) {base : CeState} {b : Board} {x : List ℕ} (o : Shown conf.graph.n base b x (seen_by conf.graph.n base b x)) where
  abbrev n : ℕ
  n = conf.graph.n

  pub shown_begun : Shown n base b (passed_cells b.states 1 x) (begun conf (seen_by n base b x))
  unfolding begun ticking seen_by
  shown_begun =
      let held = held_kept o.held (passed_cells b.states 1 x) (passed_length b.states 1 x o.held.table) (passed_rest b.states 1 x o.held.table) in
      record {
        whole = o.whole;
        split = o.split;
        held = held;
        sees = rw (nodes_ticked n b.states b.goal_reached x base.network.nodes o.split o.held.table o.whole, held.sees);
      }

  module _ (k : ℕ) where
    pub shown_idled : Shown n base (later b k) (passed_cells b.states k x) (idled conf k (seen_by n base b x))
    unfolding idled seen_by
    shown_idled =
        let held = held_kept o.held (passed_cells b.states k x) (passed_length b.states k x o.held.table) (passed_rest b.states k x o.held.table) in
        record {
          whole = o.whole;
          split = o.split;
          held = held;
          sees = rw (nodes_passed n b.states o.split b.goal_reached k x o.held.table base.network.nodes o.whole, held.sees);
        }

  -- ---- the goal

  pub shown_goal : Shown n base (ended_by conf.interval b) x (goal_met conf (seen_by n base b x))
  unfolding goal_met seen_by
  shown_goal = record { whole = o.whole; split = o.split; held = o.held; sees = refl }

  pub goal_seen : goal_by n b.phases ≡ network_goal_of n (seen_by n base b x).held
  goal_seen = goal_is o.held

  -- ---- plan, merges, states

  module _ (ws : List ℕ) (p : SlotPlan) (hears : List ℕ) (planned : PlannedBy ws conf.graph.adj (fixed_of conf) b.states b.slot b.draw x (replicate 64 64) p hears) where
    abbrev c : CeState
    c = seen_by n base b x

    abbrev plan_hears : Plan
    plan_hears = plan_of ws conf.settings.loss_rate conf.graph.adj b.slot conf.settings.listen_timeout (nodes o) b.states b.draw

    planned_as : plan_by p hears ≡ plan_hears
    planned_as = planned.plan (nodes o) refl (λ i q. last_at_lem o i (listens_in o i q))

    plan_is : plan_by p hears ≡ plan_for ws conf c
    unfolding seen_by
    plan_is =
        planned_as
        ∙ ap (λ (s : StateSets). plan_of ws conf.settings.loss_rate conf.graph.adj b.slot conf.settings.listen_timeout (nodes o) s b.draw) (states_are o)

    hears_are : hears ≡ plan_hears.hears
    hears_are = ap (λ (z : Plan). z.hears) planned_as

    targets_are : p.targets ≡ targets_in b.states plan_hears.recovering
    targets_are = planned.targets ∙ ap (λ (z : Plan). targets_in b.states z.recovering) planned_as

    -- a target listens
    target_listens : (i : ℕ) → has p.targets i ≡ true → has b.states.listening i ≡ true
    unfolding targets_of
    target_listens i q =
        let e = sym (has_marks 64 (λ t. has b.states.listening t && not (has plan_hears.recovering t)) i) ∙ ap (λ (m : ℕ). has m i) (sym targets_are) ∙ q in
        (and_true (has b.states.listening i) (not (has plan_hears.recovering i)) (and_true (ltb i 64) _ e).1).0

    -- whom a target hears floods
    sender_floods : (i : ℕ) → i < 64 → get_or hears i 0 < 64 → has b.states.flooding (get_or hears i 0) ≡ true
    sender_floods i h k = by (plan_heard ws conf.settings.loss_rate conf.graph.adj b.slot conf.settings.listen_timeout (nodes o) b.states b.draw i h)
      where
        same : get_or hears i 0 ≡ get_or plan_hears.hears i 0
        same = ap (λ (l : List ℕ). get_or l i 0) hears_are

        by : Hears conf.graph.adj b.states.flooding i (get_or plan_hears.hears i 0) → has b.states.flooding (get_or hears i 0) ≡ true
        by (inl e) = absurd (omega (arith, same, e))
        by (inr s) = rw same s.floods

    pub apart : Apart n hears p.targets
    apart =
        record {
          position = λ i q. listens_in o i (target_listens i q);
          sender = λ i q k. floods_in o (get_or hears i 0) (sender_floods i (let h = listens_in o i (target_listens i q) in omega arith) k);
          silent = λ i q k. quiet (get_or hears i 0) (has p.targets (get_or hears i 0)) refl (sender_floods i (let h = listens_in o i (target_listens i q) in omega arith) k);
          others = λ i h q. le-ltb (get_or hears i 0) 64 (nobody i h q);
        }
      where
        quiet : (j : ℕ) (t : Bool) → has p.targets j ≡ t → has b.states.flooding j ≡ true → t ≡ false
        quiet j true e f = sym (target_listens j e) ∙ not_both o j f
        quiet j false e f = refl

        nobody : (i : ℕ) → i < 64 → has p.targets i ≡ false → 64 ≤ get_or hears i 0
        nobody i h q =
            let e = plan_others ws conf.settings.loss_rate conf.graph.adj b.slot conf.settings.listen_timeout (nodes o) b.states b.draw i h
            (sym (ap (λ (m : ℕ). has m i) targets_are) ∙ q) in
            let same = ap (λ (l : List ℕ). get_or l i 0) hears_are in
            omega (arith, same, e)

    module _ (sent : ℕ) (es : sent ≡ sent_by b.states.flooding b.phases x) (t₀ t : Told) (e₁ : t₀.phases ≡ b.phases) (e₂ : t₀.can_sleep ≡ b.can_sleep) (e₃ : t₀.new_info ≡ 0)
        (y : List ℕ) (told : ToldAll (voting_of conf) p.targets hears t₀ x t y) (r : Board) (z : List ℕ) (turn : TurnedBy b conf.interval p sent t y r z) where
      abbrev merges : SlotMerges
      merges = told_all (voting_of conf) hears c.held

      start : ShownHeld n base.held t₀.phases t₀.can_sleep x c.held
      start = rw (e₁, e₂) o.held

      after : ShownHeld n base.held t.phases t.can_sleep y merges.held
      after = told.shown base.held c.held apart e₃ start

      -- the merges leave counts and last progress
      nodes_same : nodes_by n base.network.nodes b.states b.goal_reached y ≡ nodes o
      unfolding nodes_by node_by cell
      nodes_same =
          view_same no_node base.network.nodes (at_most64 n) (omega (arith, o.whole)) (node_by b.states b.goal_reached y) (node_by b.states b.goal_reached x)
          (λ i h. rw (told.kept (0 + i) (omega arith), told.kept (64 + i) (omega arith), told.kept (128 + i) (omega arith), told.kept (192 + i) (omega arith)))

      abbrev news : News
      news = news_of (plan_by p hears) merges

      new : (i : ℕ) → has t.new_info i ≡ has merges.new_info i
      new = told.news base.held c.held apart e₃ start

      progress : (i : ℕ) → has turn.progressed i ≡ (has p.recovering i || has merges.new_info i)
      progress i = turn.marks i ∙ ap (λ (q : Bool). has p.recovering i || q) (new i)

      rest : (i : ℕ) → i < at_most64 n → has t.can_sleep i ≡ has merges.can_sleep i
      rest i h = after.resting i h ∙ sym (told_rests (voting_of conf) hears c.held (held_length o.held) i h)

      reached : (i : ℕ) → i < at_most64 n → has r.goal_reached i ≡ either (has merges.new_info i) (has merges.goal_reached i) (has b.goal_reached i)
      reached i h =
          turn.goal i ∙ rw (new i, decided_at after i h)
          (ap (λ (q : Bool). either (has merges.new_info i) q (has b.goal_reached i)) (sym (told_goal (voting_of conf) hears c.held (held_length o.held) i h)))

      turned : nodes_by n base.network.nodes r.states r.goal_reached z ≡ turned_all n b.slot news (nodes o)
      turned =
          ap (nodes_by n base.network.nodes r.states r.goal_reached) turn.table
          ∙ nodes_turned n b.states turn.progressed t.can_sleep r.states o.split turn.states b.slot b.goal_reached r.goal_reached y after.table news progress rest reached base.network.nodes o.whole
          ∙ ap (turned_all n b.slot news) nodes_same

      bytes : sent ≡ sent_of (sets_of n (nodes o)).flooding c.held
      bytes = es ∙ sent_is o.held b.states.flooding (floods_in o) ∙ ap (λ (s : StateSets). sent_of s.flooding c.held) (states_are o)

      z_long : length z ≡ 576
      unfolding stored_as
      z_long = ap length turn.table ∙ cells_length 0 (λ v. b.slot) turn.progressed y ∙ after.table

      z_kept : (q : ℕ) → 256 ≤ q → get_or z q 0 ≡ get_or y q 0
      unfolding stored_as
      z_kept q h = ap (λ (l : List ℕ). get_or l q 0) turn.table ∙ cells_apart 0 (λ v. b.slot) turn.progressed y q (λ j l e. omega arith)

      held_then : ShownHeld n base.held r.phases r.can_sleep z merges.held
      held_then = rw (turn.phases, turn.rests) (held_kept after z z_long z_kept)

      shown_as : Shown n base r z (applied conf c (plan_by p hears) merges)
      unfolding seen_by
      shown_as =
          record {
            whole = o.whole;
            split = split_next n b.states turn.progressed t.can_sleep r.states o.split turn.states;
            held = held_then;
            sees = rw (turned, held_then.sees, turn.metrics hears, turn.slot, turn.row, turn.bytes, turn.draw, turn.going, bytes);
          }

      pub shown_acted : Shown n base r z (acted ws conf c)
      unfolding acted
      shown_acted = subst (λ (q : Plan). Shown n base r z (applied conf c q (told_all (voting_of conf) q.hears c.held))) plan_is shown_as

-- ---- a slot

-- after the goal test
pub finished_goal : (ws : List ℕ) (conf : RoundConf) {links : List ℕ} {f : CeFixed} (base : CeState) {b : Board} {x : List ℕ} (c : CeState) → Goes conf links f → goal_by f.voting.n b.phases ≡ true
    → Shown conf.graph.n base b x c → Shown conf.graph.n base (ended_by f.interval b) x (finished ws conf c)
unfolding finished
finished_goal ws conf {links} {f} base {b} {x} c g e o =
    as_seen (λ (c : CeState). Shown conf.graph.n base (ended_by f.interval b) x (either (network_goal_of conf.graph.n c.held) (goal_met conf c) (acted ws conf c))) o
    (λ o'. rw (sym (goal_seen conf o') ∙ met) (subst (λ (k : CeFixed). Shown conf.graph.n base (ended_by k.interval b) x (goal_met conf (seen_by conf.graph.n base b x))) g.fixed (shown_goal conf o')))
  where
    met : goal_by conf.graph.n b.phases ≡ true
    met = ap (λ (k : CeFixed). goal_by k.voting.n b.phases) g.fixed ∙ e

pub finished_acted : (ws : List ℕ) (conf : RoundConf) {links : List ℕ} {f : CeFixed} (base : CeState) {b r : Board} {x y : List ℕ} (c : CeState) → Goes conf links f → goal_by f.voting.n b.phases ≡ false
    → Shown conf.graph.n base b x c → Shown conf.graph.n base r y (acted ws conf c) → Shown conf.graph.n base r y (finished ws conf c)
unfolding finished
finished_acted ws conf {links} {f} base {b} {r} {x} {y} c g e o q = rw left q
  where
    left : network_goal_of conf.graph.n c.held ≡ false
    left = sym (goal_is o.held) ∙ ap (λ (k : CeFixed). goal_by k.voting.n b.phases) g.fixed ∙ e

pub slot_begun : (conf : RoundConf) (base : CeState) {b : Board} {x : List ℕ} (c : CeState) → Shown conf.graph.n base b x c → Shown conf.graph.n base b (passed_cells b.states 1 x) (begun conf c)
slot_begun conf base {b} {x} c o = as_seen (λ (c : CeState). Shown conf.graph.n base b (passed_cells b.states 1 x) (begun conf c)) o (λ o'. shown_begun conf o')

pub slot_idled : (conf : RoundConf) (base : CeState) {b : Board} {x : List ℕ} (c : CeState) (k : ℕ) → (o : Shown conf.graph.n base b x c)
    → Shown conf.graph.n base (later b k) (passed_cells b.states k x) (idled conf k c)
slot_idled conf base {b} {x} c k o = as_seen (λ (c : CeState). Shown conf.graph.n base (later b k) (passed_cells b.states k x) (idled conf k c)) o (λ o'. shown_idled conf o' k)

-- plan, merges and turn of a slot, each by what it ensures
pub slot_acted : (ws links : List ℕ) (f : CeFixed) {b r : Board} {x y z : List ℕ} {p : SlotPlan} {hears : List ℕ} {sent : ℕ} {t₀ t : Told}
    → PlannedBy ws links f b.states b.slot b.draw x (replicate 64 64) p hears → sent ≡ sent_by b.states.flooding b.phases x
    → t₀.phases ≡ b.phases → t₀.can_sleep ≡ b.can_sleep → t₀.new_info ≡ 0 → ToldAll f.voting p.targets hears t₀ x t y → TurnedBy b f.interval p sent t y r z
    → (conf : RoundConf) (base c : CeState) → Goes conf links f → Shown conf.graph.n base b x c → Shown conf.graph.n base r z (acted ws conf c)
slot_acted ws links f {b} {r} {x} {y} {z} {p} {hears} {sent} {t₀} {t} planned es e₁ e₂ e₃ told turn conf base c g o =
    as_seen (λ (c : CeState). Shown conf.graph.n base r z (acted ws conf c)) o
    (λ o'. shown_acted conf o' ws p hears
    (goes_as (λ l k. PlannedBy ws l k b.states b.slot b.draw x (replicate 64 64) p hears) g planned)
    sent es t₀ t e₁ e₂ e₃ y
    (goes_as (λ l k. ToldAll k.voting p.targets hears t₀ x t y) g told)
    r z
    (goes_as (λ l k. TurnedBy b k.interval p sent t y r z) g turn))
