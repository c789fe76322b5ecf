-- A round begins: sets and table that were taken from a state show the state that the round starts with. First what
-- one mark and the three sets of phases say once they are written, then one position after the other. Assumes nothing.
use Rattle.std.proofs.Common.{◌≡◌, ℕ, ◌+◌, ◌*◌, ◌%◌, ◌<◌, ◌≤◌, Bool, true, false, not, ◌&&◌, ◌||◌, eqb, ltb, List, length, get_or, sym, refl, ap, ◌∙◌, arith, ltb-false, ltb-true, le-ltb, lt-ltb, eq-eqb, ne_eqb, eqb-true}
use borrow.Author.Tests.{eqb-false}
use Rattle.loops.specs.Pick.{either}
use Rattle.marks.specs.Marks.{has}
use Rattle.marks.specs.Laws.{has_none}
use Rattle.packets.specs.Writing.{data_len}
use Rattle.packets.specs.declared.TwoPcPhase.{TwoPcPhase}
use Rattle.packets.specs.declared.TwoPcPhase.TheVariants.{Prepare, Committed, Aborted}
use Rattle.merges.specs.Merging.{no_payload, can_sleep_of}
use Rattle.merges.specs.Slips.{packet_of}
use Rattle.merges.specs.declared.merging.Held.{Held}
use Rattle.merges.specs.declared.merging.Held.TheVariants.{Empty, Unreadable, Packet}
use Rattle.merges.specs.declared.merging.Payload.{Payload}
use Rattle.engines.specs.Clamp.{at_most64}
use Rattle.engines.specs.Columns.{cell, row_put}
use Rattle.engines.specs.Nodes.{no_node, is_listen, is_flood, is_sleep}
use Rattle.engines.specs.declared.node.Node.{Node}
use Rattle.engines.specs.declared.node.StateSets.{StateSets}
use Rattle.engines.specs.declared.node.NodeState.{NodeState}
use Rattle.engines.specs.declared.node.NodeState.TheVariants.{Listen, Flood}
use Rattle.engines.specs.declared.network.RoundConf.{RoundConf}
use Rattle.engines.proofs.Places.{place_local, local_same, local_fixed}
use Rattle.engines.proofs.Cells.{row_length, row_other, row_own}
use Rattle.capture.specs.Turns.{started, started_all}
use Rattle.capture.specs.Capture.{start_of}
use Rattle.capture.specs.Boards.{state_by, Split, node_by, nodes_by, holds_by, phase_by, held_by, slip_by, data_in}
use Rattle.capture.specs.Boards.{payload_by, payloads_by, ShownHeld, seen_by, Shown}
use Rattle.capture.specs.Boards.{row_for, PutPhase, NotedAt, Taken, FirstStates}
use Rattle.capture.specs.declared.board.Phases.{Phases}
use Rattle.capture.specs.declared.board.Board.{Board}
use Rattle.capture.specs.declared.board.Noted.{Noted}
use Rattle.capture.specs.declared.capture.CeState.{CeState}

-- ---- one mark

and_none : (t : Bool) → (t && false) ≡ false
and_none true = refl
and_none false = refl

-- with mark i, and without it, as `put` says it
pub put_with : (x : Bool) (i j : ℕ) → i < 64 → (x || (ltb j 64 && eqb j i)) ≡ either (eqb j i) true x
put_with x i j h = by (eqb j i) refl x
  where
    by : (t : Bool) → eqb j i ≡ t → (x : Bool) → (x || (ltb j 64 && t)) ≡ either t true x
    by true q true = refl
    by true q false = rw (lt-ltb j 64 (omega (arith, eqb-true j i q)))
    by false q true = refl
    by false q false = and_none (ltb j 64)

pub put_without : (x t : Bool) → (x && not t) ≡ either t false x
put_without true true = refl
put_without true false = refl
put_without false true = refl
put_without false false = refl

-- ---- the sets of phases

-- the phase that the marks in `committed` and `aborted` say
abbrev said : Bool → Bool → TwoPcPhase
said b c = either b Committed (either c Aborted Prepare)

-- the marks a, b, c of position i say a packet of phase f
pub put_three : {p : Phases} {i : ℕ} {f : TwoPcPhase} {r : Phases} (a b c : Bool)
    → (a || (b || c)) ≡ true → said b c ≡ f
    → ((j : ℕ) → has r.prepared j ≡ either (eqb j i) a (has p.prepared j))
    → ((j : ℕ) → has r.committed j ≡ either (eqb j i) b (has p.committed j))
    → ((j : ℕ) → has r.aborted j ≡ either (eqb j i) c (has p.aborted j))
    → r.unreadable ≡ p.unreadable → PutPhase p i f r
unfolding holds_by phase_by
put_three {p} {i} {f} {r} a b c some which ea eb ec eu =
    record {
      holds = λ j. rw (ea j, eb j, ec j)
          (held (eqb j i) (has p.prepared j) (has p.committed j) (has p.aborted j));
      phase = λ j. rw (eb j, ec j) (phase (eqb j i) (has p.committed j) (has p.aborted j));
      unreadable = eu;
    }
  where
    held : (t x y z : Bool) → (either t a x || (either t b y || either t c z)) ≡ either t true (x || (y || z))
    held true x y z = some
    held false x y z = refl

    phase : (t y z : Bool) → said (either t b y) (either t c z) ≡ either t f (said y z)
    phase true y z = which
    phase false y z = refl

-- ---- a position entered into the sets, by what it holds

pub noted_empty : {p : Phases} {i : ℕ} {held : Held} {f : TwoPcPhase} → held ≡ Empty → NotedAt p i held f p
noted_empty h =
    record {
      others = λ j n. (refl, refl);
      own = λ e. e ∙ sym h;
      phase = λ e. absurd (let z : ◌≡◌ {A = ℕ} 0 1 = cc in omega arith);
    }

not_packet : (t u : Bool) → either t Packet (either u Unreadable Empty) ≡ Empty → t ≡ false
not_packet true u e = absurd (let z : ◌≡◌ {A = ℕ} 0 1 = cc in omega arith)
not_packet false u e = refl

pub noted_unreadable : {p : Phases} {i : ℕ} {held : Held} {f : TwoPcPhase} (u : ℕ) → held ≡ Unreadable
    → ((j : ℕ) → has u j ≡ either (eqb j i) true (has p.unreadable j))
    → NotedAt p i held f
    (record { prepared = p.prepared; committed = p.committed; aborted = p.aborted; unreadable = u })
unfolding holds_by held_by phase_by
noted_unreadable {p} {i} u h e =
    record {
      others = λ j n. (rw (e j, ne_eqb j i n), refl);
      own = λ q. rw (none q, e i, eq-eqb i i refl) (sym h);
      phase = λ q. absurd (let z : ◌≡◌ {A = ℕ} 0 1 = cc in omega arith);
    }
  where
    none : held_by p i ≡ Empty → (has p.prepared i || (has p.committed i || has p.aborted i)) ≡ false
    none q = not_packet (has p.prepared i || (has p.committed i || has p.aborted i)) (has p.unreadable i) q

pub noted_packet : {p : Phases} {i : ℕ} {held : Held} {f : TwoPcPhase} {r : Phases} → held ≡ Packet → PutPhase p i f r
    → NotedAt p i held f r
unfolding held_by
noted_packet {p} {i} h o =
    record {
      others = λ j n. (rw (o.holds j, o.unreadable, ne_eqb j i n), rw (o.phase j, ne_eqb j i n));
      own = λ q. rw (o.holds i, eq-eqb i i refl) (sym h);
      phase = λ q. rw (o.phase i, eq-eqb i i refl);
    }

-- ---- the states of the first slot

pub first_states : {n initiator : ℕ} (all first : ℕ) {r : StateSets}
    → ((j : ℕ) → has all j ≡ (ltb j n && ltb j 64))
    → ((j : ℕ) → has first j ≡ (has 0 j || (ltb j 64 && eqb j initiator)))
    → ((j : ℕ) → has r.listening j ≡ (has all j && not (has first j)))
    → ((j : ℕ) → has r.flooding j ≡ (has all j && has first j))
    → r.sleeping ≡ 0 → FirstStates n initiator r
first_states {n} {initiator} all first ea ef el eg es =
    record {
      listening = λ j. rw (el j, ea j, ef j, has_none j) (by j not (ltb j (at_most64 n)) refl);
      flooding = λ j. rw (eg j, ea j, ef j, has_none j) (by j (λ t. t) (ltb j (at_most64 n)) refl);
      sleeping = es;
    }
  where
    by : (j : ℕ) (g : Bool → Bool) (t : Bool) → ltb j (at_most64 n) ≡ t
        → ((ltb j n && ltb j 64) && g (ltb j 64 && eqb j initiator)) ≡ (t && g (eqb j initiator))
    by j g true q =
        let l : j < at_most64 n = ltb-true j (at_most64 n) q in
        rw (lt-ltb j n (omega arith), lt-ltb j 64 (omega arith))
    by j g false q = rw (out (ltb j n) refl (ltb j 64) refl)
      where
        out : (s : Bool) → ltb j n ≡ s → (t : Bool) → ltb j 64 ≡ t → (s && t) ≡ false
        out true a true b = absurd (omega (arith, ltb-true j n a, ltb-true j 64 b, ltb-false j (at_most64 n) q))
        out true a false b = refl
        out false a t b = refl

-- ---- one position after the other

ltb_next : (j i : ℕ) → (j ≡ i → ⊥) → ltb j (i + 1) ≡ ltb j i
ltb_next j i n = by (ltb j i) refl
  where
    by : (t : Bool) → ltb j i ≡ t → ltb j (i + 1) ≡ t
    by true q = lt-ltb j (i + 1) (omega (arith, ltb-true j i q))
    by false q = le-ltb j (i + 1) (omega (arith, ltb-false j i q))

abbrev node_at : CeState → ℕ → Node
node_at c j = get_or c.network.nodes j no_node

abbrev held_at : CeState → ℕ → Payload
held_at c j = get_or c.held j no_payload

-- the numbers of position j when the round begins
abbrev row_at : CeState → ℕ → List ℕ
row_at c j = row_for c.network.slot j (node_at c j) (held_at c j)

abbrev nothing : Noted
nothing =
    record {
      goal_reached = 0;
      phases = record { prepared = 0; committed = 0; aborted = 0; unreadable = 0 };
      can_sleep = 0;
    }

pub taken_none : (n : ℕ) (c : CeState) {x : List ℕ} → length x ≡ 576 → Taken n 0 c nothing x
unfolding held_by holds_by
taken_none n c h =
    record {
      table = h;
      cells = λ j b k d. absurd (omega arith);
      short = λ j b. absurd (omega arith);
      goal = λ j b. absurd (omega arith);
      rests = λ j b. absurd (omega arith);
      held = λ j. rw (has_none j, le-ltb j 0 (omega arith));
      phase = λ j b q. absurd (omega arith);
    }

pub taken_turn : (n : ℕ) (c : CeState) (i : ℕ) {s r : Noted} {x y : List ℕ} → i < 64 → Taken n i c s x
    → y ≡ row_put 0 i (row_at c i) x → data_len (held_at c i).packet.proposal_data ≤ 129
    → ((j : ℕ) → has r.goal_reached j ≡ either (eqb j i) (node_at c i).goal_reached (has s.goal_reached j))
    → ((j : ℕ) → has r.can_sleep j ≡ either (eqb j i) (can_sleep_of n (held_at c i)) (has s.can_sleep j))
    → NotedAt s.phases i (held_at c i).held (held_at c i).packet.phase r.phases → Taken n (i + 1) c r y
taken_turn n c i {s} {r} {x} {y} h o ey ed eg er ep =
    record {
      table = ap length ey ∙ row_length 0 i (row_at c i) x ∙ o.table;
      cells = λ j b k d. cells j b k d (eqb j i) refl;
      short = λ j b. short j b (eqb j i) refl;
      goal = λ j b. rw (eg j) (goal j b (eqb j i) refl);
      rests = λ j b. rw (er j) (rests j b (eqb j i) refl);
      held = λ j. held j (eqb j i) refl;
      phase = λ j b q. phase j b q (eqb j i) refl;
    }
  where
    -- another position than i was taken before
    sooner : (j : ℕ) → j < i + 1 → eqb j i ≡ false → j < i
    sooner j b q = let n : j ≡ i → ⊥ = eqb-false j i q in omega arith

    cells : (j : ℕ) → j < i + 1 → (k : ℕ) → k < 9 → (t : Bool) → eqb j i ≡ t → cell y (64 * k) j ≡ get_or (row_at c j) k 0
    cells j b k d true q =
        let e : j ≡ i = eqb-true j i q in
        let z : 64 * k ≡ 0 + 64 * k = omega arith in
        ap (cell y (64 * k)) e
        ∙ ap (λ (p : ℕ). cell y p i) z
        ∙ ap (λ (l : List ℕ). cell l (0 + 64 * k) i) ey
        ∙ row_own 0 i (row_at c i) x k h d (omega (arith, o.table))
        ∙ ap (λ (p : ℕ). get_or (row_at c p) k 0) (sym e)
    cells j b k d false q =
        let n : j ≡ i → ⊥ = eqb-false j i q in
        rw ey (row_other 0 i (row_at c i) x (64 * k) j (λ m v e. omega arith) ∙ o.cells j (sooner j b q) k d)

    short : (j : ℕ) → j < i + 1 → (t : Bool) → eqb j i ≡ t → data_len (held_at c j).packet.proposal_data ≤ 129
    short j b true q = rw (eqb-true j i q) ed
    short j b false q = o.short j (sooner j b q)

    goal : (j : ℕ) → j < i + 1 → (t : Bool) → eqb j i ≡ t
        → either t (node_at c i).goal_reached (has s.goal_reached j) ≡ (node_at c j).goal_reached
    goal j b true q = rw (eqb-true j i q)
    goal j b false q = o.goal j (sooner j b q)

    rests : (j : ℕ) → j < i + 1 → (t : Bool) → eqb j i ≡ t
        → either t (can_sleep_of n (held_at c i)) (has s.can_sleep j) ≡ can_sleep_of n (held_at c j)
    rests j b true q = rw (eqb-true j i q)
    rests j b false q = o.rests j (sooner j b q)

    empty : held_by s.phases i ≡ Empty
    empty = o.held i ∙ ap (λ (t : Bool). either t (held_at c i).held Empty) (le-ltb i i (omega arith))

    held : (j : ℕ) (t : Bool) → eqb j i ≡ t → held_by r.phases j ≡ either (ltb j (i + 1)) (held_at c j).held Empty
    held j true q = rw (eqb-true j i q, lt-ltb i (i + 1) (omega arith)) (ep.own empty)
    held j false q = rw (ltb_next j i (eqb-false j i q)) ((ep.others j (eqb-false j i q)).0 ∙ o.held j)

    phase : (j : ℕ) → j < i + 1 → (held_at c j).held ≡ Packet → (t : Bool) → eqb j i ≡ t
        → phase_by r.phases j ≡ (held_at c j).packet.phase
    phase j b p true q = let e : j ≡ i = eqb-true j i q in rw e (ep.phase (rw e at p))
    phase j b p false q = (ep.others j (eqb-false j i q)).1 ∙ o.phase j (sooner j b q) p

pub taken_all : (n : ℕ) (c : CeState) {i k : ℕ} {s : Noted} {x : List ℕ} → i ≤ k → k ≤ i → Taken n i c s x
    → Taken n k c s x
taken_all n c {i} {k} h l o = let e : i ≡ k = omega arith in rw e at o

-- ---- what is shown then

-- the sets of the first slot, by the states that they say
module _ {n initiator : ℕ} {s : StateSets} (f : FirstStates n initiator s) where
  pub first_state : (i : ℕ) → state_by s i ≡ either (ltb i (at_most64 n) && eqb i initiator) Flood Listen
  unfolding state_by
  first_state i = rw (f.flooding i, f.sleeping, has_none i)

  pub first_split : Split n s
  first_split =
      record {
        listening = λ i. f.listening i ∙ listens (ltb i (at_most64 n)) (eqb i initiator) ∙ back i is_listen;
        flooding = λ i. f.flooding i ∙ floods (ltb i (at_most64 n)) (eqb i initiator) ∙ back i is_flood;
        sleeping = λ i. nobody i ∙ sleeps (ltb i (at_most64 n)) (eqb i initiator) ∙ back i is_sleep;
      }
    where
      nobody : (i : ℕ) → has s.sleeping i ≡ false
      nobody i = ap (λ (m : ℕ). has m i) f.sleeping ∙ has_none i

      back : (i : ℕ) (g : NodeState → Bool)
          → (ltb i (at_most64 n) && g (either (ltb i (at_most64 n) && eqb i initiator) Flood Listen))
          ≡ (ltb i (at_most64 n) && g (state_by s i))
      back i g = ap (λ (v : NodeState). ltb i (at_most64 n) && g v) (sym (first_state i))

      listens : (t e : Bool) → (t && not e) ≡ (t && is_listen (either (t && e) Flood Listen))
      listens true true = refl
      listens true false = refl
      listens false e = refl

      floods : (t e : Bool) → (t && e) ≡ (t && is_flood (either (t && e) Flood Listen))
      floods true true = refl
      floods true false = refl
      floods false e = refl

      sleeps : (t e : Bool) → false ≡ (t && is_sleep (either (t && e) Flood Listen))
      sleeps true true = refl
      sleeps true false = refl
      sleeps false e = refl

module _ (n : ℕ) (c : CeState) {s : Noted} {x : List ℕ} (o : Taken n (at_most64 n) c s x) where
  own_data : (i : ℕ) → i < at_most64 n → data_in c.held i ≡ (held_at c i).packet.proposal_data
  unfolding data_in
  own_data i b = let z : i % 64 ≡ i = omega arith in ap (λ (k : ℕ). (held_at c k).packet.proposal_data) z

  taken_held : (i : ℕ) → i < at_most64 n → held_by s.phases i ≡ (held_at c i).held
  taken_held i b = o.held i ∙ ap (λ (t : Bool). either t (held_at c i).held Empty) (lt-ltb i (at_most64 n) b)

  -- position i's payload, told by sets and table
  abbrev told : ℕ → Payload
  told i = record { held = Packet; packet = packet_of (data_in c.held) (slip_by s.phases x i) }

  -- .. is what it held, if it held a packet
  taken_packet : (i : ℕ) → i < at_most64 n → holds_by s.phases i ≡ true → told i ≡ held_at c i
  unfolding slip_by held_by
  taken_packet i b q =
      let e : Packet ≡ held_by s.phases i = rw q in
      let y : (held_at c i).held ≡ Packet = sym (e ∙ taken_held i b) in
      rw (
        o.phase i b y,
        o.cells i b 4 (omega arith),
        o.cells i b 5 (omega arith),
        o.cells i b 6 (omega arith),
        o.cells i b 7 (omega arith),
        own_data i b,
        ← y,
      )

  taken_payloads : length c.held ≡ 64 → payloads_by n c.held s.phases x ≡ c.held
  unfolding payloads_by payload_by
  taken_payloads h =
      local_fixed no_payload _ _ (place_local no_payload (payload_by c.held s.phases x))
      c.held (at_most64 n) (omega arith) (λ i b. at i b (holds_by s.phases i) refl)
    where
      at : (i : ℕ) → i < at_most64 n → (t : Bool) → holds_by s.phases i ≡ t
          → either t (told i) (held_at c i) ≡ held_at c i
      at i b true q = taken_packet i b q
      at i b false q = refl

  pub held_start : length c.held ≡ 64 → ShownHeld n c.held s.phases s.can_sleep x c.held
  held_start h =
      record {
        whole = h;
        table = o.table;
        kinds = λ i b q. sym (taken_held i b);
        from = λ i b. rw (o.cells i b 7 (omega arith)) b;
        texts = λ k b. o.cells k b 8 (omega arith) ∙ ap data_len (sym (own_data k b));
        short = λ k b. rw (own_data k b) (o.short k b);
        resting = λ i b. o.rests i b;
        sees = taken_payloads h;
      }

  nodes_start : (initiator : ℕ) {states : StateSets} → length c.network.nodes ≡ 64 → FirstStates n initiator states
      → nodes_by n c.network.nodes states s.goal_reached x
      ≡ started_all n initiator c.network.slot c.network.nodes
  unfolding nodes_by started_all node_by started
  nodes_start initiator {states} h f =
      local_same no_node _ _ _ _
      (place_local no_node (node_by states s.goal_reached x))
      (place_local no_node (started initiator c.network.slot))
      c.network.nodes (at_most64 n) (omega arith) at
    where
      at : (i : ℕ) → i < at_most64 n
          → node_by states s.goal_reached x i (node_at c i) ≡ started initiator c.network.slot i (node_at c i)
      at i b =
          rw (
            first_state f i,
            lt-ltb i (at_most64 n) b,
            o.goal i b,
            o.cells i b 0 (omega arith),
            o.cells i b 1 (omega arith),
            o.cells i b 2 (omega arith),
            o.cells i b 3 (omega arith),
          )

-- the board of a round that begins
abbrev pub first_board : CeState → Noted → StateSets → ℕ → Board
first_board c s states cursor =
    record {
      states = states;
      goal_reached = s.goal_reached;
      phases = s.phases;
      can_sleep = s.can_sleep;
      metrics = c.network.metrics;
      slot = c.network.slot;
      next_row = c.network.next_row;
      bytes_sent = c.network.bytes_sent;
      draw = record { at = cursor; short = false };
      ended = false;
    }

-- board and table show the state that the round starts with
pub shown_start : (n : ℕ) (c : CeState) (initiator cursor : ℕ) {s : Noted} {states : StateSets} {x : List ℕ}
    → length c.network.nodes ≡ 64 → length c.held ≡ 64
    → Taken n (at_most64 n) c s x → FirstStates n initiator states → (conf : RoundConf) → conf.graph.n ≡ n
    → Shown n c (first_board c s states cursor) x (start_of conf initiator cursor c)
unfolding seen_by start_of
shown_start n c initiator cursor hn hh o f conf e =
    record {
      whole = hn;
      split = first_split f;
      held = held_start n c o hh;
      sees = rw (nodes_start n c o initiator hn f, taken_payloads n c o hh, e);
    }
