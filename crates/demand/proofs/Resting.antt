-- A room of 1: it decides on proposing, and its rounds reach the goal in their first slot. Assumes nothing.
use Prim.Native.Nat.{ℕ, zero, suc, ◌+◌, ◌-◌, ◌*◌, ◌/◌, ◌≤◌}
use mathlib.Core.Bool.{Bool, true, false, not, ◌&&◌, ◌||◌, false≢true}
use mathlib.Core.List.{List, [], ◌∷◌, map, append-nil}
use mathlib.Core.Path.{◌≡◌, refl, sym, ap, ◌∙◌}
use lib.Dec.{ltb, leb}
use lib.Ieee.{binary64, of_bits, of_fields, le, eq, lt}
use lib.ListN.{length, get_or}
use borrow.Author.Tests.{le-ltb, le-leb, ne_eqb}
use native.Mathlib.Nat.{mod-eq_of_lt}
use native.Mathlib.Omega.{arith}
use Rattle.std.specs.Prelude.{Ok, is_some}
use Rattle.loops.specs.Runs.{go, tell, told_stop}
use Rattle.limits.specs.Limits.{last_slot, last_term}
use Rattle.graph.specs.Links.{size_test, position_test}
use Rattle.marks.specs.Marks.{marks, any_of, all_of}
use Rattle.merges.specs.Votes.{no_of}
use Rattle.loops.specs.Wrap.{add64}
use Rattle.merges.specs.Merging.{Noes, settled, only_of, no_payload, standing_by, rank_of, all_hold, any_holds, network_goal_of, outcome_of, proposal_of, adopted_of, ensure_of, filled_of, voiced_of, acknowledged_of, marked_of, settled_of, unanimous_of, decided_of}
use Rattle.merges.specs.declared.votes.Voting.{Voting}
use Rattle.packets.specs.declared.TwoPcPhase.TheVariants.{Committed}
use Rattle.packets.specs.declared.CeTwoPcPacket.{CeTwoPcPacket}
use Rattle.merges.specs.declared.merging.Held.TheVariants.{Packet}
use Rattle.merges.specs.declared.merging.Payload.{Payload}
use Rattle.merges.specs.declared.merging.ProposalOutcome.TheVariants as outcome
use Rattle.merges.proofs.Safety.{either_cases}
use Rattle.merges.proofs.Growth.{proposal_term}
use Rattle.engines.specs.Rows.{is_due, rows_refused, row_of}
use Rattle.engines.specs.Network.{ticking, due_row, slot_row, length_test, late_test}
use Rattle.engines.specs.declared.network.Network.{Network}
use Rattle.engines.specs.declared.network.RoundConf.{RoundConf}
use Rattle.engines.proofs.Sums.{inc_is}
use Rattle.capture.specs.Capture.{over, begun, goal_met, finished, slot_of, rows_of, start_of, after_round, round_test, answer_of}
use Rattle.capture.specs.declared.capture.CeState.{CeState}
use Rattle.room.specs.declared.room.RoomKind.TheVariants as kinds
use Rattle.room.specs.declared.room.RoomConf.{RoomConf}
use Rattle.room.specs.declared.room.Room.{Room}
use Rattle.room.specs.declared.capture_calls.CapturePart.{CapturePart}
use Rattle.room.specs.Capturing.{noes_of, propose_test, proposed_in, propose_part, ce_state, capture_test, network_after, part_after, captured_by, capture_part, proposer}
use Rattle.room.specs.Rooms.{size_of, held_at, with_capture, Proposal, propose_of, RoundAnswer, capture_of}
use Rattle.room.specs.Slots.{stages_from, during, capture_slots}
use Rattle.room.proofs.Calling.{round_fine}
use Rattle.demand.specs.Cases.{AloneProposes, AloneEnds}

-- ---- a loop that ends with its first step

module _ {S : Type 0} (stop : S → Bool) (step : S → S) where
  over_now : (t : S) (k : ℕ) → stop t ≡ true → go stop step k (stop t) t ≡ t
  unfolding go
  over_now t zero e = refl
  over_now t (suc k) e = rw e

  go_once : (s : S) (k : ℕ) → 1 ≤ k → stop s ≡ false → stop (step s) ≡ true → go stop step k (stop s) s ≡ step s
  unfolding go
  go_once s zero h e f = absurd (omega arith)
  go_once s (suc k) h e f = rw e (over_now (step s) k f)

  tell_once : (says : S → List ℕ) (s : S) (k : ℕ) → 1 ≤ k → stop s ≡ false → stop (step s) ≡ true → tell stop step says k (stop s) s ≡ says s
  unfolding tell
  tell_once says s zero h e f = absurd (omega arith)
  tell_once says s (suc k) h e f = rw (e, told_stop stop step says (step s) k f) (append-nil (says s))

  stages_once : (s : S) (k : ℕ) → 1 ≤ k → stop s ≡ false → stop (step s) ≡ true → stages_from stop step k (stop s) s ≡ step s ∷ []
  unfolding stages_from
  stages_once s zero h e f = absurd (omega arith)
  stages_once s (suc k) h e f = rw e (ap (λ (l : List S). step s ∷ l) (none k))
    where
      none : (k : ℕ) → stages_from stop step k (stop (step s)) (step s) ≡ []
      none zero = refl
      none (suc k) = rw f

-- ---- a room of 1

-- a goal for one position
goal_alone : (n : ℕ) (ls : List Payload) → n ≡ 1 → (get_or ls 0 no_payload).held ≡ Packet → (get_or ls 0 no_payload).packet.phase ≡ Committed → network_goal_of n ls ≡ true
unfolding network_goal_of all_hold all_of standing_by rank_of
goal_alone n ls e h f = rw (e, h, f)

module _ (ws : List ℕ) (conf : RoundConf) (s : CeState) (running : s.ended ≡ false) (goal : network_goal_of conf.graph.n s.held ≡ true) where
  abbrev end : CeState
  end = goal_met conf (begun conf s)

  slot_goal : slot_of ws conf s ≡ end
  unfolding slot_of finished begun
  slot_goal = rw goal

  ended_goal : over (slot_of ws conf s) ≡ true
  unfolding goal_met
  ended_goal = ap over slot_goal

  round_goal : 1 ≤ conf.length → after_round ws conf s ≡ end
  unfolding after_round
  round_goal h = go_once over (slot_of ws conf) s conf.length h running ended_goal ∙ slot_goal

  rows_goal : 1 ≤ conf.length → rows_of ws conf conf.length s ≡ slot_row conf s.network
  rows_goal h = tell_once over (slot_of ws conf) (λ d. slot_row conf d.network) s conf.length h running ended_goal

-- at most one row
rows_few : (conf : RoundConf) (w : Network) → length (slot_row conf w) ≤ 5
unfolding slot_row due_row row_of
rows_few conf w = either_cases (λ (l : List ℕ). length l ≤ 5) (is_due w.next_row w.slot) (λ e. omega arith) (λ e. omega arith)

-- rows that fit are not refused
fitting : (numbers used m : ℕ) → used * 5 + m ≤ numbers → rows_refused numbers used (m / 5) ≡ false
unfolding rows_refused
fitting numbers used m h = rw (le-ltb numbers (used * 5) (omega arith), le-ltb ((numbers - used * 5) / 5) (m / 5) (omega arith))

-- ---- what a round answers, once its run and rows are known

module _ (ws : List ℕ) (numbers used cursor : ℕ) (r : Room) where
  abbrev pub start : CeState
  start = start_of r.conf.round (proposer r.capture) cursor (ce_state r.network r.capture)

  pub round_is : (c : CeState) (rows : List ℕ) → capture_test r.conf (is_some r.capture.initiator) r.network.slot ≡ Ok tt
      → after_round ws r.conf.round start ≡ c
      → rows_of ws r.conf.round r.conf.round.length start ≡ rows
      → c.draw.short ≡ false → used * 5 + length rows ≤ numbers
      → capture_of ws numbers used r cursor
      ≡ record { told = Ok tt; cursor = c.draw.at; used = used + length rows / 5; room = with_capture r (network_after r.conf r.capture c) (part_after r.capture c) }
  unfolding capture_of capture_part captured_by answer_of round_test start_of late_test
  round_is c rows early run told words room =
      let long : length_test r.conf.round r.network.slot ≡ Ok tt = round_fine r.conf (is_some r.capture.initiator) r.network.slot early in
      rw (early, long, run, told, words, fitting numbers used (length rows) room)

  pub early_none : r.conf.kind ≡ kinds.Capture → (ltb 0 (size_of r) && leb (size_of r) 64) ≡ true → is_some r.capture.initiator ≡ true
      → r.network.slot + r.conf.round.length ≤ last_slot → capture_test r.conf (is_some r.capture.initiator) r.network.slot ≡ Ok tt
  unfolding capture_test size_test length_test
  early_none k s p h = rw (k, s, p, le-leb (r.network.slot + r.conf.round.length) last_slot h)

or_true : (b : Bool) → (b || true) ≡ true
or_true true = refl
or_true false = refl

-- the raise of progress changes neither slot nor bytes
after_slot : (c : RoomConf) (t : CapturePart) (s : CeState) → (network_after c t s).slot ≡ s.network.slot
unfolding network_after
after_slot c t s = either_cases (λ (w : Network). w.slot ≡ s.network.slot) (s.ended && not t.raised) (λ e. refl) (λ e. refl)

after_bytes : (c : RoomConf) (t : CapturePart) (s : CeState) → (network_after c t s).bytes_sent ≡ s.network.bytes_sent
unfolding network_after
after_bytes c t s = either_cases (λ (w : Network). w.bytes_sent ≡ s.network.bytes_sent) (s.ended && not t.raised) (λ e. refl) (λ e. refl)

pub alone_ends : AloneEnds
unfolding start_of begun ticking goal_met capture_slots
alone_ends ws numbers used cursor r a d h fits room =
    let conf = r.conf.round in
    let s = start ws numbers used cursor r in
    let goal : network_goal_of (size_of r) r.capture.held ≡ true = goal_alone (size_of r) r.capture.held a.size d.held d.phase in
    let most = rows_few conf s.network in
    let e = round_is ws numbers used cursor r (end ws conf s refl goal) (slot_row conf s.network)
    (early_none ws numbers used cursor r a.kind (rw a.size) d.proposed fits)
    (round_goal ws conf s refl goal h)
    (rows_goal ws conf s refl goal h)
    refl (omega arith) in
    record {
      accepted = ap (λ (q : RoundAnswer). q.told) e;
      drawn = ap (λ (q : RoundAnswer). q.cursor) e;
      fixed = ap (λ (q : RoundAnswer). q.room.conf) e;
      ends = ap (λ (q : RoundAnswer). q.room.network.slot) e ∙ after_slot r.conf r.capture _ ∙ inc_is r.network.slot (omega arith);
      ticks = ap (λ (l : List CeState). length (map (during r) l)) (stages_once over (slot_of ws conf) s conf.length h refl (ended_goal ws conf s refl goal));
      bytes = ap (λ (q : RoundAnswer). q.room.network.bytes_sent) e ∙ after_bytes r.conf r.capture _;
      raised = ap (λ (q : RoundAnswer). q.room.capture.raised) e ∙ or_true r.capture.raised;
      held = ap (λ (q : RoundAnswer). q.room.capture.held) e;
      decided = record {
        proposed = ap (λ (q : RoundAnswer). is_some q.room.capture.initiator) e ∙ d.proposed;
        held = ap (λ (q : RoundAnswer). (held_at q.room 0).held) e ∙ d.held;
        phase = ap (λ (q : RoundAnswer). (held_at q.room 0).packet.phase) e ∙ d.phase;
      };
    }

-- ---- proposing

-- no vote is no where p is 0
none_no : (s : Voting) (t v : ℕ) → s.abort_probability ≡ of_bits binary64 0 → no_of s t v ≡ false
unfolding no_of le lt eq of_bits of_fields
none_no s t v e = rw e

-- the packet of a proposal of the only position: its mark is the whole bitmap
proposal_alone : (nay : Noes) (t : ℕ) → nay (add64 t 1) 0 ≡ false → (proposal_of nay 1 0 t).phase ≡ Committed
unfolding proposal_of adopted_of ensure_of filled_of voiced_of acknowledged_of marked_of settled_of unanimous_of decided_of only_of marks all_of
proposal_alone nay t e =
    either_cases (λ (p : CeTwoPcPacket). (settled 1 0 (record { packet = p; news = true })).packet.phase ≡ Committed) (nay (add64 t 1) 0)
    (λ f. absurd (false≢true (sym e ∙ f)))
    (λ f. refl)

outcome_alone : (ls : List Payload) → (get_or ls 0 no_payload).held ≡ Packet → (get_or ls 0 no_payload).packet.phase ≡ Committed → outcome_of 1 ls ≡ outcome.Committed
unfolding outcome_of any_holds all_hold any_of all_of standing_by rank_of
outcome_alone ls h f = rw (h, f)

pub alone_proposes : AloneProposes
unfolding propose_of propose_part propose_test position_test size_test proposed_in
alone_proposes r a p l =
    let nay = noes_of r.conf in
    let e : propose_of r 0 ≡ record { told = Ok tt; room = with_capture r r.network (proposed_in r.conf r.capture 0) } =
    rw (a.size, a.kind, ne_eqb r.capture.term last_term (λ e. omega arith)) in
    let f : (proposal_of nay (size_of r) 0 r.capture.term).phase ≡ Committed =
    ap (λ (n : ℕ). (proposal_of nay n 0 r.capture.term).phase) a.size ∙ proposal_alone nay r.capture.term (none_no _ _ 0 p) in
    let h : (held_at (propose_of r 0).room 0).held ≡ Packet = ap (λ (q : Proposal). (held_at q.room 0).held) e in
    let g : (held_at (propose_of r 0).room 0).packet.phase ≡ Committed = ap (λ (q : Proposal). (held_at q.room 0).packet.phase) e ∙ f in
    record {
      accepted = ap (λ (q : Proposal). q.told) e;
      fixed = ap (λ (q : Proposal). q.room.conf) e;
      slot = ap (λ (q : Proposal). q.room.network.slot) e;
      term = ap (λ (q : Proposal). (held_at q.room 0).packet.term) e ∙ proposal_term nay (size_of r) 0 r.capture.term ∙ mod-eq_of_lt (omega arith);
      decided = record { proposed = ap (λ (q : Proposal). is_some q.room.capture.initiator) e; held = h; phase = g };
      outcome = outcome_alone (propose_of r 0).room.capture.held h g;
    }
