-- Demand 3, one call at a time: opening, propose and a capture round. Assumes nothing.
use Rattle.std.specs.Option.{is_some}
use Rattle.std.proofs.Common.{◌≡◌, ℕ, zero, suc, ◌+◌, ◌^◌, ◌<◌, ◌≤◌, Bool, true, false, not, ◌&&◌, eqb, Ok, List, [], replicate, refl, sym, true≢false, subst, mod-eq_of_lt, arith}
use Rattle.std.specs.Result.{is_ok}
use borrow.Author.Tests.{eqb-false}
use Rattle.loops.specs.Pick.{either}
use Rattle.limits.specs.Limits.{last_slot, last_term}
use Rattle.limits.specs.Refusals.{Tested, holds_or}
use Rattle.limits.specs.declared.refusals.Refusal.TheVariants.{NoProposal, NoTerm}
use Rattle.limits.proofs.Tests.{held, first_held, second_held, ok_told}
use Rattle.graph.specs.Links.{size_test, position_test, graph_test}
use Rattle.graph.proofs.Rules.{graph_parts}
use Rattle.loops.specs.Wrap.{add64}
use Rattle.merges.specs.Merging.{Noes, proposal_of, network_goal_of}
use Rattle.merges.specs.declared.merging.Held.TheVariants.{Empty, Packet}
use Rattle.merges.specs.declared.merging.Payload.{Payload}
use Rattle.merges.proofs.Safety.{either_cases, proposes_sound}
use Rattle.merges.proofs.Growth.{proposal_term}
use Rattle.merges.proofs.Limits.{proposes_valid}
use Rattle.engines.specs.Clamp.{at_most64}
use Rattle.engines.specs.Nodes.{ticked_all}
use Rattle.engines.specs.Network.{new_network, with_nodes, ticking, length_test}
use Rattle.engines.specs.declared.network.Network.{Network}
use Rattle.engines.proofs.Rounds.{length_fits}
use Rattle.engines.proofs.Sums.{Counts, all_counts, ticked_counts, next_counts, inc_is, new_counts}
use Rattle.capture.specs.Turns.{started, started_all, turned, turn_of, turned_all}
use Rattle.capture.specs.Ce.{told_all}
use Rattle.capture.specs.Capture.{voting_of, over, begun, goal_met, news_of, plan_for, acted, finished, slot_of, start_of, after_round, round_test, CeAnswer, answer_of}
use Rattle.capture.specs.declared.capture.CeState.{CeState}
use Rattle.room.specs.declared.room.RoomConf.{RoomConf}
use Rattle.room.specs.declared.room.Room.{Room}
use Rattle.room.specs.declared.room.Asked.{Asked}
use Rattle.room.specs.Kinds.{capture_only, positions_of}
use Rattle.room.specs.Capturing.{noes_of, empty_payload, propose_test, proposed_in, Proposed, propose_part, capture_test, ce_state, raised, raised_all, network_after, part_after, Captured, captured_by, capture_part, proposer}
use Rattle.room.specs.Rooms.{size_of, held_at, open_test, new_room, conf_of, opened_by, with_capture, propose_of, capture_of}
use Rattle.room.specs.Slots.{during, capture_slots}
use Rattle.room.proofs.Answers.{place_inside}
use Rattle.room.proofs.Holding.{Good, Fit, AllGood, not_packet, grown_same, set_each, told_good, told_follows}
use Rattle.room.proofs.Moments.{Inv, same_logs, Way, way_none, Quiet, quiet_way, first_quiet, last_quiet, Slot, round_way}

-- ---- nothing held

pub empties_good : (nay : Noes) (n t k : ℕ) → AllGood nay n t (replicate k empty_payload)
empties_good nay n t zero v = record { sound = tt; fit = tt; valid = λ e. absurd (not_packet {h = Empty} refl e) }
empties_good nay n t (suc k) zero = record { sound = tt; fit = tt; valid = λ e. absurd (not_packet {h = Empty} refl e) }
empties_good nay n t (suc k) (suc v) = empties_good nay n t k v

pub term_at : {nay : Noes} {n t : ℕ} (l : Payload) → Good nay n t l → l.held ≡ Packet → l.packet.term ≡ t
term_at {t = t} l g h = subst (Fit t l.packet) h g.fit

-- a refused call changes nothing, and ticks no slot
pub refused_way : (t : Tested) (ms : List Room) (r : Room) → Inv r → is_ok t ≡ false → Way r (either (is_ok t) ms []) r
refused_way t ms r i e = rw e (way_none r i)

-- ---- opening

-- an accepted room has 1 to 64 positions
pub opened_size : (a : Asked) → open_test a ≡ Ok tt → (0 < a.graph.n) × (a.graph.n ≤ 64)
unfolding open_test
opened_size a e = graph_parts a.graph (first_held (graph_test a.graph) _ tt e)

-- as opened: the invariant, at slot 0
pub record Opened (r : Room) : Type 0 where
  pub inv : Inv r
  pub slot : r.network.slot ≡ 0

new_opened : (c : RoomConf) (term : ℕ) → positions_of c ≤ 64 → term < 2 ^ 64 → Opened (new_room c term)
unfolding new_room new_network
new_opened c term h l =
    record {
      inv = record { size = h; counts = new_counts (positions_of c) h; term = l; held = empties_good (noes_of c) (positions_of c) term 64 };
      slot = refl;
    }

pub opened : (a : Asked) → a.term < 2 ^ 64 → open_test a ≡ Ok tt → Opened (opened_by a)
opened a l e = new_opened (conf_of a) a.term (opened_size a e).1 l

-- ---- propose

-- what an accepted proposal knows
propose_fine : (c : RoomConf) (term v : ℕ) → propose_test c term v ≡ Ok tt → (v < positions_of c) × (not (eqb term last_term) ≡ true)
unfolding propose_test
propose_fine c term v e =
    let kind = second_held (position_test (positions_of c) v) _ tt e in (
      place_inside (positions_of c) v (first_held (position_test (positions_of c) v) _ tt e),
      held (not (eqb term last_term)) NoTerm (second_held (capture_only c.kind) _ tt kind),
    )

proposed_quiet : (r : Room) (v : ℕ) → Inv r → v < size_of r → r.capture.term + 1 < 2 ^ 64 → Quiet r (with_capture r r.network (proposed_in r.conf r.capture v))
unfolding proposed_in
proposed_quiet r v i h l =
    let up : add64 r.capture.term 1 ≡ r.capture.term + 1 = mod-eq_of_lt l in
    let nay = noes_of r.conf in
    let p : Payload = record { held = Packet; packet = proposal_of nay (size_of r) v r.capture.term } in
    record {
      inv = record {
        size = i.size;
        counts = i.counts;
        term = omega (arith, up);
        held = set_each (λ u m. Good nay (size_of r) (add64 r.capture.term 1) m) (replicate 64 empty_payload) v p
            (empties_good nay (size_of r) (add64 r.capture.term 1) 64)
            (record { sound = proposes_sound nay (size_of r) v r.capture.term h; fit = proposal_term nay (size_of r) v r.capture.term; valid = λ e. proposes_valid nay (size_of r) v r.capture.term i.size });
      };
      le = record {
        fixed = refl;
        logs = same_logs r;
        term = omega (arith, up);
        held = λ u q t. absurd (omega (arith, up, term_at (held_at r u) (i.held u) q));
      };
      slot = refl;
    }

pub propose_way : (r : Room) (v : ℕ) → Inv r → Way r [] (propose_of r v).room
unfolding propose_of propose_part
propose_way r v i =
    either_cases (λ (x : Proposed). Way r [] (with_capture r r.network x.part)) (is_ok (propose_test r.conf r.capture.term v))
    (λ e.
    let f = propose_fine r.conf r.capture.term v (ok_told (propose_test r.conf r.capture.term v) e) in
    quiet_way (proposed_quiet r v i f.0 (below r.capture.term i.term (eqb r.capture.term last_term) refl f.1)))
    (λ e. way_none r i)
  where
    below : (t : ℕ) → t < 2 ^ 64 → (b : Bool) → eqb t last_term ≡ b → not b ≡ true → t + 1 < 2 ^ 64
    below t h true e g = absurd (true≢false (sym g))
    below t h false e g = let n : t ≡ last_term → ⊥ = eqb-false t last_term e in omega (arith, h, n)

-- ---- a capture round

goal_slot : (r : Room) (c : CeState) → Inv (during r c) → c.network.slot < last_slot → Slot (during r c) (during r (goal_met r.conf.round (begun r.conf.round c)))
unfolding goal_met begun ticking
goal_slot r c i h =
    record {
      inv = record { size = i.size; counts = next_counts (omega arith) (ticked_counts c.network.nodes i.size (omega arith) i.counts); term = i.term; held = i.held };
      le = record { fixed = refl; logs = same_logs r; term = omega arith; held = λ v q t. grown_same (held_at (during r c) v) q };
      slot = inc_is c.network.slot (omega arith);
    }

acted_slot : (ws : List ℕ) (r : Room) (c : CeState) → Inv (during r c) → c.network.slot < last_slot
    → Slot (during r c) (during r (acted ws r.conf.round (begun r.conf.round c)))
unfolding acted begun ticking turned_all turn_of turned
acted_slot ws r c i h =
    let conf = r.conf.round in
    let w = c.network in
    let b = begun conf c in
    let p = plan_for ws conf b in
    let t = told_all (voting_of conf) p.hears c.held in
    record {
      inv = record {
        size = i.size;
        counts = next_counts (omega arith)
            (all_counts (turn_of w.slot (news_of p t)) (λ j v. record { listen = refl; flood = refl; sleep = refl }) (at_most64 (size_of r)) (ticked_all (size_of r) w.nodes)
            (ticked_counts w.nodes i.size (omega arith) i.counts));
        term = i.term;
        held = told_good (voting_of conf) r.capture.term p.hears c.held i.size i.held;
      };
      le = record {
        fixed = refl;
        logs = same_logs r;
        term = omega arith;
        held = λ v q l. told_follows (voting_of conf) r.capture.term p.hears c.held i.size i.held v q;
      };
      slot = inc_is w.slot (omega arith);
    }

capture_slot : (ws : List ℕ) (r : Room) (c : CeState) → Inv (during r c) → c.network.slot < last_slot
    → Slot (during r c) (during r (slot_of ws r.conf.round c))
unfolding slot_of finished
capture_slot ws r c i h =
    let b = begun r.conf.round c in
    either_cases (λ (d : CeState). Slot (during r c) (during r d)) (network_goal_of (size_of r) b.held)
    (λ e. goal_slot r c i h)
    (λ e. acted_slot ws r c i h)

abbrev start_in : Room → ℕ → CeState
start_in r cursor = start_of r.conf.round (proposer r.capture) cursor (ce_state r.network r.capture)

start_quiet : (r : Room) (cursor : ℕ) → Inv r → Quiet r (during r (start_in r cursor))
unfolding start_of started_all started
start_quiet r cursor i =
    record {
      inv = record {
        size = i.size;
        counts = all_counts (started (proposer r.capture) r.network.slot) (λ j v. record { listen = refl; flood = refl; sleep = refl }) (at_most64 (size_of r)) r.network.nodes i.counts;
        term = i.term;
        held = i.held;
      };
      le = record { fixed = refl; logs = same_logs r; term = omega arith; held = λ v h t. grown_same (held_at r v) h };
      slot = refl;
    }

-- the room at the round's end
abbrev after_capture : Room → CeState → Room
after_capture r c = with_capture r (network_after r.conf r.capture c) (part_after r.capture c)

end_quiet : (r : Room) (c : CeState) → Inv (during r c) → Quiet (during r c) (after_capture r c)
unfolding network_after raised_all raised
end_quiet r c i =
    either_cases (λ (w : Network). Quiet (during r c) (with_capture r w (part_after r.capture c))) (c.ended && not r.capture.raised)
    (λ e. settled (with_nodes c.network (raised_all (size_of r) c.network.nodes))
    (all_counts (λ j v. raised v) (λ j v. record { listen = refl; flood = refl; sleep = refl }) (at_most64 (size_of r)) c.network.nodes i.counts) refl)
    (λ e. settled c.network i.counts refl)
  where
    settled : (w : Network) → Counts (size_of r) w.slot w.nodes → w.slot ≡ c.network.slot → Quiet (during r c) (with_capture r w (part_after r.capture c))
    settled w n e =
        record {
          inv = record { size = i.size; counts = n; term = i.term; held = i.held };
          le = record { fixed = refl; logs = same_logs r; term = omega arith; held = λ v h t. grown_same (held_at (during r c) v) h };
          slot = e;
        }

captured_way : (ws : List ℕ) (r : Room) (cursor : ℕ) → Inv r → r.network.slot + r.conf.round.length ≤ last_slot
    → Way r (capture_slots ws cursor r) (after_capture r (after_round ws r.conf.round (start_in r cursor)))
unfolding capture_slots after_round start_of
captured_way ws r cursor i h =
    let q = start_quiet r cursor i in
    let w = round_way over (slot_of ws r.conf.round) (during r) (λ c. capture_slot ws r c) r.conf.round.length (start_in r cursor) q.inv h in
    last_quiet (first_quiet q w) (end_quiet r _ w.inv)

-- what an accepted round knows
pub round_fine : (c : RoomConf) (proposed : Bool) (slot : ℕ) → capture_test c proposed slot ≡ Ok tt → length_test c.round slot ≡ Ok tt
unfolding capture_test
round_fine c proposed slot e =
    let kind = second_held (size_test (positions_of c)) _ tt e in
    second_held (holds_or proposed NoProposal) _ tt (second_held (capture_only c.kind) _ tt kind)

pub capture_way : (ws : List ℕ) (numbers used cursor : ℕ) (r : Room) → Inv r
    → Way r (either (is_ok (capture_of ws numbers used r cursor).told) (capture_slots ws cursor r) []) (capture_of ws numbers used r cursor).room
unfolding capture_of capture_part captured_by answer_of
capture_way ws numbers used cursor r i =
    either_cases Fine (is_ok early)
    (λ e. either_cases (λ (a : CeAnswer). Fine (captured_by r.conf r.network r.capture cursor used a)) (is_ok k)
    (λ f. captured_way ws r cursor i (length_fits r.conf.round r.network.slot (round_fine r.conf (is_some r.capture.initiator) r.network.slot (ok_told early e))))
    (λ f. rw f (refused_way k (capture_slots ws cursor r) r i f)))
    (λ e. refused_way early (capture_slots ws cursor r) r i e)
  where
    Fine : Captured → Type 0
    Fine x = Way r (either (is_ok x.told) (capture_slots ws cursor r) []) (with_capture r x.network x.part)

    early : Tested
    early = capture_test r.conf (is_some r.capture.initiator) r.network.slot

    k : Tested
    k = round_test ws numbers used r.conf.round (start_in r cursor)
