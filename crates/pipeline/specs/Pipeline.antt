-- RULES 10.3, 10.4, 10.5, 10.8, 10.11 and 5.2: what a round says and what is done with it, `prepare_round` and
-- `process_round`, in their order of steps and draws. Assumes nothing.
use Rattle.std.specs.Prelude.{ℕ, ◌+◌, ◌-◌, ◌/◌, ◌%◌, min, Bool, true, false, not, ◌&&◌, ◌||◌, Option, Some, None, List, [], ◌∷◌, get_or, replicate, ◌==◌, nat_le, nat_lt, slice_index, slice_index_or, slice_set, Float}
use Rattle.std.proofs.lemmas.List.Edits.{sets}
use Rattle.loops.specs.Pick.{either}
use Rattle.loops.specs.Upto.{upto}
use Rattle.marks.specs.Marks.{has, marks}
use Rattle.packets.specs.declared.TwoPcPhase.{TwoPcPhase}
use Rattle.packets.specs.declared.TwoPcPhase.TheVariants.{Prepare, Committed, Aborted}
use Rattle.packets.specs.declared.Data.{Data}
use Rattle.packets.specs.declared.TwoPcPacket.{TwoPcPacket}
use Rattle.engines.specs.Clamp.{at_most64}
use Rattle.engines.specs.Marked.{over_marks, with_mark}
use Rattle.engines.specs.Nodes.{inc, no_node}
use Rattle.pipeline.specs.Pending.{logged_of, outcome_of, pushed, finalize_tx, unanimous_of, open_tx, merge_votes, merge_abort, nack_of, vote_of, is_judged, judged, fast_of, abort_all, own_vote}
use Rattle.engines.specs.declared.words.Draw.{Draw}
use Rattle.engines.specs.declared.node.Node.{Node}
use Rattle.pipeline.specs.declared.two_pc_pipeline.NodeTwoPcState.{NodeTwoPcState}
use Rattle.pipeline.specs.declared.two_pc_pipeline.Vote.{Vote}
use Rattle.pipeline.specs.declared.two_pc_pipeline.Outcome.{Outcome}
use Rattle.pipeline.specs.declared.two_pc_pipeline.RoundPacket.{RoundPacket}
use Rattle.pipeline.specs.declared.two_pc_pipeline.Records.{Records}
use Rattle.pipeline.specs.declared.two_pc_pipeline.Txs.{Txs}
use Rattle.pipeline.specs.declared.prepare.Begun.{Begun}
use Rattle.pipeline.specs.declared.prepare.Prepared.{Prepared}
use Rattle.pipeline.specs.declared.process.Learnt.{Learnt}
use Rattle.pipeline.specs.declared.process.Carried.{Carried}
use Rattle.pipeline.specs.declared.process.Processed.{Processed}
use Rattle.pipeline.specs.declared.process.AllProcessed.{AllProcessed}
use Rattle.pipeline.specs.declared.process.RoundFacts.{RoundFacts}

-- ---- the packet

-- The data of transaction t: its number behind the letters t and x. (A number has at most two digits.)
unfoldable pub data_of : Bool → ℕ → Data
data_of fresh t =
    either fresh
    (either (nat_lt t 10)
    (record { len = 3; bytes = sets (replicate 32 0) 0 (116 ∷ 120 ∷ (48 + t % 10) ∷ []) })
    (record { len = 4; bytes = sets (replicate 32 0) 0 (116 ∷ 120 ∷ (48 + t / 10 % 10) ∷ (48 + t % 10) ∷ []) }))
    (record { len = 0; bytes = replicate 32 0 })

abbrev pub phase_of : Bool → TwoPcPhase
phase_of true = Committed
phase_of false = Aborted

abbrev pub piggyback_tx : Option Outcome → Option ℕ
piggyback_tx None = None
piggyback_tx (Some o) = Some o.tx

abbrev pub piggyback_state : Option Outcome → Option TwoPcPhase
piggyback_state None = None
piggyback_state (Some o) = Some (phase_of o.committed)

-- The packet that a round's packet stands for: always in Prepare, with a bitmap of n entries.
unfoldable pub packet_of : ℕ → RoundPacket → TwoPcPacket
packet_of n q =
    record {
      transaction_id = q.tx;
      state = Prepare;
      flags_bitmap = record { len = n; marks = q.bits };
      abort_flag = q.abort;
      nack_tx_id = q.nack;
      transaction_data = data_of q.fresh q.tx;
      sender = q.sender;
      piggyback_tx = piggyback_tx q.piggyback;
      piggyback_state = piggyback_state q.piggyback;
    }

-- Two packets are the same if all that they say is the same.
abbrev pub same_bool : Bool → Bool → Bool
same_bool a b = either a b (not b)

abbrev pub same_piggyback : Option Outcome → Option Outcome → Bool
same_piggyback None None = true
same_piggyback None (Some p) = false
same_piggyback (Some o) None = false
same_piggyback (Some o) (Some p) = o.tx == p.tx && same_bool o.committed p.committed

unfoldable pub same_packet : RoundPacket → RoundPacket → Bool
same_packet a b =
    (a.tx == b.tx) && (a.bits == b.bits && (same_bool a.abort b.abort && (a.nack == b.nack && (same_bool a.fresh b.fresh && (a.sender == b.sender && same_piggyback a.piggyback b.piggyback)))))

-- ---- records

-- The first outcome that the room sees of a transaction is recorded, with the slot at which it does.
abbrev pub recorded_in : ℕ → Bool → ℕ → Records → Records
recorded_in t o slot b = record { log = pushed t o b.log; ends = slice_set b.ends t slot }

unfoldable pub record_tx : ℕ → Bool → ℕ → Records → Records
record_tx t o slot b = either (has (logged_of b.log) t) b (recorded_in t o slot b)

-- ---- prepare_round

-- A new transaction, as long as there are some to come: the initiator's vote takes a draw, and the transaction is
-- pending with it.
abbrev pub new_tx : ℕ → ℕ → Txs → NodeTwoPcState → Vote → Begun
new_tx r slot txs s v =
    record {
      state = open_tx txs.counter v.bits v.abort s;
      txs =
          record {
            counter = txs.counter + 1;
            starts = slice_set txs.starts txs.counter slot;
            rounds = slice_set txs.rounds txs.counter r;
          };
      fresh = true;
      tx = txs.counter;
      draw = v.draw;
    }

-- Else the last one is spoken of again, without data; number 0 where there never was any.
abbrev pub old_tx : Txs → NodeTwoPcState → Draw → Begun
old_tx txs s d = record { state = s; txs = txs; fresh = false; tx = txs.counter - 1; draw = d }

-- (T is at most 64; a room given more starts no transaction from number 64 on.)
unfoldable pub is_fresh : ℕ → Txs → Bool
is_fresh t txs = nat_lt txs.counter t && nat_lt txs.counter 64

unfoldable pub begin_tx : List ℕ → Float → ℕ → ℕ → ℕ → ℕ → Txs → NodeTwoPcState → Draw → Begun
begin_tx ws p i r slot t txs s d = either (is_fresh t txs) (new_tx r slot txs s (vote_of ws p i 0 false d)) (old_tx txs s d)

-- What the initiator judges is recorded, with the slot before the flood.
unfoldable pub record_due : ℕ → ℕ → ℕ → List ℕ → NodeTwoPcState → ℕ → Records → Records
record_due n r slot rounds s t b = either (is_judged n r (slice_index rounds t)) (record_tx t (unanimous_of n s t) slot b) b

unfoldable pub record_judged : ℕ → ℕ → ℕ → List ℕ → NodeTwoPcState → Records → Records
record_judged n r slot rounds s b = over_marks s.pending (record_due n r slot rounds s) b

-- The packet shows what is known of its transaction while that is pending, and the sender's own yes unless it has an
-- abort.
unfoldable pub abort_of : NodeTwoPcState → ℕ → Bool
abort_of s t = has s.pending t && has s.aborts t

unfoldable pub known_votes : NodeTwoPcState → ℕ → ℕ
known_votes s t = either (has s.pending t) (slice_index s.votes t) 0

unfoldable pub round_packet : ℕ → ℕ → Bool → ℕ → Option Outcome → NodeTwoPcState → RoundPacket
round_packet i t fresh nack pb s =
    record {
      tx = t;
      bits = either (abort_of s t) (known_votes s t) (with_mark (known_votes s t) i);
      abort = abort_of s t;
      nack = nack;
      fresh = fresh;
      sender = i;
      piggyback = pb;
    }

-- The gap is looked for first, then comes the new transaction, then what is due is judged, then the packet.
abbrev pub prepared_by : RoundFacts → ℕ → ℕ → Records → Option Outcome → Begun → Prepared
prepared_by facts i nack records pb b =
    record {
      state = judged facts.n facts.round b.txs.rounds b.state;
      txs = b.txs;
      records = record_judged facts.n facts.round facts.slot b.txs.rounds b.state records;
      packet = round_packet i b.tx b.fresh nack pb (judged facts.n facts.round b.txs.rounds b.state);
      draw = b.draw;
    }

unfoldable pub prepare_round : List ℕ → Float → ℕ → RoundFacts → ℕ → Txs → Records → Option Outcome → NodeTwoPcState → Draw → Prepared
prepare_round ws p i facts t txs records pb s d =
    prepared_by facts i (nack_of txs.counter s) records pb (begin_tx ws p i facts.round facts.slot t txs s d)

-- ---- process_round, one position

-- Whoever hears of a transaction for the first time votes on it, with a draw, and adds its vote to the packet's.
unfoldable pub is_new : RoundPacket → NodeTwoPcState → Bool
is_new q s = q.fresh && (not (has s.pending q.tx) && not (has (logged_of s.log) q.tx))

abbrev pub learnt : RoundPacket → NodeTwoPcState → Vote → Learnt
learnt q s v = record { state = open_tx q.tx v.bits v.abort s; draw = v.draw }

unfoldable pub hear_new : List ℕ → Float → ℕ → RoundPacket → NodeTwoPcState → Draw → Learnt
hear_new ws p i q s d = either (is_new q s) (learnt q s (vote_of ws p i q.bits q.abort d)) (record { state = s; draw = d })

-- votes, an abort, the own vote
unfoldable pub merge_round : ℕ → RoundPacket → NodeTwoPcState → NodeTwoPcState
merge_round i q s = own_vote i q.tx (merge_abort q.tx q.abort (merge_votes q.tx q.bits s))

-- Fast aborts are recorded, whoever makes them.
abbrev pub record_abort : ℕ → ℕ → Records → Records
record_abort slot t b = record_tx t false slot b

unfoldable pub record_aborts : ℕ → ℕ → Records → Records
record_aborts slot fast b = over_marks fast (record_abort slot) b

-- A piggybacked outcome is entered, if it is not logged.
unfoldable pub take_up : Option Outcome → NodeTwoPcState → NodeTwoPcState
take_up None s = s
take_up (Some o) s = finalize_tx o.tx o.committed s

-- Whoever has the outcome that was asked for piggybacks it on the next round; nack 0 asks for nothing.
unfoldable pub is_answer : ℕ → NodeTwoPcState → Bool
is_answer nack s = not (nack == 0) && has (logged_of s.log) nack

abbrev pub answered : ℕ → NodeTwoPcState → Carried → Carried
answered nack s l =
    record { draw = l.draw; records = l.records; piggyback = Some (record { tx = nack; committed = outcome_of s.log nack }); answers = inc l.answers }

unfoldable pub answer_nack : ℕ → NodeTwoPcState → Carried → Carried
answer_nack nack s l = either (is_answer nack s) (answered nack s l) l

-- All steps of one position, in their order. Its own judgements come last and are not recorded.
abbrev pub judged_last : RoundFacts → List ℕ → RoundPacket → Draw → Records → Carried → NodeTwoPcState → Processed
judged_last facts rounds q d b l s =
    record {
      state = judged facts.n facts.round rounds s;
      carried = answer_nack q.nack s (record { draw = d; records = b; piggyback = l.piggyback; answers = l.answers });
    }

abbrev pub fast_next : RoundFacts → List ℕ → RoundPacket → Draw → Carried → NodeTwoPcState → Processed
fast_next facts rounds q d l s =
    judged_last facts rounds q d (record_aborts facts.slot (fast_of s) l.records) l (take_up q.piggyback (abort_all (fast_of s) s))

abbrev pub heard_next : RoundFacts → List ℕ → ℕ → RoundPacket → Carried → Learnt → Processed
heard_next facts rounds i q l h = fast_next facts rounds q h.draw l (merge_round i q h.state)

unfoldable pub process_one : List ℕ → Float → RoundFacts → List ℕ → RoundPacket → ℕ → NodeTwoPcState → Carried → Processed
process_one ws p facts rounds q i s l = heard_next facts rounds i q l (hear_new ws p i q s l.draw)

-- ---- process_round, all positions

-- what stands for a position that is none
abbrev pub no_state : NodeTwoPcState
no_state = record { log = record { len = 0; entries = [] }; pending = 0; aborts = 0; votes = [] }

-- The initiator takes part, and whoever sleeps at the end of the flood.
unfoldable pub parts_of : ℕ → ℕ → ℕ → ℕ
parts_of n initiator sleeping = marks 64 (λ i. nat_lt i n && (has sleeping i || i == initiator))

abbrev pub put_back : ℕ → List NodeTwoPcState → Processed → AllProcessed
put_back i ss x = record { states = slice_set ss i x.state; carried = x.carried }

unfoldable pub process_at : List ℕ → Float → RoundFacts → List ℕ → RoundPacket → ℕ → AllProcessed → AllProcessed
process_at ws p facts rounds q i g = put_back i g.states (process_one ws p facts rounds q i (slice_index_or g.states i no_state) g.carried)

unfoldable pub process_all : List ℕ → Float → RoundFacts → List ℕ → RoundPacket → ℕ → AllProcessed → AllProcessed
process_all ws p facts rounds q parts g = over_marks parts (process_at ws p facts rounds q) g

-- Progress: how many transactions everybody has finished, that is the length of the shortest log.
unfoldable pub shorter_at : List NodeTwoPcState → ℕ → ℕ → ℕ
shorter_at ss i m = min m (get_or ss i no_state).log.len

-- (a log has at most 64 entries)
unfoldable pub shortest_log : ℕ → List NodeTwoPcState → ℕ
shortest_log n ss = upto (at_most64 n) (shorter_at ss) 64

-- Everybody's progress, and whether its own log is complete.
abbrev pub progressed : ℕ → Bool → Node → Node
progressed done goal v =
    record {
      state = v.state;
      flood_remaining = v.flood_remaining;
      last_progress_slot = v.last_progress_slot;
      goal_reached = goal;
      progress_count = done;
      slots_listen = v.slots_listen;
      slots_flood = v.slots_flood;
      slots_sleep = v.slots_sleep;
    }

unfoldable pub progress_at : ℕ → ℕ → List NodeTwoPcState → ℕ → List Node → List Node
progress_at t done ss i l = slice_set l i (progressed done (nat_le t (get_or ss i no_state).log.len) (slice_index_or l i no_node))

unfoldable pub progress_all : ℕ → ℕ → ℕ → List NodeTwoPcState → List Node → List Node
progress_all n t done ss l = upto (at_most64 n) (progress_at t done ss) l

-- The room stops once everybody has finished all transactions, and all were generated; or when it has idled for more
-- than a thousand rounds. (Everybody has finished all just if the shortest log has all.)
unfoldable pub stops_at : ℕ → ℕ → ℕ → ℕ → Bool
stops_at t done counter r = (nat_le t done && nat_le t counter) || nat_lt (t + 1000) r
