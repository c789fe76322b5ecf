-- RULES 9, the flood: one packet, sent on by whoever hears it. A link from
-- i to j says that j hears i: row i of the links has mark j. Assumes nothing.
use Rattle.std.specs.Prelude.{ℕ, ◌+◌, ◌-◌, ◌*◌, ◌/◌, max, Bool, false, not, cond, ◌&&◌, Option, None, Some, List, length, ◌==◌, from_bits, nat_le, nat_lt, slice_index, slice_index_or, slice_set, Float}
use Rattle.std.specs.Float.{binary64}
use Rattle.std.specs.Float.Ieee.{eq}
use Rattle.loops.specs.Pick.{either}
use Rattle.loops.specs.Upto.{upto}
use Rattle.loops.specs.Runs.{runs}
use Rattle.marks.specs.Marks.{has, marks, count_of}
use Rattle.loops.specs.Wrap.{add64, mul64}
use Rattle.limits.specs.Limits.{row_cells}
use Rattle.engines.specs.Clamp.{at_most64}
use Rattle.engines.specs.Marked.{over_marks, with_mark}
use Rattle.engines.specs.Words.{next_of, lost_of}
use Rattle.engines.specs.Nodes.{inc, no_node, reset_round, ticked_all, sets_of}
use Rattle.engines.specs.Metrics.{with_frames}
use Rattle.engines.specs.Network.{on_air, behind_slot}
use Rattle.engines.specs.Rounds.{rows_in}
use Rattle.engines.specs.declared.words.Draw.{Draw}
use Rattle.engines.specs.declared.words.Drawn.{Drawn}
use Rattle.engines.specs.declared.network.RoundConf.{RoundConf}
use Rattle.engines.specs.declared.node.Node.{Node}
use Rattle.engines.specs.declared.node.NodeState.{NodeState}
use Rattle.engines.specs.declared.node.NodeState.TheVariants.{Listen, Flood, Sleep}
use Rattle.engines.specs.declared.node.StateSets.{StateSets}
use Rattle.engines.specs.declared.network.Survey.{Survey}
use Rattle.flood.specs.declared.flood.FloodPlan.{FloodPlan}
use Rattle.flood.specs.declared.flood.FloodRun.{FloodRun}

-- ---- how long it may last

-- The slots that were given, or else the diameter and two more for each repeat, but three at least. (No diameter
-- reaches 64.)
unfoldable pub flood_length : Bool → ℕ → ℕ → ℕ → ℕ
flood_length given slots diameter repeats = either given slots (max 3 ((at_most64 diameter + 2) * repeats))

-- ---- who receives in a slot

-- A frame for neighbour j is an attempt; if it is not lost it is a success, and j has received.
unfoldable pub framed : ℕ → Bool → Draw → FloodPlan → FloodPlan
framed j gone d p =
    record {
      received = either gone p.received (with_mark p.received j);
      draw = d;
      attempts = inc p.attempts;
      success = either gone p.success (inc p.success);
    }

-- Only a loss of 0 draws nothing.
abbrev pub framed_by : Float → ℕ → FloodPlan → Drawn → FloodPlan
framed_by loss j p x = framed j (lost_of x.word loss) x.draw p

unfoldable pub hear_at : List ℕ → Float → ℕ → FloodPlan → FloodPlan
hear_at ws loss j p = either (eq loss (from_bits binary64 0)) (framed j false p.draw p) (framed_by loss j p (next_of ws p.draw))

-- Whom a flooder reaches: its neighbours that listen. It makes no odds whether they have received already.
unfoldable pub hearers_of : ℕ → ℕ → ℕ
hearers_of row listening = marks 64 (λ j. has row j && has listening j)

unfoldable pub send_at : List ℕ → Float → List ℕ → ℕ → ℕ → FloodPlan → FloodPlan
send_at ws loss links listening i p = over_marks (hearers_of (slice_index links i) listening) (hear_at ws loss) p

abbrev pub no_plan : Draw → FloodPlan
no_plan d = record { received = 0; draw = d; attempts = 0; success = 0 }

-- The flooders in rising order, and for each of them its hearers in rising order.
unfoldable pub flood_plan : List ℕ → Float → List ℕ → StateSets → Draw → FloodPlan
flood_plan ws loss links s d = over_marks s.flooding (send_at ws loss links s.listening) (no_plan d)

-- ---- the next state

abbrev pub in_state : Node → NodeState → ℕ → Node
in_state v s k =
    record {
      state = s;
      flood_remaining = k;
      last_progress_slot = v.last_progress_slot;
      goal_reached = v.goal_reached;
      progress_count = v.progress_count;
      slots_listen = v.slots_listen;
      slots_flood = v.slots_flood;
      slots_sleep = v.slots_sleep;
    }

-- A flooder has one flood less to do, and sleeps once none is left. (One that had none left, which only repeats 0
-- would lead to, sleeps as well.) A listener that has received floods from now on; everybody else stays.
unfoldable pub after_flood : Node → Node
after_flood v = either (nat_le v.flood_remaining 1) (in_state v Sleep 0) (in_state v Flood (v.flood_remaining - 1))

unfoldable pub after_listen : ℕ → Bool → Node → Node
after_listen repeats heard v = either heard (in_state v Flood repeats) v

abbrev pub next_in : NodeState → ℕ → Bool → Node → Node
next_in Flood repeats heard v = after_flood v
next_in Listen repeats heard v = after_listen repeats heard v
next_in Sleep repeats heard v = v

unfoldable pub next_node : ℕ → Bool → Node → Node
next_node repeats heard v = next_in v.state repeats heard v

unfoldable pub turn_at : ℕ → ℕ → ℕ → List Node → List Node
turn_at repeats received i l = slice_set l i (next_node repeats (has received i) (slice_index_or l i no_node))

unfoldable pub turned_all : ℕ → ℕ → ℕ → List Node → List Node
turned_all n repeats received l = upto (at_most64 n) (turn_at repeats received) l

-- ---- a slot

unfoldable pub nobody_floods : ℕ → List Node → Bool
nobody_floods n l = (sets_of n l).flooding == 0

-- every flooder sends a header and the whole packet
abbrev pub sent_by : ℕ → ℕ → ℕ
sent_by flooding bytes = mul64 (count_of flooding 64) (on_air bytes)

unfoldable pub sent_after : ℕ → ℕ → ℕ → ℕ
sent_after sent flooding bytes = add64 sent (sent_by flooding bytes)

-- Everybody ticks; a row may be due; the flooders send; the states turn; and the round is over once nobody will flood.
abbrev pub after_plan : RoundConf → ℕ → FloodRun → StateSets → FloodPlan → List Node → FloodRun
after_plan conf bytes f s p l =
    record {
      network =
          behind_slot conf f.network l (with_frames p.attempts p.success f.network.metrics)
          (sent_after f.network.bytes_sent s.flooding bytes);
      draw = p.draw;
      over = nobody_floods conf.graph.n l;
    }

abbrev pub after_sets : RoundConf → ℕ → FloodRun → List Node → StateSets → FloodPlan → FloodRun
after_sets conf bytes f ticked s p =
    after_plan conf bytes f s p (turned_all conf.graph.n conf.settings.flood_repeats p.received ticked)

abbrev pub after_tick : List ℕ → RoundConf → ℕ → FloodRun → List Node → StateSets → FloodRun
after_tick ws conf bytes f ticked s =
    after_sets conf bytes f ticked s (flood_plan ws conf.settings.loss_rate conf.graph.adj s f.draw)

-- A slot, where the text of the packet has so many bytes.
unfoldable pub flood_slot : List ℕ → RoundConf → ℕ → FloodRun → FloodRun
flood_slot ws conf bytes f =
    let ticked = ticked_all conf.graph.n f.network.nodes in
    after_tick ws conf bytes f ticked (sets_of conf.graph.n ticked)

abbrev pub is_over : FloodRun → Bool
is_over f = f.over

-- ---- a round

-- Everybody listens but the initiator, who floods as often as there are repeats.
unfoldable pub reset_at : ℕ → List Node → List Node
reset_at i l = slice_set l i (reset_round (slice_index_or l i no_node))

unfoldable pub reset_all : ℕ → List Node → List Node
reset_all n l = upto (at_most64 n) reset_at l

abbrev pub started_by : ℕ → ℕ → List Node → List Node
started_by initiator repeats l = slice_set l initiator (in_state (slice_index_or l initiator no_node) Flood repeats)

unfoldable pub flood_start : ℕ → ℕ → ℕ → List Node → List Node
flood_start n initiator repeats l = either (nat_lt initiator 64) (started_by initiator repeats (reset_all n l)) (reset_all n l)

-- The slots of a round: as many as it may last, or until it is over.
unfoldable pub flood_round : List ℕ → RoundConf → ℕ → FloodRun → FloodRun
flood_round ws conf bytes f = runs is_over (flood_slot ws conf bytes) conf.length f

-- its rows, one behind the other
unfoldable pub flood_rows : List ℕ → RoundConf → ℕ → FloodRun → List ℕ
flood_rows ws conf bytes f = rows_in (λ g. g.network) is_over (flood_slot ws conf bytes) conf conf.length f

-- What a flood tells, unless words ran short: how many rows are due and how it ended.
unfoldable pub flooded_of : List ℕ → RoundConf → ℕ → FloodRun → Option (Survey FloodRun)
flooded_of ws conf bytes f =
    cond (not (flood_round ws conf bytes f).draw.short)
    (Some (record { run = flood_round ws conf bytes f; due = length (flood_rows ws conf bytes f) / row_cells }))
    None
