-- RULES 8.1, 8.2 and 8.8, a slot: tick, row, goal test, coins, captures, merges, next states; and the round. Assumes
-- nothing.
use Rattle.std.specs.Prelude.{ℕ, ◌+◌, ◌*◌, ◌%◌, ◌^◌, Bool, true, false, List, length, Ok, is_ok}
use Rattle.std.proofs.lemmas.List.Edits.{sets}
use Rattle.std.specs.Result.{result_and}
use Rattle.loops.specs.Pick.{either}
use Rattle.loops.specs.Runs.{runs}
use Rattle.limits.specs.Limits.{row_cells}
use Rattle.limits.specs.Refusals.{Tested}
use Rattle.merges.specs.Merging.{network_goal_of}
use Rattle.merges.specs.declared.votes.Voting.{Voting}
use Rattle.engines.specs.Nodes.{sets_of}
use Rattle.engines.specs.Network.{with_nodes, ticking, behind_slot, length_test, late_test}
use Rattle.engines.specs.Rounds.{rows_in, due_in}
use Rattle.engines.specs.declared.words.Draw.{Draw}
use Rattle.engines.specs.declared.network.Network.{Network}
use Rattle.engines.specs.declared.network.RoundConf.{RoundConf}
use Rattle.capture.specs.Plan.{plan_of}
use Rattle.capture.specs.Turns.{started_all, turned_all, counted_slot}
use Rattle.capture.specs.Ce.{sent_of, told_all}
use Rattle.capture.specs.Plan.{Plan}
use Rattle.capture.specs.Turns.{News}
use Rattle.capture.specs.Ce.{SlotMerges}
use Rattle.capture.specs.declared.capture.CeState.{CeState}

-- the votes of a round: by the positions, the abort probability and the seed that it goes by
abbrev pub voting_of : RoundConf → Voting
voting_of conf = record { n = conf.graph.n; abort_probability = conf.settings.abort_probability; seed = conf.settings.seed }

-- ---- a slot

-- first every position is ticked
unfoldable pub begun : RoundConf → CeState → CeState
begun conf c = record { network = ticking conf c.network; held = c.held; draw = c.draw; ended = c.ended }

-- On success the round ends at the next slot, and nothing is sent in this one.
unfoldable pub goal_met : RoundConf → CeState → CeState
goal_met conf c =
    let w = c.network in
    record { network = behind_slot conf w w.nodes w.metrics w.bytes_sent; held = c.held; draw = c.draw; ended = true }

-- what the plan and the merges tell each position
abbrev pub news_of : Plan → SlotMerges → News
news_of p t = record { recovering = p.recovering; new_info = t.new_info; goal_reached = t.goal_reached; can_sleep = t.can_sleep }

-- Coins and captures are planned, then all merge what was held at the slot's start, then states change. Flooders send
-- what they held at the slot's start.
abbrev pub applied : RoundConf → CeState → Plan → SlotMerges → CeState
applied conf c p t =
    let w = c.network in
    record {
      network =
          behind_slot conf w
          (turned_all conf.graph.n w.slot (news_of p t) w.nodes)
          (counted_slot p w.metrics)
          ((w.bytes_sent + sent_of (sets_of conf.graph.n w.nodes).flooding c.held) % 2 ^ 64);
      held = t.held;
      draw = p.draw;
      ended = false;
    }

abbrev pub plan_for : List ℕ → RoundConf → CeState → Plan
plan_for ws conf c =
    let w = c.network in
    plan_of ws conf.settings.loss_rate conf.graph.adj w.slot conf.settings.listen_timeout w.nodes (sets_of conf.graph.n w.nodes) c.draw

unfoldable pub acted : List ℕ → RoundConf → CeState → CeState
acted ws conf c = applied conf c (plan_for ws conf c) (told_all (voting_of conf) (plan_for ws conf c).hears c.held)

-- The goal test: all hold Committed, or all hold Aborted.
unfoldable pub finished : List ℕ → RoundConf → CeState → CeState
finished ws conf c = either (network_goal_of conf.graph.n c.held) (goal_met conf c) (acted ws conf c)

unfoldable pub slot_of : List ℕ → RoundConf → CeState → CeState
slot_of ws conf c = finished ws conf (begun conf c)

-- ---- a round

abbrev pub over : CeState → Bool
over c = c.ended

abbrev pub network_in : CeState → Network
network_in c = c.network

abbrev pub draw_in : CeState → Draw
draw_in c = c.draw

-- A round resets states: the initiator floods, the others listen; its words are drawn from the cursor on.
unfoldable pub start_of : RoundConf → ℕ → ℕ → CeState → CeState
start_of conf initiator cursor c =
    let w = c.network in
    record {
      network = with_nodes w (started_all conf.graph.n initiator w.slot w.nodes);
      held = c.held;
      draw = record { at = cursor; short = false };
      ended = false;
    }

-- the state at its end: after as many slots as it is long, or at the goal
unfoldable pub after_round : List ℕ → RoundConf → CeState → CeState
after_round ws conf s = runs over (slot_of ws conf) conf.length s

-- its rows, one behind the other
abbrev pub rows_of : List ℕ → RoundConf → ℕ → CeState → List ℕ
rows_of ws conf k c = rows_in network_in over (slot_of ws conf) conf k c

-- 15, then 16 and 17 by its run
unfoldable pub round_test : List ℕ → ℕ → ℕ → RoundConf → CeState → Tested
round_test ws numbers used conf s =
    result_and (length_test conf s.network.slot)
    (late_test numbers used (after_round ws conf s).draw.short (due_in network_in over (slot_of ws conf) conf conf.length s))

-- what a round tells, and what it leaves: the state, and how many rows are used
pub record CeAnswer : Type 0 where
  pub told : Tested
  pub state : CeState
  pub used : ℕ

-- A refused round leaves all as it was.
unfoldable pub answer_of : List ℕ → ℕ → ℕ → RoundConf → CeState → ℕ → ℕ → CeAnswer
answer_of ws numbers used conf c initiator cursor =
    let s = start_of conf initiator cursor c in
    either (is_ok (round_test ws numbers used conf s))
    (record { told = Ok tt; state = after_round ws conf s; used = used + due_in network_in over (slot_of ws conf) conf conf.length s })
    (record { told = round_test ws numbers used conf s; state = c; used = used })

unfoldable pub buffer_of : List ℕ → List ℕ → ℕ → RoundConf → CeState → ℕ → ℕ → List ℕ
buffer_of ws rows used conf c initiator cursor =
    let s = start_of conf initiator cursor c in
    either (is_ok (round_test ws (length rows) used conf s)) (sets rows (used * row_cells) (rows_of ws conf conf.length s)) rows
