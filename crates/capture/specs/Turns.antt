-- RULES 8.1, 8.7 and 7.6: the states at a round's start, and each position's next state. Assumes nothing.
use Rattle.std.specs.Prelude.{ℕ, ◌+◌, ◌%◌, ◌^◌, Bool, ◌||◌, List, ◌==◌, slice_index_or, slice_set}
use Rattle.loops.specs.Pick.{either}
use Rattle.loops.specs.Upto.{upto}
use Rattle.marks.specs.Marks.{has}
use Rattle.engines.specs.Clamp.{at_most64}
use Rattle.engines.specs.Nodes.{no_node, is_flood, is_sleep}
use Rattle.engines.specs.declared.node.Node.{Node}
use Rattle.engines.specs.declared.node.NodeState.{NodeState}
use Rattle.engines.specs.declared.node.NodeState.TheVariants.{Listen, Flood, Sleep}
use Rattle.capture.specs.Plan.{Plan}
use Rattle.engines.specs.declared.metrics.MetricsCollector.{MetricsCollector}

-- A round starts with the initiator flooding and all others listening; the last progress of each is the round's start.
unfoldable pub started : ℕ → ℕ → ℕ → Node → Node
started initiator slot i v =
    record {
      state = either (i == initiator) Flood Listen;
      flood_remaining = 0;
      last_progress_slot = slot;
      goal_reached = v.goal_reached;
      progress_count = v.progress_count;
      slots_listen = v.slots_listen;
      slots_flood = v.slots_flood;
      slots_sleep = v.slots_sleep;
    }

abbrev pub start_at : ℕ → ℕ → ℕ → List Node → List Node
start_at initiator slot i l = slice_set l i (started initiator slot i (slice_index_or l i no_node))

unfoldable pub started_all : ℕ → ℕ → ℕ → List Node → List Node
started_all n initiator slot l = upto (at_most64 n) (start_at initiator slot) l

-- The next state. Of those that can sleep, who flooded sleeps, and who listened or slept floods. Of the others, who
-- progressed floods, who slept sleeps on, and the rest listen.
unfoldable pub next_state : NodeState → Bool → Bool → NodeState
next_state s progressed canSleep = either canSleep (either (is_flood s) Sleep Flood) (either progressed Flood (either (is_sleep s) Sleep Listen))

-- A position that progressed has its last progress in this slot. New information tells whether its goal is reached.
unfoldable pub turned : ℕ → Bool → Bool → Bool → Bool → Node → Node
turned slot progressed newInfo goal canSleep v =
    record {
      state = next_state v.state progressed canSleep;
      flood_remaining = v.flood_remaining;
      last_progress_slot = either progressed slot v.last_progress_slot;
      goal_reached = either newInfo goal v.goal_reached;
      progress_count = v.progress_count;
      slots_listen = v.slots_listen;
      slots_flood = v.slots_flood;
      slots_sleep = v.slots_sleep;
    }

-- What a slot brought, a mark for each position: its coin said yes; its merge was new to it; it then had reached its
-- goal; what it holds at the slot's end lets it sleep.
pub record News : Type 0 where
  pub recovering : ℕ
  pub new_info : ℕ
  pub goal_reached : ℕ
  pub can_sleep : ℕ

-- Recovery and new information are progress.
unfoldable pub turn_of : ℕ → News → ℕ → Node → Node
turn_of slot w i v =
    turned slot (has w.recovering i || has w.new_info i) (has w.new_info i) (has w.goal_reached i) (has w.can_sleep i) v

abbrev pub turn_at : ℕ → News → ℕ → List Node → List Node
turn_at slot w i l = slice_set l i (turn_of slot w i (slice_index_or l i no_node))

unfoldable pub turned_all : ℕ → ℕ → News → List Node → List Node
turned_all n slot w l = upto (at_most64 n) (turn_at slot w) l

-- what a slot's plan counted, added to what was counted before
unfoldable pub counted_slot : Plan → MetricsCollector → MetricsCollector
counted_slot p m =
    record {
      nacks_sent = m.nacks_sent;
      piggybacks_sent = m.piggybacks_sent;
      ce_timeouts = (m.ce_timeouts + p.ce_timeouts) % 2 ^ 64;
      rx_attempts = (m.rx_attempts + p.rx_attempts) % 2 ^ 64;
      rx_success = (m.rx_success + p.rx_success) % 2 ^ 64;
      flood_rounds = m.flood_rounds;
      flood_nodes_total = m.flood_nodes_total;
      flood_nodes_covered = m.flood_nodes_covered;
    }
