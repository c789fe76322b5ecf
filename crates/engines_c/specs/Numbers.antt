-- RULES 17, entries on slices and numbers: what a lent list of numbers says of
-- nodes, counts and a network. Assumes nothing.
use Rattle.std.specs.Prelude.{Bool, true, false, List, [], ◌∷◌, ℕ, ◌+◌, ◌*◌, ◌%◌, ◌^◌, eqb, get_or, set}
use mir.Val.{bool_byte}
use Rattle.std.proofs.lemmas.List.Edits.{sets}
use Rattle.limits.specs.Limits.{positions}
use Rattle.loops.specs.Pick.{either}
use Rattle.loops.specs.Table.{tabulate}
use Rattle.loops.specs.Upto.{upto}
use Rattle.engines.specs.Nodes.{no_node}
pub use Rattle.engines.specs.Nodes.{state_number, state_numbered}
use Rattle.engines.specs.declared.node.Node.{Node}
use Rattle.engines.specs.declared.metrics.MetricsCollector.{MetricsCollector}
use Rattle.engines.specs.declared.network.Network.{Network}

-- the number k places behind at, and 0 past the end
abbrev pub cell : List ℕ → ℕ → ℕ → ℕ
cell xs at k = get_or xs (at + k) 0

-- the 64 numbers from a place on
unfoldable pub words_at : List ℕ → ℕ → List ℕ
words_at xs at = tabulate positions (λ i. cell xs at i)

-- 0 is no, every other number yes
abbrev pub truth : ℕ → Bool
truth n = either (eqb n 0) false true

-- A node is 8 numbers in the order of its fields.
unfoldable pub node_at : List ℕ → ℕ → ℕ → Node
node_at xs at k =
    record {
      state = state_numbered (cell xs at k);
      flood_remaining = cell xs at (k + 1) % 2 ^ 32;
      last_progress_slot = cell xs at (k + 2);
      goal_reached = truth (cell xs at (k + 3));
      progress_count = cell xs at (k + 4);
      slots_listen = cell xs at (k + 5);
      slots_flood = cell xs at (k + 6);
      slots_sleep = cell xs at (k + 7);
    }

abbrev pub node_numbers : Node → List ℕ
node_numbers v =
    state_number v.state ∷ v.flood_remaining ∷ v.last_progress_slot ∷ bool_byte v.goal_reached ∷
    v.progress_count ∷ v.slots_listen ∷ v.slots_flood ∷ v.slots_sleep ∷ []

-- a node for each position, one behind the other
unfoldable pub nodes_at : List ℕ → ℕ → List Node
nodes_at xs at = tabulate positions (λ i. node_at xs at (i * 8))

abbrev pub put_node : ℕ → List Node → ℕ → List ℕ → List ℕ
put_node at nodes i xs = sets xs (at + i * 8) (node_numbers (get_or nodes i no_node))

unfoldable pub put_nodes : ℕ → List Node → List ℕ → List ℕ
put_nodes at nodes xs = upto positions (put_node at nodes) xs

-- The counts of a room are 8 numbers in the order of their fields.
unfoldable pub metrics_at : List ℕ → ℕ → MetricsCollector
metrics_at xs at =
    record {
      nacks_sent = cell xs at 0;
      piggybacks_sent = cell xs at 1;
      ce_timeouts = cell xs at 2;
      rx_attempts = cell xs at 3;
      rx_success = cell xs at 4;
      flood_rounds = cell xs at 5;
      flood_nodes_total = cell xs at 6;
      flood_nodes_covered = cell xs at 7;
    }

abbrev pub metrics_numbers : MetricsCollector → List ℕ
metrics_numbers m =
    m.nacks_sent ∷ m.piggybacks_sent ∷ m.ce_timeouts ∷ m.rx_attempts ∷ m.rx_success ∷
    m.flood_rounds ∷ m.flood_nodes_total ∷ m.flood_nodes_covered ∷ []

-- A network is its slot and next row slot, then its bytes sent, its counts and its nodes, each at a place of its own.
unfoldable pub network_at : List ℕ → ℕ → ℕ → ℕ → Network
network_at xs sent counts at =
    record {
      nodes = nodes_at xs at;
      metrics = metrics_at xs counts;
      slot = get_or xs 0 0;
      next_row = get_or xs 1 0;
      bytes_sent = get_or xs sent 0;
    }

-- slot, next row slot and bytes sent
abbrev pub put_clock : ℕ → Network → List ℕ → List ℕ
put_clock sent w xs = set (set (set xs 0 w.slot) 1 w.next_row) sent w.bytes_sent

unfoldable pub put_network : ℕ → ℕ → ℕ → Network → List ℕ → List ℕ
put_network sent counts at w xs =
    put_nodes at w.nodes (sets (put_clock sent w xs) counts (metrics_numbers w.metrics))
