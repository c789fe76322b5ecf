-- RULES none (see sections 7.1 and 8.2), over several slots at once: a stretch of slots in which only counts change.
-- No rule is said here; what is said is when slots may be taken together, and what they come to. Assumes nothing.
use Rattle.std.specs.Prelude.{◌≡◌, ℕ, ◌-◌, ◌^◌, ◌<◌, List, length}
use Rattle.loops.specs.Wrap.{add64}
use Rattle.loops.specs.Upto.{upto}
use Rattle.loops.specs.Each.{each}
use Rattle.engines.specs.Clamp.{at_most64}
use Rattle.engines.specs.Nodes.{no_node, counted}
use Rattle.engines.specs.declared.node.Node.{Node}
use Rattle.engines.specs.declared.network.Network.{Network}
use Rattle.engines.specs.declared.network.RoundConf.{RoundConf}
use Rattle.engines.specs.declared.node.NodeState.{NodeState}
use Rattle.engines.specs.declared.node.NodeState.TheVariants.{Listen, Flood, Sleep}

-- ---- counts

-- a flooder that has k floods less to do
abbrev pub flooded : ℕ → Node → Node
flooded k v =
    record {
      state = v.state;
      flood_remaining = v.flood_remaining - k;
      last_progress_slot = v.last_progress_slot;
      goal_reached = v.goal_reached;
      progress_count = v.progress_count;
      slots_listen = v.slots_listen;
      slots_flood = add64 v.slots_flood k;
      slots_sleep = v.slots_sleep;
    }

-- What k ticks do to a position whose state stays: the count of its state is higher by k, and a flooder has k floods
-- less to do.
abbrev pub passed_in : NodeState → ℕ → Node → Node
passed_in Listen k v = counted v (add64 v.slots_listen k) v.slots_flood v.slots_sleep
passed_in Flood k v = flooded k v
passed_in Sleep k v = counted v v.slots_listen v.slots_flood (add64 v.slots_sleep k)

unfoldable pub passed : ℕ → Node → Node
passed k v = passed_in v.state k v

unfoldable pub passed_all : ℕ → ℕ → List Node → List Node
passed_all n k l = upto (at_most64 n) (each no_node (passed k)) l

-- ---- a network

-- numbers as they are held
pub record Small (w : Network) : Type 0 where
  pub nodes : length w.nodes ≡ 64
  pub sent : w.bytes_sent < 2 ^ 64
  pub timeouts : w.metrics.ce_timeouts < 2 ^ 64
  pub attempts : w.metrics.rx_attempts < 2 ^ 64
  pub success : w.metrics.rx_success < 2 ^ 64

-- k slots in which no state changes and no row is due, and that leave so many bytes sent
abbrev pub passing : RoundConf → ℕ → Network → ℕ → Network
passing conf k w bytes =
    record {
      nodes = passed_all conf.graph.n k w.nodes;
      metrics = w.metrics;
      slot = add64 w.slot k;
      next_row = w.next_row;
      bytes_sent = bytes;
    }
