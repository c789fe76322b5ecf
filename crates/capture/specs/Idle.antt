-- RULES none (see section 8.2), over several slots at once: when nobody acts in them, and what they come to. No rule
-- is said here. Assumes nothing.
use Rattle.std.specs.Prelude.{◌≡◌, ℕ, ◌+◌, ◌-◌, ◌<◌, ◌≤◌, true, false, slice_index_or}
use Rattle.merges.specs.Merging.{no_payload, can_sleep_of, network_goal_of}
use Rattle.engines.specs.Clamp.{at_most64}
use Rattle.engines.specs.Nodes.{no_node, is_listen, sets_of}
use Rattle.engines.specs.declared.node.Node.{Node}
use Rattle.engines.specs.declared.network.RoundConf.{RoundConf}
use Rattle.capture.specs.declared.capture.CeState.{CeState}
use Rattle.engines.specs.Stretch.{Small, passing}

-- A listener that no coin is due for in the k slots from this one on.
pub record Waits (slot timeout k : ℕ) (v : Node) : Type 0 where
  pub early : is_listen v.state ≡ true → slot - v.last_progress_slot + k ≤ timeout

-- In the k slots from here on nobody acts: the round goes on, no row is due, nobody floods, no coin is due, and nobody
-- can sleep.
pub record Idle (conf : RoundConf) (k : ℕ) (c : CeState) : Type 0 where
  pub small : Small c.network
  pub going : c.ended ≡ false
  pub rows : c.network.slot + k ≤ c.network.next_row
  pub goal : network_goal_of conf.graph.n c.held ≡ false
  pub silent : (sets_of conf.graph.n c.network.nodes).flooding ≡ 0
  pub waits : (i : ℕ) → i < at_most64 conf.graph.n → Waits c.network.slot conf.settings.listen_timeout k (slice_index_or c.network.nodes i no_node)
  pub awake : (i : ℕ) → i < at_most64 conf.graph.n → can_sleep_of conf.graph.n (slice_index_or c.held i no_payload) ≡ false

-- Such slots raise counts and the slot.
unfoldable pub idled : RoundConf → ℕ → CeState → CeState
idled conf k c = record { network = passing conf k c.network c.network.bytes_sent; held = c.held; draw = c.draw; ended = c.ended }
