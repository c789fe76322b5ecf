-- RULES 7.5 and 8.6, for a slot of a capture round: what it adds to the bytes sent, as one sum. Assumes nothing: this
-- is a statement, which proofs/Sent.antt proves.
use Rattle.std.specs.Prelude.{◌≡◌, ℕ, zero, suc, ◌+◌, ◌%◌, ◌^◌, ◌≤◌, List, slice_index_or}
use Rattle.limits.specs.Limits.{positions, header_bytes}
use Rattle.loops.specs.Pick.{either}
use Rattle.merges.specs.Merging.{network_goal_of, no_payload}
use Rattle.engines.specs.Nodes.{floods}
use Rattle.engines.specs.declared.network.RoundConf.{RoundConf}
use Rattle.capture.specs.Ce.{payload_len}
use Rattle.capture.specs.Capture.{slot_of}
use Rattle.capture.specs.declared.capture.CeState.{CeState}

-- what the numbers below k come to together
unfoldable pub sum_of : ℕ → (ℕ → ℕ) → ℕ
sum_of zero f = 0
sum_of (suc k) f = sum_of k f + f k

-- who floods sends a header and what it held when the slot began, be that nothing
abbrev pub added_at : CeState → ℕ → ℕ
added_at c i = either (floods c.network.nodes i) (payload_len (slice_index_or c.held i no_payload) + header_bytes) 0

-- all of them do, but in the slot that meets the goal
abbrev pub SlotSends : Type 0
SlotSends =
    (ws : List ℕ) (conf : RoundConf) (c : CeState) → conf.graph.n ≤ positions
    → (slot_of ws conf c).network.bytes_sent
    ≡ either (network_goal_of conf.graph.n c.held)
    c.network.bytes_sent
    ((c.network.bytes_sent + sum_of conf.graph.n (added_at c)) % 2 ^ 64)
