-- RULES 8.5: a sender's payload does not change within a slot. Assumes nothing.
use Rattle.std.specs.Prelude.{◌≡◌, ℕ, ◌<◌, true, List, slice_index_or}
use Rattle.marks.specs.Marks.{has}
use Rattle.merges.specs.Merging.{no_payload}
use Rattle.engines.specs.Nodes.{sets_of}
use Rattle.engines.specs.declared.network.RoundConf.{RoundConf}
use Rattle.capture.specs.Capture.{begun, plan_for, slot_of}
use Rattle.capture.specs.declared.capture.CeState.{CeState}

-- whom position t hears in the slot that begins with state c, if it gets to act; 64 is nobody
unfoldable pub heard_in : List ℕ → RoundConf → CeState → ℕ → ℕ
heard_in ws conf c t = slice_index_or (plan_for ws conf (begun conf c)).hears t 64

-- A slot from any state, whatever the words: who floods in it hears nobody, and a position that another hears holds
-- afterwards what it held when the slot began.
pub record SendersKeep (ws : List ℕ) (conf : RoundConf) (c : CeState) : Type 0 where
  pub deaf : (s : ℕ) → has (sets_of conf.graph.n (begun conf c).network.nodes).flooding s ≡ true
      → heard_in ws conf c s ≡ 64
  pub keeps : (t s : ℕ) → heard_in ws conf c t ≡ s → s < 64
      → slice_index_or (slot_of ws conf c).held s no_payload ≡ slice_index_or c.held s no_payload
