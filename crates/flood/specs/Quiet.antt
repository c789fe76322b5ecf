-- RULES none (see section 9.3), the flood over several slots at once: a stretch of slots in
-- which nothing but counts changes. No rule is said here; what is said is when slots may be taken together, and
-- what they come to. Assumes nothing.
use Rattle.std.specs.Prelude.{◌≡◌, ℕ, ◌+◌, ◌<◌, ◌≤◌, true, false, List, slice_index, slice_index_or}
use Rattle.loops.specs.Wrap.{mul64, add64}
use Rattle.engines.specs.Clamp.{at_most64}
use Rattle.engines.specs.Nodes.{no_node, is_flood, sets_of}
use Rattle.engines.specs.Stretch.{Small, passing}
use Rattle.engines.specs.declared.node.Node.{Node}
use Rattle.engines.specs.declared.network.RoundConf.{RoundConf}
use Rattle.flood.specs.Flood.{hearers_of, nobody_floods, sent_by}
use Rattle.flood.specs.declared.flood.FloodRun.{FloodRun}

-- ---- when

-- If it floods it still does so after k slots, and nobody hears it.
abbrev pub Alone : ℕ → ℕ → ℕ → Node → Type 0
Alone row listening k v = is_flood v.state ≡ true → (k < v.flood_remaining) × (hearers_of row listening ≡ 0)

-- In the k slots from here on the round goes on, no row is due, the same positions flood, and nobody hears them.
-- Numbers are as they are held.
pub record Quiet (conf : RoundConf) (k : ℕ) (f : FloodRun) : Type 0 where
  pub small : Small f.network
  pub going : f.over ≡ false
  pub rows : f.network.slot + k ≤ f.network.next_row
  pub some : nobody_floods conf.graph.n f.network.nodes ≡ false
  pub alone : (i : ℕ) → i < at_most64 conf.graph.n
      → Alone (slice_index conf.graph.adj i) (sets_of conf.graph.n f.network.nodes).listening k
      (slice_index_or f.network.nodes i no_node)

-- ---- what they come to

-- Such slots raise counts, the slot, and the bytes sent.
unfoldable pub quietened : RoundConf → ℕ → ℕ → FloodRun → FloodRun
quietened conf bytes k f =
    record {
      network =
          passing conf k f.network
          (add64 f.network.bytes_sent
          (mul64 k (sent_by (sets_of conf.graph.n f.network.nodes).flooding bytes)));
      draw = f.draw;
      over = f.over;
    }

-- ---- how many

-- One position's answer: r of the slots asked for, in which it is alone. None is always an answer.
pub record QuietFor (row listening most : ℕ) (v : Node) (r : ℕ) : Type 0 where
  pub within : r ≤ most
  pub alone : 0 < r → Alone row listening r v

-- the same of the first n positions
pub record QuietOf (links : List ℕ) (n listening most : ℕ) (l : List Node) (r : ℕ) : Type 0 where
  pub within : r ≤ most
  pub alone : 0 < r → (i : ℕ) → i < at_most64 n → Alone (slice_index links i) listening r (slice_index_or l i no_node)

-- and of a round with `left` slots to go
pub record QuietSlots (conf : RoundConf) (left : ℕ) (f : FloodRun) (r : ℕ) : Type 0 where
  pub within : r ≤ left
  pub quiet : 0 < r → Quiet conf r f
