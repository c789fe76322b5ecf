-- RULES 11.9, the sum over a flood: a position's turn touches none of its counts. (Its tick and the start of a round
-- are engines' own.) Assumes nothing.
use Rattle.std.proofs.Common.{ℕ, Bool, leb, refl}
use Rattle.engines.specs.declared.node.Node.{Node}
use Rattle.engines.specs.declared.node.NodeState.{NodeState}
use Rattle.engines.specs.declared.node.NodeState.TheVariants.{Listen, Flood, Sleep}
use Rattle.engines.specs.Nodes.{Alike}
use Rattle.engines.proofs.Sums.{alike, either_alike}
use Rattle.flood.specs.Flood.{in_state, after_flood, after_listen, next_in, next_node}

pub state_alike : (v : Node) (s : NodeState) (k : ℕ) → Alike (in_state v s k) v
state_alike v s k = record { listen = refl; flood = refl; sleep = refl }

pub next_alike : (repeats : ℕ) (heard : Bool) (v : Node) → Alike (next_node repeats heard v) v
unfolding next_node after_flood after_listen
next_alike repeats heard v = go v.state
  where
    go : (s : NodeState) → Alike (next_in s repeats heard v) v
    go Listen = either_alike heard (in_state v Flood repeats) v v (state_alike v Flood repeats) (alike v)
    go Flood = either_alike (leb v.flood_remaining 1) _ _ v (state_alike v Sleep 0) (state_alike v Flood _)
    go Sleep = alike v
