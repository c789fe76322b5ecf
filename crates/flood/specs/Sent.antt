-- RULES 7.5, for a flood round: each flood tick sends once, a header and the packet. Assumes nothing: this is a
-- statement, which proofs/Sent.antt proves.
use Rattle.std.specs.Prelude.{◌≡◌, ℕ, ◌+◌, List}
use Rattle.limits.specs.Limits.{header_bytes}
use Rattle.loops.specs.Wrap.{add64, mul64}
use Rattle.engines.specs.Nodes.{flood_ticks}
use Rattle.engines.specs.declared.network.Network.{Network}
use Rattle.engines.specs.declared.network.RoundConf.{RoundConf}
use Rattle.flood.specs.Flood.{flood_round}
use Rattle.flood.specs.declared.flood.FloodRun.{FloodRun}

-- From network a to network b as many times `each` was sent as the positions have more flood ticks: what was sent in b,
-- and `each` for the flood ticks of a, is what was sent in a, and `each` for the flood ticks of b.
abbrev pub SentFor : ℕ → Network → Network → Type 0
SentFor each a b =
    add64 b.bytes_sent (mul64 (flood_ticks a.nodes) each)
    ≡ add64 a.bytes_sent (mul64 (flood_ticks b.nodes) each)

abbrev pub FloodSends : Type 0
FloodSends =
    (ws : List ℕ) (conf : RoundConf) (bytes : ℕ) (f : FloodRun)
    → SentFor (bytes + header_bytes) f.network (flood_round ws conf bytes f).network
