use mathlib.Core.Path.{◌≡◌}
use Prim.Native.Nat.{◌≤◌}
use Rattle.graph.specs.Waves.{wave_of}
use Rattle.graph.proofs.network.NetworkGraph.wave_from.Given as goal

abbrev pub invariant-loop-k : goal.invariant-loop-k
invariant-loop-k l = (l.k ≤ l.steps) × (l.w ≡ wave_of l.self l.start l.k)
