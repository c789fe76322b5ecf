use mathlib.Core.Path.{◌≡◌}
use Prim.Native.Nat.{◌≤◌, max}
use Rattle.loops.specs.Upto.{upto}
use Rattle.graph.specs.Paths.{farthest}
use Rattle.graph.proofs.network.NetworkGraph.diameter.Given as goal

abbrev pub invariant-loop-i : goal.invariant-loop-i
invariant-loop-i l = (l.i ≤ l.self.n) × (l.d ≡ upto l.i (λ j e. max e (farthest l.self j l.self.n)) 0)
