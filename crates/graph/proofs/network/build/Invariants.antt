use mathlib.Core.Path.{◌≡◌}
use Prim.Native.Nat.{◌≤◌}
use Rattle.loops.specs.Table.{filled}
use Rattle.marks.specs.Marks.{marks}
use Rattle.graph.specs.Links.{link_of}
use Rattle.graph.proofs.network.build.Given as goal

abbrev pub invariant-loop-i : goal.invariant-loop-i
invariant-loop-i l = (l.i ≤ l.n) × (l.adj ≡ filled 0 64 l.i (λ j. marks l.n (link_of l.t l.n j)))
