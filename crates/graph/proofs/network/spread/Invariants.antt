use mathlib.Core.Path.{◌≡◌}
use mathlib.Core.Bool.{◌||◌}
use Prim.Native.Nat.{ℕ}
use Rattle.marks.specs.Marks.{has}
use Rattle.graph.specs.Waves.{leads}
use Rattle.graph.proofs.network.spread.Given as goal

abbrev pub invariant-loop-i : goal.invariant-loop-i
invariant-loop-i l = (j : ℕ) → (has l.out j || leads l.adj l.i-iterator.0 j) ≡ leads l.adj l.front j
