use mathlib.Core.Path.{◌≡◌}
use mathlib.Core.Bool.{◌&&◌}
use Prim.Native.Nat.{ℕ}
use lib.Dec.{ltb}
use Rattle.marks.specs.Marks.{has}
use Rattle.graph.specs.Links.{link_of}
use Rattle.graph.proofs.network.row_by.Given as goal

abbrev pub invariant-loop-j : goal.invariant-loop-j
invariant-loop-j l = (k : ℕ) → has l.m k ≡ ((ltb k l.j && ltb k 64) && link_of l.t l.n l.i k)
