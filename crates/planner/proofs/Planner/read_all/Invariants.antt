use Prim.Native.Nat.{◌≤◌}
use mathlib.Core.Path.{◌≡◌}
use lib.ListN.{length}
use Rattle.frame.specs.Bounds.{kept_bytes}
use Rattle.planner.proofs.Planner.read_all.Given as goal

abbrev pub invariant-loop : goal.invariant-loop
invariant-loop l = (length l.buf ≡ length l.initial.buf) × (l.n ≤ kept_bytes)
