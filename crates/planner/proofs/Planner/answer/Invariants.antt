use mathlib.Core.Path.{◌≡◌}
use Prim.Native.Nat.{◌≤◌, ◌-◌}
use lib.ListN.{length, take, drop}
use Rattle.planner.specs.Turns.{left_of}
use Rattle.planner.proofs.Calls.{left_at}
use Rattle.planner.proofs.Planner.answer.Given as goal

abbrev pub invariant-loop-at : goal.invariant-loop-at
invariant-loop-at l = (l.from ≤ l.at) × (l.from ≤ length l.text) × (left_at l.text l.from l.at ≡ left_of (take l.n l.text) (drop l.n l.text))

abbrev pub decreases-loop-at : goal.decreases-loop-at
decreases-loop-at l = length l.text - l.at
