use mathlib.Core.Path.{◌≡◌}
use Prim.Native.Nat.{◌≤◌}
use Rattle.loops.specs.Upto.{upto}
use Rattle.room_c.specs.Console.{turn}
use Rattle.room_c.proofs.console.play_calls.Given as goal

abbrev pub invariant-loop-i : goal.invariant-loop-i
invariant-loop-i l =
    (l.i ≤ l.count) ×
    (record { rows = l.rows; told = l.told; floats = l.floats; text = l.text; room = l.r }
    ≡ upto l.i (turn l.words l.calls) (record { rows = l.initial.rows; told = l.initial.told; floats = l.initial.floats; text = l.initial.text; room = l.initial.r }))
