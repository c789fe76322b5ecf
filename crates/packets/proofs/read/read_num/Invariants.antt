use mathlib.Core.Path.{◌≡◌}
use Prim.Native.Nat.{◌+◌, ◌≤◌}
use lib.ListN.{drop}
use Rattle.texts.specs.Readers.{digits, num_at}
use Rattle.packets.proofs.read.read_num.Given as goal

abbrev pub invariant-loop-i : goal.invariant-loop-i
invariant-loop-i l = (l.v ≤ l.most) × (num_at (l.most + 1) l.s l.at ≡ digits (l.most + 1) (drop l.i l.s) l.i l.v)
