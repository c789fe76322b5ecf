use Rattle.std.proofs.Common.{◌≤◌, length, drop}
use Rattle.packets.proofs.Writers.{Left}
use Rattle.packets.proofs.put.Writer.all.Given as goal

abbrev pub invariant-loop-b : goal.invariant-loop-b
invariant-loop-b l = Left l.initial.w l.src l.w (drop l.b-index l.src) × (l.b-index ≤ length l.src)
