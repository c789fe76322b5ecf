use Rattle.std.proofs.Common.{◌≡◌, length}
use Rattle.capture.specs.Boards.{Taken}
use Rattle.capture.proofs.board.take_all.Given as goal

abbrev pub invariant-loop-i : goal.invariant-loop-i
invariant-loop-i l = length l.fn.table ≡ 576 → Taken l.n l.i l.c l.s l.table
