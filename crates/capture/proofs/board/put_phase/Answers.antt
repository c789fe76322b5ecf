use Rattle.std.proofs.Common.{true, false, sym, refl}
use Rattle.capture.proofs.Unpacking.{put_three}
use Rattle.capture.proofs.board.put_phase.Goals as goal

pub returns-in-Prepare : goal.returns-in-Prepare
returns-in-Prepare c =
    put_three true false false refl (sym c.in-Prepare.is)
    c.put.ensures c.put-in-Prepare.ensures c.put-in-Prepare-2.ensures refl

pub returns-in-Committed : goal.returns-in-Committed
returns-in-Committed c =
    put_three false true false refl (sym c.in-Committed.is)
    c.put-in-Committed.ensures c.put-in-Committed-2.ensures c.put-in-Committed-3.ensures refl

pub returns-in-Aborted : goal.returns-in-Aborted
returns-in-Aborted c =
    put_three false false true refl (sym c.in-Aborted.is)
    c.put-in-Aborted.ensures c.put-in-Aborted-2.ensures c.put-in-Aborted-3.ensures refl
