use Rattle.std.proofs.Common.{refl}
use Rattle.capture.proofs.Unpacking.{first_states}
use Rattle.capture.proofs.board.first_states.Goals as goal

pub returns : goal.returns
returns c =
    first_states c.first_marks-all.result c.with_mark-first.result
    c.first_marks-all.ensures c.with_mark-first.ensures
    c.difference.ensures c.intersection.ensures refl
