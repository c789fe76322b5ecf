use Rattle.std.proofs.Common.{arith}
use Rattle.capture.proofs.Unpacking.{taken_none, taken_turn, taken_all}
use Rattle.capture.proofs.board.take_all.Goals as goal

pub loop-i-init : goal.loop-i-init
loop-i-init c = λ h. taken_none _ _ h

pub loop-i-preserved : goal.loop-i-preserved
loop-i-preserved c =
    λ h. taken_turn _ c.args.c c.loop-i.i (omega arith) (c.loop-i.invariant h)
    c.take_position.ensures.table_after c.take_position.ensures.proposal_data_bound c.note-s.ensures.by_index c.note-s.ensures.by_index_2 c.note-s.ensures.noted_at

pub returns : goal.returns
returns c = λ h. taken_all _ _ (omega arith) (omega arith) (c.loop-i.invariant h)
