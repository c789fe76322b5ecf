use Rattle.merges.proofs.Slips.{adopted_by}
use Rattle.merges.proofs.merging.adopt_with_local_vote.Goals as goal

pub returns : goal.returns
returns c d =
    adopted_by _ _ _ _
    (c.ensure_bitmap_len-filled.ensures d)
    (c.voice.ensures d)
    (c.settle.ensures d)
