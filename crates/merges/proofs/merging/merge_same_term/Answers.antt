use Rattle.merges.proofs.Slips.{same_term_by}
use Rattle.merges.proofs.merging.merge_same_term.Goals as goal

pub returns : goal.returns
returns c d =
    same_term_by _ _ _ _ _
    (c.ensure_bitmap_len-ours.ensures d)
    (c.ensure_bitmap_len-theirs.ensures d)
    (c.raise-x.ensures d)
    (c.own-y.ensures d)
    (c.settle.ensures d)
