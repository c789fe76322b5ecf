use Rattle.std.proofs.Common.{sym}
use Rattle.packets.proofs.Lengths.{parts_is}
use Rattle.packets.proofs.two_pc_ce.ce_text_len.Goals as goal

pub returns : goal.returns
returns c = rw (c.ce_parts_len.ensures, c.data_text_len-data.ensures.0) (sym (parts_is _ (rw c.data_text_len-data.ensures.0 at c.data_text_len-data.ensures.1)))
