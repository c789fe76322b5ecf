use mathlib.Core.Path.{◌≡◌, sym, ◌∙◌}
use native.Mathlib.Omega.{arith}
use Rattle.marks.specs.Marks.{count_of}
use Rattle.marks.specs.Sets.{count_le}
use Rattle.packets.proofs.Texts.{bitmap_len_none, bitmap_len_more, marks_len}
use Rattle.packets.proofs.Words.{count_first}
use Rattle.packets.proofs.len.bitmap_len.Goals as goal

pub returns-then-b-eq0 : goal.returns-then-b-eq0
returns-then-b-eq0 c = (sym (bitmap_len_none c.args.b c.if-b-eq0.true), omega arith)

pub overflow_sub-result : goal.overflow_sub-result
overflow_sub-result c =
    let counted : c.count_marks.result ≡ count_of c.args.b.marks c.args.b.len = c.count_marks.ensures ∙ count_first _ _ _ _ c.requires c.first_marks.ensures c.intersection-there.ensures in
    omega (arith, counted, count_le c.args.b.marks c.args.b.len)

pub returns : goal.returns
returns c =
    let counted : c.count_marks.result ≡ count_of c.args.b.marks c.args.b.len = c.count_marks.ensures ∙ count_first _ _ _ _ c.requires c.first_marks.ensures c.intersection-there.ensures in (
      omega (arith, counted, bitmap_len_more c.args.b c.if-b-eq0.false, marks_len c.args.b.marks c.args.b.len),
      omega (arith, counted, c.requires),
    )
