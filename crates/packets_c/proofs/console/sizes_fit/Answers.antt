use Rattle.std.proofs.Common.{sym, ◌∙◌, arith, le-leb}
use Rattle.packets_c.proofs.Asked.{all_fit}
use Rattle.packets_c.proofs.console.sizes_fit.Goals as goal

pub returns-then-b-ge-BITMAP : goal.returns-then-b-ge-BITMAP
returns-then-b-ge-BITMAP c =
    rw (sym c.within.ensures ∙ c.if-not-within.false)
    (le-leb 64 _ c.if-b-ge-BITMAP.true ∙ all_fit c.args.b.len c.args.b.marks c.if-b-ge-BITMAP.true (omega arith))
