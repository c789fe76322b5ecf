use Rattle.std.proofs.Common.{[], ◌∷◌, ◌+◌, sym, ap, ◌∙◌, arith}
use Rattle.packets.specs.Reading.{bitmap_of, bitmap_at}
use Rattle.texts.specs.ListLaws.{turn_none, turn_bad, turn_last, turn_stop, turn_more, list_shut, list_empty, list_open}
use Rattle.texts.specs.LiteralLaws.{lit_le}
use Rattle.texts.specs.Readers.{map, bool_at}
use Rattle.texts.specs.Stores.{store_mark}
use Rattle.packets.proofs.read.read_bitmap.Goals as goal

pub returns-then-not-byte_at : goal.returns-then-not-byte_at
unfolding bitmap_at map
returns-then-not-byte_at c = sym (ap (map bitmap_of) (list_shut bool_at store_mark 64 0 c.args.s.now c.args.at (sym c.byte_at.ensures ∙ c.if-not-byte_at.true)))

pub overflow_add-at : goal.overflow_add-at
overflow_add-at c = omega (arith, lit_le c.args.s.now c.args.at (91 ∷ []) (sym c.byte_at.ensures ∙ c.if-not-byte_at.false) (omega arith))

pub overflow_add-result : goal.overflow_add-result
overflow_add-result c = omega (arith, lit_le c.args.s.now (c.args.at + 1) (93 ∷ []) (sym c.byte_at-2.ensures ∙ c.if-byte_at.true) (omega arith))

pub returns-then-byte_at : goal.returns-then-byte_at
unfolding bitmap_at map
returns-then-byte_at c = sym (ap (map bitmap_of) (list_empty bool_at store_mark 64 0 c.args.s.now c.args.at (sym c.byte_at.ensures ∙ c.if-not-byte_at.false) (sym c.byte_at-2.ensures ∙ c.if-byte_at.true)))

pub overflow_add-i : goal.overflow_add-i
overflow_add-i c = omega (arith, lit_le c.args.s.now c.args.at (91 ∷ []) (sym c.byte_at.ensures ∙ c.if-not-byte_at.false) (omega arith))

pub loop-k-init : goal.loop-k-init
unfolding bitmap_at map
loop-k-init c = (omega arith, ap (map bitmap_of) (list_open bool_at store_mark 64 0 c.args.s.now c.args.at (sym c.byte_at.ensures ∙ c.if-not-byte_at.false) (sym c.byte_at-2.ensures ∙ c.if-byte_at.false)))

pub returns-in_err-value : goal.returns-in_err-value
unfolding bitmap_at map
returns-in_err-value c = c.from_residual.ensures ∙ sym (c.loop-k.invariant.1 ∙ ap (map bitmap_of) (turn_bad bool_at store_mark 64 c.args.s.now c.loop-k.i c.loop-k.k c.loop-k.marks c.loop-k-test.true (sym c.read_bool.ensures ∙ c.in_err-value.was)))

pub overflow_add-result-then-byte_at-2-2 : goal.overflow_add-result-then-byte_at-2-2
overflow_add-result-then-byte_at-2-2 c = omega (arith, lit_le c.args.s.now c.in_ok-value.next (93 ∷ []) (sym c.byte_at-in-loop-k.ensures ∙ c.if-byte_at-2.true) (omega arith))

pub returns-then-byte_at-2 : goal.returns-then-byte_at-2
unfolding bitmap_at map
returns-then-byte_at-2 c = sym (c.loop-k.invariant.1 ∙ ap (map bitmap_of) (turn_last bool_at store_mark 64 c.args.s.now c.loop-k.i c.loop-k.k c.loop-k.marks c.loop-k-test.true c.in_ok-value.value c.in_ok-value.next (sym c.read_bool.ensures ∙ c.in_ok-value.was) c.with_mark-marks.result c.with_mark-marks.ensures.0 (sym c.byte_at-in-loop-k.ensures ∙ c.if-byte_at-2.true)))

pub returns-then-not-byte_at-2 : goal.returns-then-not-byte_at-2
unfolding bitmap_at map
returns-then-not-byte_at-2 c = sym (c.loop-k.invariant.1 ∙ ap (map bitmap_of) (turn_stop bool_at store_mark 64 c.args.s.now c.loop-k.i c.loop-k.k c.loop-k.marks c.loop-k-test.true c.in_ok-value.value c.in_ok-value.next (sym c.read_bool.ensures ∙ c.in_ok-value.was) c.with_mark-marks.result c.with_mark-marks.ensures.0 (sym c.byte_at-in-loop-k.ensures ∙ c.if-byte_at-2.false) (sym c.byte_at-in-loop-k-2.ensures ∙ c.if-not-byte_at-2.true)))

pub overflow_add-i-in-loop-k : goal.overflow_add-i-in-loop-k
overflow_add-i-in-loop-k c = omega (arith, lit_le c.args.s.now c.in_ok-value.next (44 ∷ []) (sym c.byte_at-in-loop-k-2.ensures ∙ c.if-not-byte_at-2.false) (omega arith))

pub loop-k-preserved : goal.loop-k-preserved
loop-k-preserved c = (c.with_mark-marks.ensures.1, c.loop-k.invariant.1 ∙ ap (map bitmap_of) (turn_more bool_at store_mark 64 c.args.s.now c.loop-k.i c.loop-k.k c.loop-k.marks c.loop-k-test.true c.in_ok-value.value c.in_ok-value.next (sym c.read_bool.ensures ∙ c.in_ok-value.was) c.with_mark-marks.result c.with_mark-marks.ensures.0 (sym c.byte_at-in-loop-k.ensures ∙ c.if-byte_at-2.false) (sym c.byte_at-in-loop-k-2.ensures ∙ c.if-not-byte_at-2.false)))

pub returns : goal.returns
unfolding bitmap_at map
returns c = sym (c.loop-k.invariant.1 ∙ ap (map bitmap_of) (turn_none bool_at store_mark 64 c.args.s.now c.loop-k.i c.loop-k.k c.loop-k.marks (omega arith)))
