use Rattle.std.proofs.Common.{[], ◌∷◌, ◌+◌, refl, sym, ap, ◌∙◌, arith, slice_set, replicate, length-set}
use Rattle.packets.specs.Packets.{most_bytes}
use Rattle.packets.specs.Reading.{data_of, data_at}
use Rattle.texts.specs.ListLaws.{turn_none, turn_bad, turn_last, turn_stop, turn_more, list_shut, list_empty, list_open}
use Rattle.texts.specs.LiteralLaws.{lit_le}
use Rattle.texts.specs.NumberLaws.{num_reads}
use Rattle.texts.specs.Readers.{map, num_at}
use Rattle.texts.specs.Stores.{store_byte}
use Rattle.packets.proofs.read.read_data.Goals as goal

pub returns-then-not-byte_at : goal.returns-then-not-byte_at
unfolding data_at map
returns-then-not-byte_at c = sym (ap (map data_of) (list_shut (num_at 256) store_byte most_bytes (replicate 32 0) c.args.s.now c.args.at (sym c.byte_at.ensures ∙ c.if-not-byte_at.true)))

pub overflow_add-at : goal.overflow_add-at
overflow_add-at c = omega (arith, lit_le c.args.s.now c.args.at (91 ∷ []) (sym c.byte_at.ensures ∙ c.if-not-byte_at.false) (omega arith))

pub overflow_add-result : goal.overflow_add-result
overflow_add-result c = omega (arith, lit_le c.args.s.now (c.args.at + 1) (93 ∷ []) (sym c.byte_at-2.ensures ∙ c.if-byte_at.true) (omega arith))

pub returns-then-byte_at : goal.returns-then-byte_at
unfolding data_at map
returns-then-byte_at c = sym (ap (map data_of) (list_empty (num_at 256) store_byte most_bytes (replicate 32 0) c.args.s.now c.args.at (sym c.byte_at.ensures ∙ c.if-not-byte_at.false) (sym c.byte_at-2.ensures ∙ c.if-byte_at.true)))

pub overflow_add-i : goal.overflow_add-i
overflow_add-i c = omega (arith, lit_le c.args.s.now c.args.at (91 ∷ []) (sym c.byte_at.ensures ∙ c.if-not-byte_at.false) (omega arith))

pub loop-k-init : goal.loop-k-init
unfolding data_at map
loop-k-init c = (refl, ap (map data_of) (list_open (num_at 256) store_byte most_bytes (replicate 32 0) c.args.s.now c.args.at (sym c.byte_at.ensures ∙ c.if-not-byte_at.false) (sym c.byte_at-2.ensures ∙ c.if-byte_at.false)))

pub returns-in_err-value : goal.returns-in_err-value
unfolding data_at map
returns-in_err-value c = c.from_residual.ensures ∙ sym (c.loop-k.invariant.1 ∙ ap (map data_of) (turn_bad (num_at 256) store_byte most_bytes c.args.s.now c.loop-k.i c.loop-k.k c.loop-k.bytes c.loop-k-test.true (sym c.read_num.ensures ∙ c.in_err-value.was)))

pub overflow_cast-bytes : goal.overflow_cast-bytes
overflow_cast-bytes c = omega (arith, ((num_reads 256 (omega arith)).sound c.args.s.now c.loop-k.i c.in_ok-value.value c.in_ok-value.next (sym c.read_num.ensures ∙ c.in_ok-value.was)).1)

pub overflow_add-result-then-byte_at-2-2 : goal.overflow_add-result-then-byte_at-2-2
overflow_add-result-then-byte_at-2-2 c = omega (arith, lit_le c.args.s.now c.in_ok-value.next (93 ∷ []) (sym c.byte_at-in-loop-k.ensures ∙ c.if-byte_at-2.true) (omega arith))

pub returns-then-byte_at-2 : goal.returns-then-byte_at-2
unfolding data_at map
returns-then-byte_at-2 c = sym (c.loop-k.invariant.1 ∙ ap (map data_of) (turn_last (num_at 256) store_byte most_bytes c.args.s.now c.loop-k.i c.loop-k.k c.loop-k.bytes c.loop-k-test.true c.in_ok-value.value c.in_ok-value.next (sym c.read_num.ensures ∙ c.in_ok-value.was) (slice_set c.loop-k.bytes c.loop-k.k c.in_ok-value.value) refl (sym c.byte_at-in-loop-k.ensures ∙ c.if-byte_at-2.true)))

pub returns-then-not-byte_at-2 : goal.returns-then-not-byte_at-2
unfolding data_at map
returns-then-not-byte_at-2 c = sym (c.loop-k.invariant.1 ∙ ap (map data_of) (turn_stop (num_at 256) store_byte most_bytes c.args.s.now c.loop-k.i c.loop-k.k c.loop-k.bytes c.loop-k-test.true c.in_ok-value.value c.in_ok-value.next (sym c.read_num.ensures ∙ c.in_ok-value.was) (slice_set c.loop-k.bytes c.loop-k.k c.in_ok-value.value) refl (sym c.byte_at-in-loop-k.ensures ∙ c.if-byte_at-2.false) (sym c.byte_at-in-loop-k-2.ensures ∙ c.if-not-byte_at-2.true)))

pub overflow_add-i-in-loop-k : goal.overflow_add-i-in-loop-k
overflow_add-i-in-loop-k c = omega (arith, lit_le c.args.s.now c.in_ok-value.next (44 ∷ []) (sym c.byte_at-in-loop-k-2.ensures ∙ c.if-not-byte_at-2.false) (omega arith))

pub loop-k-preserved : goal.loop-k-preserved
loop-k-preserved c = (simp length-set c.loop-k.invariant.0, c.loop-k.invariant.1 ∙ ap (map data_of) (turn_more (num_at 256) store_byte most_bytes c.args.s.now c.loop-k.i c.loop-k.k c.loop-k.bytes c.loop-k-test.true c.in_ok-value.value c.in_ok-value.next (sym c.read_num.ensures ∙ c.in_ok-value.was) (slice_set c.loop-k.bytes c.loop-k.k c.in_ok-value.value) refl (sym c.byte_at-in-loop-k.ensures ∙ c.if-byte_at-2.false) (sym c.byte_at-in-loop-k-2.ensures ∙ c.if-not-byte_at-2.false)))

pub returns : goal.returns
unfolding data_at map
returns c = sym (c.loop-k.invariant.1 ∙ ap (map data_of) (turn_none (num_at 256) store_byte most_bytes c.args.s.now c.loop-k.i c.loop-k.k c.loop-k.bytes (omega arith)))
