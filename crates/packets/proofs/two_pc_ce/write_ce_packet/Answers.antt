use Rattle.std.proofs.Common.{rules, ◌+◌, ◌<◌, length, sym, ◌∙◌, arith}
use Rattle.packets.proofs.Writes.{measured, wrote_bad, wrote_short, wrote}
use Rattle.packets.specs.Packets.{ce_text, ce_within}
use Rattle.packets.proofs.two_pc_ce.write_ce_packet.Goals.{then-at-buf-via-then-at-buf, then-at-buf-via-else-at-buf+then-ce_text_len-buf}
use Rattle.packets.proofs.two_pc_ce.write_ce_packet.Goals as goal

pub returns-then-not-within : goal.returns-then-not-within
returns-then-not-within c =
    let both = wrote_bad (ce_text c.args.p) c.args.buf.now c.args.at (ce_within c.args.p) (sym c.within.ensures ∙ c.if-not-within.true) in
    record { value = both.0; buf_after = both.1 }

pub returns-then-at-buf : goal.returns-then-at-buf
returns-then-at-buf c =
    let long : length c.args.buf.now < c.args.at + length (ce_text c.args.p) = elim c.then-at-buf.branch [
      | then-at-buf-via-then-at-buf w ↦ omega (arith, w.if-at-buf.true)
      | then-at-buf-via-else-at-buf+then-ce_text_len-buf w ↦ omega (arith, w.if-at-buf.false, w.if-ce_text_len-buf.true, measured (ce_within c.args.p) (ce_text c.args.p) _ (sym c.within.ensures ∙ c.if-not-within.false) w.ce_text_len.ensures)
    ] in
    let both = wrote_short (ce_text c.args.p) c.args.buf.now c.args.at (ce_within c.args.p) (sym c.within.ensures ∙ c.if-not-within.false) long in
    record { value = both.0; buf_after = both.1 }

pub returns : goal.returns
returns c =
    let lent = sym c.put_ce.ensures.same in
    let both = wrote (ce_within c.args.p) (sym c.within.ensures ∙ c.if-not-within.false)
    (record { room = omega (arith, c.if-at-buf.false, c.if-ce_text_len-buf.false, measured (ce_within c.args.p) (ce_text c.args.p) _ (sym c.within.ensures ∙ c.if-not-within.false) c.ce_text_len.ensures) }) c.put_ce.ensures.put in
    record { value = both.0; buf_after = search (rules, both.1) }
