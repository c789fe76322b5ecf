use Rattle.std.proofs.Common.{rules, ◌+◌, ◌<◌, length, sym, ◌∙◌, arith}
use Rattle.packets.proofs.Writes.{wrote_bad, wrote_short, wrote}
use Rattle.packets.specs.Packets.{pipeline_text, pipeline_within}
use Rattle.packets.proofs.two_pc_pipeline.write_pipeline_packet.Goals.{then-at-buf-via-then-at-buf, then-at-buf-via-else-at-buf+then-pipeline_len-buf}
use Rattle.packets.proofs.two_pc_pipeline.write_pipeline_packet.Goals as goal

pub returns-then-not-within : goal.returns-then-not-within
returns-then-not-within c =
    let both = wrote_bad (pipeline_text c.args.p) c.args.buf.now c.args.at (pipeline_within c.args.p) (sym c.within.ensures ∙ c.if-not-within.true) in
    record { value = both.0; buf_after = both.1 }

pub returns-then-at-buf : goal.returns-then-at-buf
returns-then-at-buf c =
    let long : length c.args.buf.now < c.args.at + length (pipeline_text c.args.p) = elim c.then-at-buf.branch [
      | then-at-buf-via-then-at-buf w ↦ omega (arith, w.if-at-buf.true)
      | then-at-buf-via-else-at-buf+then-pipeline_len-buf w ↦ omega (arith, w.if-at-buf.false, w.if-pipeline_len-buf.true, w.pipeline_len.ensures)
    ] in
    let both = wrote_short (pipeline_text c.args.p) c.args.buf.now c.args.at (pipeline_within c.args.p) (sym c.within.ensures ∙ c.if-not-within.false) long in
    record { value = both.0; buf_after = both.1 }

pub returns : goal.returns
returns c =
    let lent = sym c.put_pipeline.ensures.same in
    let both = wrote (pipeline_within c.args.p) (sym c.within.ensures ∙ c.if-not-within.false)
    (record { room = omega (arith, c.if-at-buf.false, c.if-pipeline_len-buf.false, c.pipeline_len.ensures) }) c.put_pipeline.ensures.put in
    record { value = both.0; buf_after = search (rules, both.1) }
