use Rattle.std.proofs.Common.{ap, arith, length, length-append}
use Rattle.packets.proofs.Texts.{rest_none, rest_more}
use Rattle.packets.proofs.len.bytes_len.Goals as goal

pub loop-b-preserved : goal.loop-b-preserved
loop-b-preserved c =
    let more = simp length-append at (ap length (rest_more c.args.bytes.now c.loop-b.b-index c.loop-b-test.true)) in
    (omega arith, omega (arith, c.small_len.ensures), omega (arith, c.loop-b.invariant, c.small_len.ensures, more))

pub returns : goal.returns
returns c =
    let none = ap length (rest_none c.args.bytes.now c.loop-b.b-index c.loop-b-test.false) in
    (omega (arith, none), omega arith)
