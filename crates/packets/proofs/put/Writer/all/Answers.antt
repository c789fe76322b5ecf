use Rattle.std.proofs.Common.{refl, sym, rules, arith}
use Rattle.packets.proofs.Texts.{src_none, src_more}
use Rattle.packets.proofs.Writers.{left_as, left_put, left_done}
use Rattle.packets.proofs.put.Writer.all.Goals as goal

pub loop-b-preserved : goal.loop-b-preserved
loop-b-preserved c = (left_put _ (left_as (src_more c.args.src.now c.loop-b.b-index c.loop-b-test.true) c.loop-b.invariant.0) c.byte.ensures, omega arith)

pub returns : goal.returns
returns c =
    let all = left_done (left_as (src_none c.args.src.now c.loop-b.b-index c.loop-b-test.false) c.loop-b.invariant.0) in
    let same = sym all.same in
    record { put = search (rules, all.put); same = refl }
