use Rattle.std.proofs.Common.{refl, sym, rules, arith}
use Rattle.packets.proofs.Texts.{rest_none, rest_more}
use Rattle.packets.proofs.Writers.{left_as, left_room, left_byte, left_end, left_put, left_last}
use Rattle.packets.proofs.put.Writer.rest.Goals as goal

pub byte-requires : goal.byte-requires
byte-requires c = left_byte _ _ (left_as (rest_more c.args.bytes.now c.loop-b.b-index c.loop-b-test.true) c.loop-b.invariant.0)

pub small-requires : goal.small-requires
small-requires c = left_room _ _ (left_put _ (left_as (rest_more c.args.bytes.now c.loop-b.b-index c.loop-b-test.true) c.loop-b.invariant.0) c.byte.ensures)

pub loop-b-preserved : goal.loop-b-preserved
loop-b-preserved c =
    let open_item = left_as (rest_more c.args.bytes.now c.loop-b.b-index c.loop-b-test.true) c.loop-b.invariant.0 in
    (left_put _ (left_put _ open_item c.byte.ensures) c.small.ensures, omega arith)

pub byte-requires-2 : goal.byte-requires-2
byte-requires-2 c = omega (arith, (left_end (left_as (rest_none c.args.bytes.now c.loop-b.b-index c.loop-b-test.false) c.loop-b.invariant.0)).room)

pub returns : goal.returns
returns c =
    let all = left_last (left_as (rest_none c.args.bytes.now c.loop-b.b-index c.loop-b-test.false) c.loop-b.invariant.0) c.byte-2.ensures in
    let same = sym all.same in
    record { put = search (rules, all.put); same = refl }
