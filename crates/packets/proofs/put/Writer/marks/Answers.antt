use Rattle.std.proofs.Common.{◌-◌, refl, sym, rules, arith}
use Rattle.packets.proofs.Texts.{marks_none, marks_next}
use Rattle.packets.proofs.Writers.{left_as, left_room, left_byte, left_end, left_put, left_last}
use Rattle.packets.proofs.put.Writer.marks.Goals as goal

pub byte-requires : goal.byte-requires
byte-requires c = left_byte _ _ (left_as (marks_next c.loop-done.rest c.args.n c.loop-done.done (omega arith)) c.loop-done.invariant)

pub put-requires : goal.put-requires
put-requires c =
    (tt, left_room _ _ (left_put _ (left_as (marks_next c.loop-done.rest c.args.n c.loop-done.done (omega arith)) c.loop-done.invariant) c.byte.ensures))

pub loop-done-preserved : goal.loop-done-preserved
loop-done-preserved c =
    let open_item = left_as (marks_next c.loop-done.rest c.args.n c.loop-done.done (omega arith)) c.loop-done.invariant in
    left_put _ (left_put _ open_item c.byte.ensures) c.put.ensures

pub byte-requires-2 : goal.byte-requires-2
byte-requires-2 c = omega (arith, (left_end (left_as (marks_none c.loop-done.rest (c.args.n - c.loop-done.done) (omega arith)) c.loop-done.invariant)).room)

pub returns : goal.returns
returns c =
    let all = left_last (left_as (marks_none c.loop-done.rest (c.args.n - c.loop-done.done) (omega arith)) c.loop-done.invariant) c.byte-2.ensures in
    let same = sym all.same in
    record { put = search (rules, all.put); same = refl }
