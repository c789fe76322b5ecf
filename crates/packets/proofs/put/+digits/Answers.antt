use Rattle.std.proofs.Common.{sym, rules, arith}
use Rattle.texts.specs.Decimal.{decimal_step, length_step}
use Rattle.texts.specs.Put.{put_as, put_more, room_as, room_first}
use Rattle.packets.proofs.put.+digits.Goals as goal

pub digits-at-requires : goal.digits-at-requires
digits-at-requires t c = (omega arith, room_first _ _ (room_as (decimal_step c.args.n (omega arith)) c.requires))

pub byte-requires : goal.byte-requires
byte-requires t c = omega (arith, length_step c.args.n (omega arith), c.digits-at.ensures.next, c.requires.room)

pub returns : goal.returns
returns t c =
    let all = put_as (sym (decimal_step c.args.n (omega arith))) (put_more (omega (arith, c.requires.room)) c.digits-at.ensures c.byte.ensures.put) in
    search (rules, all)
