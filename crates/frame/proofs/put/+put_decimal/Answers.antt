use Rattle.std.proofs.Common.{sym, arith}
use Rattle.texts.specs.Put.{put_as, put_more, put_byte}
use Rattle.texts.specs.Decimal.{decimal_small, decimal_step, length_small, length_step}
use Rattle.frame.proofs.put.+put_decimal.Goals as goal

pub bounds-buf-0 : goal.bounds-buf-0
bounds-buf-0 t c = omega (arith, length_small c.args.n c.if-n-lt10.true)

pub returns-then-n-lt10 : goal.returns-then-n-lt10
returns-then-n-lt10 t c =
    put_as (sym (decimal_small c.args.n c.if-n-lt10.true)) (put_byte c.args.buf.now 0 _ (omega (arith, length_small c.args.n c.if-n-lt10.true)))

pub put_decimal-at-requires : goal.put_decimal-at-requires
put_decimal-at-requires t c = omega (arith, length_step c.args.n c.if-n-lt10.false)

pub bounds-buf-at : goal.bounds-buf-at
bounds-buf-at t c = omega (arith, length_step c.args.n c.if-n-lt10.false, c.put_decimal-at.ensures.next, c.put_decimal-at.auto.buf)

pub returns : goal.returns
returns t c =
    let room = length_step c.args.n c.if-n-lt10.false in
    put_as (sym (decimal_step c.args.n c.if-n-lt10.false))
    (put_more (omega arith) c.put_decimal-at.ensures (put_byte _ _ _ (omega (arith, c.put_decimal-at.ensures.next, c.put_decimal-at.auto.buf))))

pub overflow_add-result : goal.overflow_add-result
overflow_add-result t c = omega (arith, length_step c.args.n c.if-n-lt10.false, c.put_decimal-at.ensures.next, c.put_decimal-at.auto.buf)
