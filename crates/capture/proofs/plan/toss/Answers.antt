use Rattle.std.proofs.Common.{sym, ◌∙◌, arith}
use Rattle.engines.proofs.Marking.{with_is}
use Rattle.capture.specs.Plan.{tossed1}
use Rattle.capture.proofs.plan.toss.Goals as goal

pub returns-then-not-timed_out : goal.returns-then-not-timed_out
unfolding tossed1
returns-then-not-timed_out c = rw (sym c.timed_out.ensures ∙ c.if-not-timed_out.true)

pub returns-then-not-coin : goal.returns-then-not-coin
unfolding tossed1
returns-then-not-coin c = rw (sym c.timed_out.ensures ∙ c.if-not-timed_out.false, ← c.next-x.ensures, sym c.coin.ensures ∙ c.if-not-coin.true)

pub returns : goal.returns
unfolding tossed1
returns c =
    rw (
      sym c.timed_out.ensures ∙ c.if-not-timed_out.false,
      ← c.next-x.ensures,
      sym c.coin.ensures ∙ c.if-not-coin.false,
      with_is _ _ _ (omega arith) (omega arith) c.with_mark.ensures,
    )
