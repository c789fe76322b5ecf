use mathlib.Core.Path.{◌∙◌}
use native.Mathlib.Omega.{arith}
use Rattle.planner.proofs.Calls.{is_ok, left_all, came}
use Rattle.planner.proofs.Planner.answer.Goals as goal

pub unwrap-fed-requires : goal.unwrap-fed-requires
unwrap-fed-requires c = is_ok c.args.text.now c.loop-at.from c.loop-at.at c.loop-at.invariant.0 (omega arith) (omega arith) c.feed.ensures

pub overflow_add-at : goal.overflow_add-at
overflow_add-at c = omega (arith, came c.args.text.now c.loop-at.from c.loop-at.at c.loop-at.invariant.0 c.loop-at-test.true (omega arith) (omega arith) c.feed.ensures c.unwrap-fed.ensures)

pub overflow_add-from : goal.overflow_add-from
overflow_add-from c = omega (arith, came c.args.text.now c.loop-at.from c.loop-at.at c.loop-at.invariant.0 c.loop-at-test.true (omega arith) (omega arith) c.feed.ensures c.unwrap-fed.ensures)

pub loop-at-smaller : goal.loop-at-smaller
loop-at-smaller c = omega (arith, came c.args.text.now c.loop-at.from c.loop-at.at c.loop-at.invariant.0 c.loop-at-test.true (omega arith) (omega arith) c.feed.ensures c.unwrap-fed.ensures)

pub loop-at-preserved : goal.loop-at-preserved
loop-at-preserved c =
    let m = came c.args.text.now c.loop-at.from c.loop-at.at c.loop-at.invariant.0 c.loop-at-test.true (omega arith) (omega arith) c.feed.ensures c.unwrap-fed.ensures in
    (omega arith, omega arith, m.left ∙ c.loop-at.invariant.2)

pub returns : goal.returns
returns c = (omega arith, left_all c.args.text.now c.loop-at.from c.loop-at.at c.loop-at.invariant.0 c.loop-at-test.false ∙ c.loop-at.invariant.2)
