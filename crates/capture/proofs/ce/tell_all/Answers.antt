use Rattle.std.proofs.Common.{refl, ◌∙◌}
use Rattle.capture.proofs.Holding.{held_length}
use Rattle.capture.proofs.Telling.{left_first, left_turn, left_held, left_news, within_turn}
use Rattle.capture.proofs.ce.tell_all.Goals as goal

pub loop-i-init : goal.loop-i-init
loop-i-init c = rw (c.into_iter-i-iterator.ensures.into_iter_gives, c.iter-i-items.ensures) (((λ j e. e), (λ q h. refl), λ base held o a. left_first _ _ _ base held _ refl o))

pub bounds-hears-i : goal.bounds-hears-i
bounds-hears-i c = c.in-Some.ensures.steps.low

pub tell-t-requires : goal.tell-t-requires
tell-t-requires c = c.in-Some.ensures.steps.low

pub loop-i-preserved : goal.loop-i-preserved
loop-i-preserved c =
    let w = c.in-Some.ensures.steps in
    let target = c.loop-i.invariant.0 _ w.there in (
      within_turn _ w c.loop-i.invariant.0,
      (λ q h. c.tell-t.ensures.kept q h ∙ c.loop-i.invariant.1 q h),
      λ base held o a. left_turn _ _ _ base held _ a target w c.tell-t.ensures (c.loop-i.invariant.2 base held o a),
    )

pub returns : goal.returns
returns c =
    record {
      kept = c.loop-i.invariant.1;
      news = λ base held a e o. left_news _ _ _ base held _ e a c.in-None.ensures.steps.0 (c.loop-i.invariant.2 base held o a);
      shown = λ base held a e o. left_held _ _ _ base held _ e a (held_length o) c.in-None.ensures.steps.0 (c.loop-i.invariant.2 base held o a);
    }
