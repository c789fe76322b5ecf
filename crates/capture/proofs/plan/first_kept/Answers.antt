use Rattle.std.proofs.Common.{◌≡◌, ◌+◌, ◌-◌, ◌<◌, ℕ, ap, sym, ◌∙◌, refl, arith, get_or, slice_index, length-take, get_or-take}
use Rattle.loops.specs.Runs.{runs, runs_stop, runs_turn, runs_none}
use Rattle.capture.specs.Plan.{examine1, is_found, unheard, first_kept}
use Rattle.capture.specs.declared.plan.Heard.{Heard}
use Rattle.capture.proofs.Hearing.{examined_more}
use Rattle.capture.proofs.plan.first_kept.Goals as goal

pub loop-src-init : goal.loop-src-init
loop-src-init c =
    let all : c.args.count - 0 ≡ c.args.count = omega arith in
    (refl, ap (λ k. runs is_found (examine1 c.args.words.now c.args.ids.now c.args.loss) k (unheard c.args.d)) all)

pub returns-then-is_some : goal.returns-then-is_some
unfolding first_kept
returns-then-is_some c = runs_stop _ _ (omega (arith, length-take {A = ℕ})) (sym c.is_some.ensures ∙ c.if-is_some.true) c.loop-src.invariant.1

pub loop-src-preserved : goal.loop-src-preserved
loop-src-preserved c =
    let left : c.loop-src.src-index < c.args.count = omega (arith, length-take {A = ℕ}) in
    let here : slice_index c.args.ids.now c.loop-src.h.examined ≡ get_or c.args.ids.now c.loop-src.src-index 0 = ap (slice_index c.args.ids.now) c.loop-src.invariant.0 in
    let step = c.examine-h.ensures c.args.ids.now (here ∙ sym (get_or-take c.args.count c.args.ids.now c.loop-src.src-index 0 left)) in
    let fewer : c.args.count - (c.loop-src.src-index + 1) ≡ c.args.count - c.loop-src.src-index - 1 = omega arith in (
      omega (arith, ap (λ (g : Heard). g.examined) step, examined_more c.args.words.now c.args.ids.now c.args.loss c.loop-src.h, c.loop-src.invariant.0),
      ap (λ k. runs is_found (examine1 c.args.words.now c.args.ids.now c.args.loss) k c.examine-h.result) fewer
          ∙ runs_turn _ _ (omega arith) (sym c.is_some.ensures ∙ c.if-is_some.false) step c.loop-src.invariant.1,
    )

pub returns : goal.returns
unfolding first_kept
returns c = runs_none _ _ (omega (arith, length-take {A = ℕ})) c.loop-src.invariant.1
