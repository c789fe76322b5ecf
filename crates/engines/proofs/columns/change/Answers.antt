use Rattle.std.proofs.Common.{◌≡◌, ◌+◌, sym, ◌∙◌, arith}
use lib.ListN.{length-set}
use lib.Seq.{set_out}
use Rattle.engines.proofs.Marking.{over_turn, over_none}
use Rattle.engines.proofs.columns.change.Goals as goal

pub loop-i-preserved-then-at-table : goal.loop-i-preserved-then-at-table
loop-i-preserved-then-at-table g c =
    let at : c.saturating_add-at.result ≡ c.args.start + c.in-Some.i = omega (arith, c.saturating_add-at.ensures) in (
      length-set _ _ _ ∙ c.loop-i.invariant.0,
      λ h does. over_turn _ c.in-Some.ensures.steps (rw (does _ _ c.f.ensures, at)) (c.loop-i.invariant.1 h does),
    )

pub loop-i-preserved : goal.loop-i-preserved
loop-i-preserved g c = (
  c.loop-i.invariant.0,
  λ h does. over_turn _ c.in-Some.ensures.steps (sym (set_out _ _ _ (omega (arith, c.saturating_add-at.ensures)))) (c.loop-i.invariant.1 h does),
)

pub returns : goal.returns
returns g c = λ h does. over_none _ c.in-None.ensures.steps.0 (c.loop-i.invariant.1 h does)
