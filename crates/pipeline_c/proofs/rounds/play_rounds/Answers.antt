use Rattle.std.proofs.Common.{rules, ◌≡◌, Err, refl, sym, ◌∙◌, arith}
use Rattle.std.proofs.lemmas.Grind.{common_steps}
use Rattle.limits.specs.Refusals.{Tested}
use Rattle.pipeline_c.specs.Play.{play_rounds}
use Rattle.pipeline_c.proofs.Playing.{played_none, played_stop, played_turn}
use Rattle.pipeline_c.proofs.rounds.play_rounds.Goals as goal

pub returns-in_err-play_round : goal.returns-in_err-play_round
unfolding play_rounds
returns-in_err-play_round c =
    let refused : ◌≡◌ {A = Tested} c.from_residual.result (Err c.in_err-play_round.field-0.0) = grind (arith, common_steps) in
    rw refused (played_stop _ _ _ _ _ _ c.loop-round.invariant.1 c.loop-round-test.true refl c.in_err-play_round.ensures refl)

pub loop-round-preserved : goal.loop-round-preserved
loop-round-preserved c = (search rules, played_turn _ _ _ _ _ _ c.loop-round.invariant.1 c.loop-round-test.true refl c.in_ok-play_round.ensures)

pub returns : goal.returns
unfolding play_rounds
returns c = played_none _ _ _ _ _ _ c.loop-round.invariant.1 c.loop-round-test.false
