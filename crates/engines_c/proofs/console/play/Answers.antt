use Rattle.std.proofs.Common.{◌≡◌, Err, sym, ◌∙◌, arith}
use Rattle.std.proofs.lemmas.Grind.{common_steps}
use Rattle.limits.specs.Refusals.{Tested}
use Rattle.engines_c.proofs.Stating.{not_asked, not_run, all_run}
use Rattle.engines_c.proofs.console.play.Goals as goal

pub returns-in_err-check : goal.returns-in_err-check
returns-in_err-check c =
    let refused : ◌≡◌ {A = Tested} c.from_residual.result (Err c.in_err-check.field-0.0) = grind (arith, common_steps) in
    rw refused (not_asked c.args.state.now c.args.words.now c.args.rows.now c.args.conf c.args.initiator (sym c.check.ensures ∙ c.in_err-check.was))

pub returns-in_err-run_ce_round : goal.returns-in_err-run_ce_round
returns-in_err-run_ce_round c =
    let refused : ◌≡◌ {A = Tested} c.from_residual-in_err-run_ce_round.result (Err c.in_err-run_ce_round.field-0.0) = grind (arith, common_steps) in
    rw refused
    (not_run c.args.state.now c.args.words.now c.args.rows.now c.args.conf c.args.initiator (sym c.check.ensures ∙ c.in_ok-check.was) c.state_of-c.ensures c.number.ensures c.number-cursor.ensures
    c.run_ce_round.ensures.value c.run_ce_round.ensures.rows_after c.in_err-run_ce_round.was)

pub returns : goal.returns
returns c =
    all_run c.args.state.now c.args.words.now c.args.rows.now c.args.conf c.args.initiator (sym c.check.ensures ∙ c.in_ok-check.was) c.state_of-c.ensures c.number.ensures c.number-cursor.ensures
    c.run_ce_round.ensures.value c.run_ce_round.ensures.rows_after c.in_ok-run_ce_round.was c.put_state.ensures
