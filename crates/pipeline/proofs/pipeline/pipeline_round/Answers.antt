use Rattle.std.proofs.Common.{◌≡◌, Err, sym, ◌∙◌, arith}
use Rattle.std.proofs.lemmas.Grind.{common_steps}
use Rattle.limits.specs.Refusals.{Tested}
use Rattle.pipeline.proofs.Rounding.{early_size, refused_early, refused_late, fits_all, due_all, accepted}
use Rattle.pipeline.proofs.pipeline.pipeline_round.Goals as goal

pub returns-in_err-check_early : goal.returns-in_err-check_early
returns-in_err-check_early c =
    let refused : ◌≡◌ {A = Tested} c.from_residual.result (Err c.in_err-check_early.field-0.0) = grind (arith, common_steps) in
    let all = refused_early c.args.words.now c.args.rows.now c.args.used.now c.args.conf c.args.w.now c.args.p.now c.args.cursor.now (sym c.in_err-check_early.was ∙ c.check_early.ensures) in
    record { value = rw refused all.0; rows_after = all.1 }

pub invariant_of-start : goal.invariant_of-start
invariant_of-start c = record { has_positions = early_size _ _ _ (sym c.check_early.ensures ∙ c.in_ok-check_early.was) }

pub returns-in_err-check_late : goal.returns-in_err-check_late
returns-in_err-check_late c =
    let refused : ◌≡◌ {A = Tested} c.from_residual-in_err-check_late.result (Err c.in_err-check_late.field-0.0) = grind (arith, common_steps) in
    let all = refused_late c.args.words.now c.args.rows.now c.args.used.now c.args.conf c.args.w.now c.args.p.now c.args.cursor.now (sym c.in_ok-check_early.was ∙ c.check_early.ensures) c.run-x.ensures c.check_late.ensures (sym c.in_err-check_late.was) in
    record { value = rw refused all.0; rows_after = all.1 }

pub write_due-requires : goal.write_due-requires
write_due-requires c =
    record {
      are_due = due_all c.args.words.now c.args.rows.now c.args.used.now c.args.conf c.args.w.now c.args.p.now c.args.cursor.now (sym c.in_ok-check_early.was ∙ c.check_early.ensures) c.run-x.ensures c.check_late.ensures (sym c.in_ok-check_late.was);
      fit = (fits_all c.args.words.now c.args.rows.now c.args.used.now c.args.conf c.args.w.now c.args.p.now c.args.cursor.now (sym c.in_ok-check_early.was ∙ c.check_early.ensures) c.run-x.ensures c.check_late.ensures (sym c.in_ok-check_late.was)).1;
    }

pub overflow_add-used : goal.overflow_add-used
overflow_add-used c = omega (arith, (fits_all c.args.words.now c.args.rows.now c.args.used.now c.args.conf c.args.w.now c.args.p.now c.args.cursor.now (sym c.in_ok-check_early.was ∙ c.check_early.ensures) c.run-x.ensures c.check_late.ensures (sym c.in_ok-check_late.was)).1, c.well_formed)

pub returns : goal.returns
returns c =
    let all = accepted c.args.words.now c.args.rows.now c.args.used.now c.args.conf c.args.w.now c.args.p.now c.args.cursor.now (sym c.in_ok-check_early.was ∙ c.check_early.ensures) c.run-x.ensures c.check_late.ensures (sym c.in_ok-check_late.was) c.write_due.ensures in
    record { value = all.0; rows_after = all.1 }
