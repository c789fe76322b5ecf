use Rattle.std.proofs.Common.{◌≡◌, ℕ, ◌+◌, ◌-◌, ◌*◌, ◌∙◌, Err, sym, arith}
use Rattle.std.proofs.lemmas.Grind.{common_steps}
use Rattle.limits.specs.Refusals.{Tested}
use Rattle.engines.proofs.Rounds.{placed_whole}
use Rattle.capture.specs.Capture.{rows_of, start_of}
use Rattle.capture.proofs.Settling.{refused_early, refused_late, fits, many, accepted, quiet}
use Rattle.capture.proofs.capture.run_ce_round.Goals as goal

part : (used due : ℕ) → (used + due) * 5 - used * 5 ≡ due * 5
part used due = omega arith

pub returns-in_err-check_length : goal.returns-in_err-check_length
returns-in_err-check_length c =
    let refused : ◌≡◌ {A = Tested} c.from_residual.result (Err c.in_err-check_length.field-0.0) = grind (arith, common_steps) in
    let w = refused_early c.args.words.now c.args.rows.now c.args.used.now c.args.conf c.args.c.now c.args.initiator c.args.cursor
    (sym c.in_err-check_length.was ∙ c.check_length.ensures) in
    (record { value = rw refused w.0; rows_after = w.1 })

pub returns-in_err-check_late : goal.returns-in_err-check_late
returns-in_err-check_late c =
    let refused : ◌≡◌ {A = Tested} c.from_residual-in_err-check_late.result (Err c.in_err-check_late.field-0.0) = grind (arith, common_steps) in
    let w = refused_late c.args.words.now c.args.rows.now c.args.used.now c.args.conf c.args.c.now c.args.initiator c.args.cursor
    (sym c.in_ok-check_length.was ∙ c.check_length.ensures) _ _ c.survey-d.ensures c.check_late.ensures (sym c.in_err-check_late.was) in
    (record { value = rw refused w.0; rows_after = w.1 })

pub overflow_add-behind : goal.overflow_add-behind
overflow_add-behind c =
    omega (
      arith,
      fits c.args.words.now c.args.rows.now c.args.used.now c.args.conf c.args.c.now c.args.initiator c.args.cursor
          (sym c.in_ok-check_length.was ∙ c.check_length.ensures) _ _ c.survey-d.ensures c.check_late.ensures (sym c.in_ok-check_late.was),
    )

pub overflow_mul-from : goal.overflow_mul-from
overflow_mul-from c =
    omega (
      arith,
      fits c.args.words.now c.args.rows.now c.args.used.now c.args.conf c.args.c.now c.args.initiator c.args.cursor
          (sym c.in_ok-check_length.was ∙ c.check_length.ensures) _ _ c.survey-d.ensures c.check_late.ensures (sym c.in_ok-check_late.was),
    )

pub overflow_mul-to : goal.overflow_mul-to
overflow_mul-to c =
    omega (
      arith,
      fits c.args.words.now c.args.rows.now c.args.used.now c.args.conf c.args.c.now c.args.initiator c.args.cursor
          (sym c.in_ok-check_length.was ∙ c.check_length.ensures) _ _ c.survey-d.ensures c.check_late.ensures (sym c.in_ok-check_late.was),
    )

pub offset_bounds-rows-from : goal.offset_bounds-rows-from
offset_bounds-rows-from c =
    omega (
      arith,
      fits c.args.words.now c.args.rows.now c.args.used.now c.args.conf c.args.c.now c.args.initiator c.args.cursor
          (sym c.in_ok-check_length.was ∙ c.check_length.ensures) _ _ c.survey-d.ensures c.check_late.ensures (sym c.in_ok-check_late.was),
      c.well_formed,
    )

pub slice_bounds-write_rows-end : goal.slice_bounds-write_rows-end
slice_bounds-write_rows-end c =
    omega (
      arith,
      fits c.args.words.now c.args.rows.now c.args.used.now c.args.conf c.args.c.now c.args.initiator c.args.cursor
          (sym c.in_ok-check_length.was ∙ c.check_length.ensures) _ _ c.survey-d.ensures c.check_late.ensures (sym c.in_ok-check_late.was),
    )

pub returns-then-due-ne0 : goal.returns-then-due-ne0
returns-then-due-ne0 c =
    let e = many c.args.words.now c.args.rows.now c.args.used.now c.args.conf c.args.c.now c.args.initiator c.args.cursor
    (sym c.in_ok-check_length.was ∙ c.check_length.ensures) _ _ c.survey-d.ensures c.check_late.ensures (sym c.in_ok-check_late.was) in
    let h = fits c.args.words.now c.args.rows.now c.args.used.now c.args.conf c.args.c.now c.args.initiator c.args.cursor
    (sym c.in_ok-check_length.was ∙ c.check_length.ensures) _ _ c.survey-d.ensures c.check_late.ensures (sym c.in_ok-check_late.was) in
    let all = accepted c.args.words.now c.args.rows.now c.args.used.now c.args.conf c.args.c.now c.args.initiator c.args.cursor
    (sym c.in_ok-check_length.was ∙ c.check_length.ensures) _ _ c.survey-d.ensures c.check_late.ensures (sym c.in_ok-check_late.was)
    (rw (c.write_rows.ensures, part c.args.used.now _)
    (placed_whole c.args.rows.now (rows_of c.args.words.now c.args.conf c.args.conf.length (start_of c.args.conf c.args.initiator c.args.cursor c.args.c.now)) (c.args.used.now * 5) _ e (omega (arith, h)))) in
    record { value = all.0; rows_after = all.1 }

pub returns-else-due-ne0 : goal.returns-else-due-ne0
returns-else-due-ne0 c =
    let all = quiet c.args.words.now c.args.rows.now c.args.used.now c.args.conf c.args.c.now c.args.initiator c.args.cursor
    (sym c.in_ok-check_length.was ∙ c.check_length.ensures) _ _ c.survey-d.ensures c.check_late.ensures (sym c.in_ok-check_late.was) c.if-due-ne0.false in
    record { value = all.0; rows_after = all.1 }
