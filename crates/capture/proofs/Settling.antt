-- Each way out of a capture round, told from what its tests found. Assumes nothing.
use Rattle.std.proofs.Common.{◌≡◌, ℕ, ◌+◌, ◌*◌, ◌≤◌, false, List, length, Ok, Err, refl, sym, ◌∙◌, arith}
use lib.Seq.{sets}
use Rattle.std.specs.Result.{is_ok}
use Rattle.limits.proofs.Tests.{no_err}
use Rattle.merges.proofs.Safety.{either_cases}
use Rattle.limits.specs.Refusals.{Tested}
use Rattle.limits.specs.declared.refusals.Refusal.{Refusal}
use Rattle.engines.specs.Network.{length_test, late_test}
use Rattle.engines.specs.Rounds.{due_in, Surveyed}
use Rattle.engines.specs.declared.network.RoundConf.{RoundConf}
use Rattle.engines.proofs.Rounds.{no_rows, late_is, late_fits}
use Rattle.capture.specs.Capture.{network_in, draw_in, over, slot_of, rows_of, start_of, after_round, round_test, CeAnswer, answer_of, buffer_of}
use Rattle.capture.specs.declared.capture.CeState.{CeState}

module _ (ws rows : List ℕ) (used : ℕ) (conf : RoundConf) (c : CeState) (initiator cursor : ℕ) where
  -- what a round owes: its answer, and the buffer
  abbrev pub Owed : CeAnswer → List ℕ → Type 0
  Owed a final = (a ≡ answer_of ws (length rows) used conf c initiator cursor) × (final ≡ buffer_of ws rows used conf c initiator cursor)

  -- the round's first state
  abbrev first : CeState
  first = start_of conf initiator cursor c

  -- a refusal leaves all as it was
  refused : (r : Refusal) → round_test ws (length rows) used conf first ≡ Err r → Owed (record { told = Err r; state = c; used = used }) rows
  unfolding answer_of buffer_of
  refused r e = (rw e, rw e)

  pub refused_early : {r : Refusal} → Err r ≡ length_test conf c.network.slot → Owed (record { told = Err r; state = c; used = used }) rows
  unfolding round_test start_of
  refused_early {r} e = refused r (rw (← e))

  module _ (e : Ok tt ≡ length_test conf c.network.slot) (t : CeState) (due : ℕ)
      (w : Surveyed network_in over (slot_of ws conf) conf draw_in conf.length first t due) {late : Tested}
      (l : late ≡ late_test (length rows) used t.draw.short due) where
    told : round_test ws (length rows) used conf first ≡ late
    unfolding round_test after_round start_of
    told = rw (← e) (sym (late_is network_in over (slot_of ws conf) conf draw_in conf.length first t due (length rows) used w) ∙ sym l)

    pub refused_late : {r : Refusal} → Err r ≡ late → Owed (record { told = Err r; state = c; used = used }) rows
    refused_late {r} n = refused r (told ∙ sym n)

    module _ (none : Ok tt ≡ late) where
      fine : (t.draw.short ≡ false) × ((used + due) * 5 ≤ length rows)
      fine = late_fits (length rows) used due t.draw.short (sym l ∙ sym none)

      -- the rows fit
      pub fits : (used + due) * 5 ≤ length rows
      fits = fine.1

      pub many : length (rows_of ws conf conf.length first) ≡ due * 5
      many = sym (w.rows fine.0)

      pub accepted : {final : List ℕ} → final ≡ sets rows (used * 5) (rows_of ws conf conf.length first) → Owed (record { told = Ok tt; state = t; used = used + due }) final
      unfolding answer_of buffer_of after_round
      accepted q =
          let d : due_in network_in over (slot_of ws conf) conf conf.length first ≡ due = omega (arith, many) in (
            rw (told, ← none, d, ← w.state fine.0),
            rw (told, ← none) q,
          )

      pub quiet : due ≡ 0 → Owed (record { told = Ok tt; state = t; used = used + due }) rows
      quiet q = accepted (no_rows rows (rows_of ws conf conf.length first) (used * 5) (omega (arith, many)))

-- a refused round leaves the number of rows used
pub refused_used : (ws : List ℕ) (numbers used : ℕ) (conf : RoundConf) (c : CeState) (initiator cursor : ℕ) {k : Refusal}
    → (answer_of ws numbers used conf c initiator cursor).told ≡ Err k → (answer_of ws numbers used conf c initiator cursor).used ≡ used
unfolding answer_of
refused_used ws numbers used conf c initiator cursor {k} =
    either_cases (λ (a : CeAnswer). a.told ≡ Err k → a.used ≡ used) (is_ok (round_test ws numbers used conf (start_of conf initiator cursor c)))
    (λ e q. no_err (sym q))
    (λ e q. refl)
