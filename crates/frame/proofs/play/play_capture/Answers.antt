use mathlib.Core.Path.{◌≡◌, sym, ap, ◌∙◌}
use Prim.Native.Nat.{ℕ}
use Rattle.std.specs.Prelude.{Result, Err}
use Rattle.std.proofs.lemmas.Grind.{common_steps}
use native.Mathlib.Omega.{arith}
use Rattle.limits.specs.declared.refusals.Refusal.{Refusal}
use Rattle.frame.specs.Play.{left_by, unless_refused, capture_end, capture_turn}
use Rattle.frame.proofs.Playing.{captured_none, captured_more, captured_refused}
use Rattle.frame.proofs.play.play_capture.Goals as goal

pub loop-k-init : goal.loop-k-init
loop-k-init c = rw (c.new_play-captured.ensures, c.new.ensures) (captured_none c.args.words.now c.args.room.conf)

pub returns-in_err-capture_turn : goal.returns-in_err-capture_turn
returns-in_err-capture_turn c =
    let turn = captured_more c.loop-k.k c.args.words.now c.args.room.conf ∙ ap (unless_refused (capture_turn c.args.words.now c.args.room.conf c.loop-k.k)) (sym c.loop-k.invariant) ∙ sym c.capture_turn.ensures.told ∙ ap (λ (r : Result (Unit {0}) Refusal). left_by r c.capture_turn.new.s) c.in_err-capture_turn.was in
    let end = captured_refused c.args.t c.loop-k.k c.args.words.now c.args.room.conf turn c.loop-k-test.true in
    let refused : ◌≡◌ {A = Result ℕ Refusal} c.from_residual.result (Err c.in_err-capture_turn.field-0.0) = grind (arith, common_steps) in
    refused ∙ ap (unless_refused capture_end) (sym end)

pub loop-k-preserved : goal.loop-k-preserved
loop-k-preserved c = sym (captured_more c.loop-k.k c.args.words.now c.args.room.conf ∙ ap (unless_refused (capture_turn c.args.words.now c.args.room.conf c.loop-k.k)) (sym c.loop-k.invariant) ∙ sym c.capture_turn.ensures.told ∙ ap (λ (r : Result (Unit {0}) Refusal). left_by r c.capture_turn.new.s) c.in_ok-capture_turn.was)
