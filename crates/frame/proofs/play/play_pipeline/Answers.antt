use mathlib.Core.Path.{◌≡◌, sym, ap, ◌∙◌}
use Prim.Native.Nat.{ℕ, ◌-◌}
use Rattle.std.specs.Prelude.{Result, Ok, Err}
use Rattle.std.proofs.lemmas.Grind.{common_steps}
use native.Mathlib.Omega.{arith}
use Rattle.limits.specs.declared.refusals.Refusal.{Refusal}
use Rattle.frame.specs.Play.{left_by, unless_refused, pipeline_end, new_play, play_pipeline}
use Rattle.pipeline.specs.Round.{new_part}
use Rattle.frame.proofs.Playing.{going, going_stop, going_out, going_on, going_refused}
use Rattle.frame.proofs.play.play_pipeline.Goals as goal

all : (n : ℕ) → n - 0 ≡ n
all n = omega arith

pub loop-k-init : goal.loop-k-init
unfolding play_pipeline
loop-k-init c = rw (c.new_play-ran.ensures, c.new.ensures) (ap (λ (n : ℕ). going c.args.words.now c.args.conf n (Ok (new_play new_part))) (all _))

pub returns-then-ran : goal.returns-then-ran
returns-then-ran c = ap (unless_refused pipeline_end) (going_stop c.args.words.now c.args.conf _ c.loop-k.ran c.if-ran.true c.loop-k.invariant)

pub returns-in_err-pipeline_turn : goal.returns-in_err-pipeline_turn
returns-in_err-pipeline_turn c =
    let told = ap (λ (r : Result (Unit {0}) Refusal). left_by r c.pipeline_turn.new.s) (sym c.in_err-pipeline_turn.was) ∙ c.pipeline_turn.ensures.told in
    let refused : ◌≡◌ {A = Result ℕ Refusal} c.from_residual.result (Err c.in_err-pipeline_turn.field-0.0) = grind (arith, common_steps) in
    refused ∙ ap (unless_refused pipeline_end) (going_refused c.args.words.now c.args.conf _ c.in_err-pipeline_turn.field-0.0 (going_on c.args.words.now c.args.conf c.loop-k.ran c.loop-k-test.true c.if-ran.false told c.loop-k.invariant))

pub loop-k-preserved : goal.loop-k-preserved
loop-k-preserved c =
    let told = ap (λ (r : Result (Unit {0}) Refusal). left_by r c.pipeline_turn.new.s) (sym c.in_ok-pipeline_turn.was) ∙ c.pipeline_turn.ensures.told in
    going_on c.args.words.now c.args.conf c.loop-k.ran c.loop-k-test.true c.if-ran.false told c.loop-k.invariant

pub returns : goal.returns
returns c = ap (unless_refused pipeline_end) {x = Ok c.loop-k.ran} (going_out c.args.words.now c.args.conf c.loop-k-test.false c.loop-k.invariant)
