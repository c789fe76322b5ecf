-- A pipeline frame's rounds run until the room has stopped or one is refused: each accepted round leaves one fewer of T + 1002. Assumes nothing.
use mathlib.Core.Bool.{Bool, true, false}
use mathlib.Core.List.{List}
use mathlib.Core.Path.{◌≡◌, refl, subst}
use Prim.Native.Nat.{ℕ, zero, suc, ◌+◌, ◌≤◌}
use native.Mathlib.Omega.{arith}
use Rattle.std.specs.Prelude.{Result, Ok, Err}
use Rattle.std.specs.Result.{result_and}
use Rattle.limits.specs.Refusals.{Tested}
use Rattle.loops.specs.Runs.{go, runs}
use Rattle.limits.specs.Limits.{row_cells}
use Rattle.limits.specs.declared.refusals.Refusal.{Refusal}
use Rattle.pipeline.specs.Round.{new_part, PipelineAnswer}
use Rattle.pipeline.specs.declared.pipeline.PipelinePart.{PipelinePart}
use Rattle.pipeline.proofs.Ending.{Spent, accepted}
use Rattle.room.specs.declared.room.RoomConf.{RoomConf}
use Rattle.room.specs.Pipelining.{pipeline_part}
use Rattle.room.specs.Rooms.{conf_of}
use Rattle.room.proofs.Spending.{part_spent, spent_going, few_transactions}
use Rattle.frame.specs.Play.{asked_of, unless_refused, pipeline_turn, is_done, new_play, play_pipeline}
use Rattle.frame.specs.declared.play.Playing.{Playing}
use Rattle.frame.specs.Stopping.{RunsUntilStopped}

-- ---- a loop has stopped at its end if what its steps keep says so once none is left
module _ {S : Type 0} (stop : S → Bool) (step : S → S) (Q : ℕ → S → Type 0) (keeps : (k : ℕ) (s : S) → stop s ≡ false → Q (suc k) s → Q k (step s)) (ends : (s : S) → Q 0 s → stop s ≡ true) where
  go_ends : (k : ℕ) (b : Bool) (s : S) → stop s ≡ b → Q k s → stop (go stop step k b s) ≡ true
  unfolding go
  go_ends zero b s e q = ends s q
  go_ends (suc k) true s e q = e
  go_ends (suc k) false s e q = go_ends k (stop (step s)) (step s) refl (keeps k s e q)

  runs_ends : (k : ℕ) (s : S) → Q k s → stop (runs stop step k s) ≡ true
  runs_ends k s q = go_ends k (stop s) s refl q

-- ---- the rounds of a room of t transactions: those that were accepted, and those that are left

record Going (t left : ℕ) (s : Playing PipelinePart) : Type 0 where
  count : ℕ
  spent : Spent t count s.part.stop s.part.round
  all : count + left ≡ t + 1002

-- a room that has not stopped goes on; a refused round ends it
abbrev Left : ℕ → ℕ → Result (Playing PipelinePart) Refusal → Type 0
Left t left (Ok s) = s.part.stop ≡ false → Going t left s
Left t left (Err k) = Unit {0}

module _ (conf : RoomConf) (ws : List ℕ) (bounded : conf.transactions ≤ 64) where
  abbrev t : ℕ
  t = conf.transactions

  turn_left : (k : ℕ) (s : Playing PipelinePart) → s.part.stop ≡ false → Left t (suc k) (Ok s) → Left t k (pipeline_turn ws conf s)
  unfolding pipeline_turn
  turn_left k s e q = by a.told refl
    where
      a : PipelineAnswer
      a = pipeline_part ws row_cells s.used conf s.network s.part s.cursor

      g : Going t (suc k) s
      g = q e

      spent : Spent t (g.count + accepted a.told) a.part.stop a.part.round
      spent = part_spent ws row_cells s.used conf s.network s.part s.cursor g.count bounded g.spent

      by : (m : Tested) → a.told ≡ m → Left t k (result_and m (Ok (record { cursor = a.cursor; used = a.used; network = a.network; part = a.part })))
      by (Ok x) m = λ d.
          let one : accepted a.told ≡ 1 = rw m in
          record { count = g.count + accepted a.told; spent = spent; all = omega (arith, one, g.all) }
      by (Err x) m = tt

  turns_left : (k : ℕ) (r : Result (Playing PipelinePart) Refusal) → is_done r ≡ false → Left t (suc k) r → Left t k (unless_refused (pipeline_turn ws conf) r)
  turns_left k (Ok s) e q = turn_left k s e q
  turns_left k (Err m) e q = tt

  none_left : (r : Result (Playing PipelinePart) Refusal) → Left t 0 r → is_done r ≡ true
  none_left (Ok s) q = by s.part.stop refl
    where
      by : (b : Bool) → s.part.stop ≡ b → b ≡ true
      by true e = refl
      by false e = absurd (let g = q e in omega (arith, g.all, spent_going t g.count s.part.round (subst (λ (b : Bool). Spent t g.count b s.part.round) e g.spent)))
  none_left (Err m) q = refl

pub runs_until_stopped : RunsUntilStopped
unfolding play_pipeline new_part asked_of
runs_until_stopped f g ws e =
    let conf = conf_of (asked_of f g) in
    let h = few_transactions (asked_of f g) e in
    runs_ends is_done (unless_refused (pipeline_turn ws conf)) (Left conf.transactions) (turns_left conf ws h) (none_left conf ws h) _ (Ok (new_play new_part))
    (λ d. record { count = 0; spent = (refl, omega arith); all = omega arith })
