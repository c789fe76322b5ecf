-- A refused call of a room leaves all as it was: test by test, as the rules go. Assumes nothing.
use Rattle.std.specs.Option.{is_some}
use Rattle.std.proofs.Common.{◌≡◌, ℕ, Bool, true, false, Ok, List, length, refl}
use Rattle.std.specs.Result.{is_ok}
use Rattle.loops.specs.Pick.{either}
use Rattle.limits.specs.Refusals.{Tested}
use Rattle.merges.proofs.Safety.{either_cases}
use Rattle.capture.specs.Capture.{start_of, round_test, CeAnswer, answer_of, buffer_of}
use Rattle.pipeline.specs.Round as pipes
use Rattle.pipeline.specs.Round.{PipelineAnswer, round_answer, round_buffer}
use Rattle.room.specs.declared.room.Room.{Room}
use Rattle.room.specs.Capturing.{propose_test, Proposed, propose_part, capture_test, ce_state, Captured, captured_by, capture_part, capture_rows, proposer}
use Rattle.room.specs.Pipelining.{pipe_conf, pipeline_test, pipeline_part, pipeline_rows}
use Rattle.room.specs.Rooms.{with_capture, propose_of, RoundAnswer, captured, capture_of, capture_buffer, ran, pipeline_of, pipeline_buffer}
use Rattle.room.specs.Refused.{AsBefore, Leaves, RefusedLeaves}

-- an answer and a buffer by one test
both : {A B : Type 0} (P : A → B → Type 0) (t : Bool) {x y : A} {u v : B} → (t ≡ true → P x u) → (t ≡ false → P y v) → P (either t x y) (either t u v)
both P true f g = f refl
both P false f g = g refl

propose_leaves : (r : Room) (v : ℕ) → ((propose_of r v).told ≡ Ok tt → ⊥) → (propose_of r v).room ≡ r
unfolding propose_of propose_part
propose_leaves r v =
    either_cases (λ (a : Proposed). (a.told ≡ Ok tt → ⊥) → with_capture r r.network a.part ≡ r) (is_ok (propose_test r.conf r.capture.term v))
    (λ e h. absurd (h refl))
    (λ e h. refl)

module _ (ws rows : List ℕ) (used : ℕ) (r : Room) (cursor : ℕ) where
  abbrev Fine : RoundAnswer → List ℕ → Type 0
  Fine = Leaves r cursor used rows

  -- what stands beside any refusal
  kept : {k : Tested} → AsBefore r cursor used rows (record { told = k; cursor = cursor; used = used; room = r }) rows
  kept = record { room = refl; cursor = refl; used = refl; rows = refl }

  capture_leaves : Fine (capture_of ws (length rows) used r cursor) (capture_buffer ws rows used r cursor)
  unfolding capture_of capture_part capture_rows captured_by answer_of buffer_of
  capture_leaves =
      both (λ (a : Captured) (left : List ℕ). Fine (captured r a) left) (is_ok (capture_test r.conf (is_some r.capture.initiator) r.network.slot))
      (λ d. both (λ (a : CeAnswer) (left : List ℕ). Fine (captured r (captured_by r.conf r.network r.capture cursor used a)) left) (is_ok k)
      (λ e h. absurd (h refl))
      (λ e. rw e (λ h. kept)))
      (λ d h. kept)
    where
      k : Tested
      k = round_test ws (length rows) used r.conf.round (start_of r.conf.round (proposer r.capture) cursor (ce_state r.network r.capture))

  pipeline_leaves : Fine (pipeline_of ws (length rows) used r cursor) (pipeline_buffer ws rows used r cursor)
  unfolding pipeline_of pipeline_part pipeline_rows round_answer round_buffer
  pipeline_leaves =
      both Told (is_ok (pipeline_test r.conf r.pipeline.stop r.network.slot))
      (λ d. both Told (is_ok (pipes.round_test ws (length rows) used (pipe_conf r.conf) r.network r.pipeline cursor))
      (λ e h. absurd (h refl))
      (λ e h. kept))
      (λ d h. kept)
    where
      Told : PipelineAnswer → List ℕ → Type 0
      Told a left = Fine (ran r a) left

pub refused_leaves : RefusedLeaves
refused_leaves = record { propose = propose_leaves; capture = capture_leaves; pipeline = pipeline_leaves }
