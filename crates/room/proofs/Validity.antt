-- A room's pipeline part holds valid packets only: as opened, after each call, and after each slot of a round; and what
-- an accepted pipeline round counts as covered. Assumes nothing.
use Rattle.std.proofs.Common.{◌≡◌, ℕ, zero, suc, ◌+◌, ◌%◌, ◌^◌, ◌<◌, ◌≤◌, Bool, true, false, Ok, Err, ◌⊎◌, List, map, get_or, inl, inr, true≢false, arith}
use Rattle.std.specs.Result.{is_ok}
use mathlib.Core.List.Memᴰ
use mathlib.Core.List.{Memᴰ}
use Rattle.limits.specs.Refusals.{Tested}
use Rattle.limits.proofs.Tests.{no_err, ok_told}
use Rattle.marks.specs.Marks.{has, marks, count_of}
use Rattle.engines.specs.Nodes.{no_node}
use Rattle.engines.specs.declared.node.NodeState.TheVariants.{Sleep}
use Rattle.merges.proofs.Safety.{either_cases}
use Rattle.packets.specs.Packets.{ValidPipeline}
use Rattle.pipeline.specs.Pipeline.{packet_of}
use Rattle.pipeline.specs.Round.{no_packet, initiator_of, preparing, run_round, early_test, start_draw, round_test}
use Rattle.pipeline.specs.Round.{PipelineAnswer, round_answer}
use Rattle.pipeline.specs.declared.pipeline.PipelineConf.{PipelineConf}
use Rattle.pipeline.proofs.Rounding.{early_size, refusal_none}
use Rattle.pipeline.proofs.Valid.{ValidPart, new_valid, answer_valid}
use Rattle.pipeline.proofs.Covering.{text_in, initiator_holds, run_covered, sleeper_text}
use Rattle.room.specs.declared.room.Room.{Room}
use Rattle.room.specs.declared.room.RoomConf.{RoomConf}
use Rattle.room.specs.declared.room.Asked.{Asked}
use Rattle.room.specs.Kinds.{positions_of}
use Rattle.room.specs.Pipelining.{pipe_conf, pipeline_test, pipeline_part}
use Rattle.room.specs.Rooms.{size_of, open_test, new_room, conf_of, opened_by, with_pipeline, propose_of, capture_of}
use Rattle.room.specs.Rooms.{pipeline_of}
use Rattle.room.specs.Slots.{stages_from, during, capture_slots, flooding, pipeline_slots}
use Rattle.room.proofs.Calling.{opened_size}

-- ---- between calls

abbrev pub ValidRoom : Room → Type 0
ValidRoom r = ValidPart (size_of r) r.pipeline

new_room_lem : (c : RoomConf) (term : ℕ) → positions_of c ≤ 64 → ValidRoom (new_room c term)
unfolding new_room
new_room_lem c term h = new_valid (positions_of c) h

pub opened_valid : (a : Asked) → open_test a ≡ Ok tt → ValidRoom (opened_by a)
opened_valid a e = new_room_lem (conf_of a) a.term (opened_size a e).1

module _ (r : Room) (valid : ValidRoom r) where
  -- the calls of a capture room leave the part of a pipeline
  pub propose_valid : (v : ℕ) → ValidRoom (propose_of r v).room
  unfolding propose_of
  propose_valid v = valid

  pub capture_valid : (ws : List ℕ) (numbers used cursor : ℕ) → ValidRoom (capture_of ws numbers used r cursor).room
  unfolding capture_of
  capture_valid ws numbers used cursor = valid

  pub pipeline_valid : (ws : List ℕ) (numbers used cursor : ℕ) → ValidRoom (pipeline_of ws numbers used r cursor).room
  unfolding pipeline_of pipeline_part
  pipeline_valid ws numbers used cursor =
      either_cases (λ (a : PipelineAnswer). ValidPart (size_of r) a.part)
      (is_ok (pipeline_test r.conf r.pipeline.stop r.network.slot))
      (λ e. answer_valid ws numbers used (pipe_conf r.conf) r.network r.pipeline cursor valid)
      (λ e. valid)

-- ---- after each slot

abbrev pub HeldValid : Room → Type 0
HeldValid r = (v : ℕ) → ValidPipeline (packet_of (size_of r) (get_or r.pipeline.payloads v no_packet))

-- what holds of every view of a loop's state holds after each of its steps
module _ {S : Type 0} (stop : S → Bool) (step : S → S) (view : S → Room) (P : Room → Type 0)
    (all : (s : S) → P (view s)) where
  stages_all : (k : ℕ) (b : Bool) (s : S) (x : Room) → Memᴰ x (map view (stages_from stop step k b s)) → P x
  unfolding stages_from
  stages_all zero b s x h = absurd (Memᴰ.not-nil h)
  stages_all (suc k) true s x h = absurd (Memᴰ.not-nil h)
  stages_all (suc k) false s x h =
      by (λ g. stages_all k (stop (step s)) (step s) x g) (Memᴰ.cases_cons h)
    where
      by : {Q : Type 0} → (Q → P x) → (x ≡ view (step s)) ⊎ Q → P x
      by f (inl e) = rw e (all (step s))
      by f (inr g) = f g

module _ (r : Room) (valid : ValidRoom r) (ws : List ℕ) (cursor : ℕ) (x : Room) where
  pub capture_slots_lem : Memᴰ x (capture_slots ws cursor r) → HeldValid x
  unfolding capture_slots
  capture_slots_lem h = stages_all _ _ (during r) HeldValid (λ s. valid.payloads) _ _ _ x h

  pub pipeline_slots_lem : Memᴰ x (pipeline_slots ws cursor r) → HeldValid x
  unfolding pipeline_slots
  pipeline_slots_lem h =
      let conf = pipe_conf r.conf in
      let i = initiator_of conf r.pipeline in
      let prep = preparing ws conf r.network.slot r.pipeline i (start_draw cursor) in
      stages_all _ _ (flooding r i prep) HeldValid (λ s. valid.payloads) _ _ _ x h

-- ---- an accepted pipeline round

abbrev ran_room : List ℕ → Room → ℕ → Room
ran_room ws r cursor =
    let x = run_round ws (pipe_conf r.conf) r.network r.pipeline (start_draw cursor) in
    with_pipeline r x.network x.part

-- what its run gives is what it hands back, in a room of 1 to 64 positions
accepted_ran : (ws : List ℕ) (numbers used : ℕ) (r : Room) (cursor : ℕ) (P : Room → Type 0)
    → (pipeline_of ws numbers used r cursor).told ≡ Ok tt
    → (0 < size_of r → size_of r ≤ 64 → P (ran_room ws r cursor))
    → P (pipeline_of ws numbers used r cursor).room
unfolding pipeline_of pipeline_part round_answer
accepted_ran ws numbers used r cursor P none f =
    either_cases Told (is_ok early)
    (λ e. either_cases Told (is_ok late)
    (λ g q. let size = early_size conf r.network.slot r.pipeline.stop (fine g) in f size.0 size.1)
    (λ g q. refused late g q))
    (λ e q. refused early e q)
    none
  where
    Told : PipelineAnswer → Type 0
    Told a = a.told ≡ Ok tt → P (with_pipeline r a.network a.part)

    refused : {Q : Type 0} (t : Tested) → is_ok t ≡ false → t ≡ Ok tt → Q
    refused (Ok x) e q = absurd (true≢false e)
    refused (Err k) e q = no_err q

    conf : PipelineConf
    conf = pipe_conf r.conf

    early : Tested
    early = pipeline_test r.conf r.pipeline.stop r.network.slot

    late : Tested
    late = round_test ws numbers used conf r.network r.pipeline cursor

    fine : is_ok late ≡ true → early_test conf r.network.slot r.pipeline.stop ≡ Ok tt
    fine g = (refusal_none ws numbers used conf r.network r.pipeline cursor (ok_told late g)).0

-- the text of what position v holds
abbrev pub text_of : Room → ℕ → List ℕ
text_of r v = text_in (size_of r) r.pipeline v

abbrev pub initiator : Room → ℕ
initiator r = initiator_of (pipe_conf r.conf) r.pipeline

-- by any test of equal texts
module _ (test : List ℕ → List ℕ → Bool) (sound : (a b : List ℕ) → test a b ≡ true → a ≡ b)
    (complete : (a : List ℕ) → test a a ≡ true) where
  -- how many positions hold the text of position i
  abbrev pub holding_text : Room → ℕ → ℕ
  holding_text r i = count_of (marks (size_of r) (λ v. test (text_of r v) (text_of r i))) (size_of r)

  -- From room a to room b: position i holds a packet, covered has risen by that number, and whoever sleeps holds that
  -- text.
  pub record Covers (a b : Room) (i : ℕ) : Type 0 where
    pub holds : has b.pipeline.holding i ≡ true
    pub covered : b.network.metrics.flood_nodes_covered
        ≡ (a.network.metrics.flood_nodes_covered + holding_text b i) % 2 ^ 64
    pub sleepers : (v : ℕ) → v < size_of b → (get_or b.network.nodes v no_node).state ≡ Sleep → text_of b v ≡ text_of b i

  pub pipeline_covers : (ws : List ℕ) (numbers used : ℕ) (r : Room) (cursor : ℕ) → ValidRoom r
      → (pipeline_of ws numbers used r cursor).told ≡ Ok tt
      → Covers r (pipeline_of ws numbers used r cursor).room (initiator r)
  pipeline_covers ws numbers used r cursor valid none =
      let conf = pipe_conf r.conf in
      let d = start_draw cursor in
      accepted_ran ws numbers used r cursor (λ x. Covers r x (initiator r)) none
      (λ l m. record {
        holds = initiator_holds ws conf l m r.network r.pipeline d valid;
        covered = run_covered ws conf l m r.network r.pipeline d valid test sound complete;
        sleepers = sleeper_text ws conf l m r.network r.pipeline d valid;
      })
