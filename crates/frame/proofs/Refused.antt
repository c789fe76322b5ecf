-- A refused call of a turn leaves what it was lent. Assumes nothing.
use mathlib.Core.List.{List}
use mathlib.Core.Path.{◌≡◌, sym, ap, ◌∙◌}
use Prim.Native.Nat.{ℕ}
use lib.ListN.{length}
use Rattle.std.specs.Prelude.{Ok, Err, OnErr}
use Rattle.limits.specs.Refusals.{Tested}
use Rattle.limits.specs.declared.refusals.Refusal.{Refusal}
use Rattle.engines.specs.declared.network.Network.{Network}
use Rattle.pipeline.specs.Round.{new_part, PipelineAnswer}
use Rattle.pipeline.specs.declared.pipeline.PipelinePart.{PipelinePart}
use Rattle.room.specs.Capturing.{new_capture, Proposed, propose_part, Captured, capture_part}
use Rattle.room.specs.Pipelining.{pipeline_part}
use Rattle.room.specs.Rooms.{propose_of, capture_of, pipeline_of}
use Rattle.room.specs.declared.room.Room.{Room}
use Rattle.room.specs.declared.room.RoomConf.{RoomConf}
use Rattle.room.specs.declared.capture_calls.CapturePart.{CapturePart}
use Rattle.room.proofs.Refusing.{refused_leaves}
use Rattle.frame.specs.declared.play.Playing.{Playing}

pub not_ok : {t : Tested} {k : Refusal} → t ≡ Err k → t ≡ Ok tt → ⊥
not_ok {t} {k} e f =
    let g : ◌≡◌ {A = Tested} (Err k) (Ok tt) = sym e ∙ f in
    absurd (cc)

module _ (conf : RoomConf) where
  pub proposal_stays : (s : Playing CapturePart) (v : ℕ) {told : Tested} {t : CapturePart} → ◌≡◌ {A = Proposed} (record { told = told; part = t }) (propose_part conf s.part v)
      → OnErr told (◌≡◌ {A = Playing CapturePart} (record { cursor = s.cursor; used = s.used; network = s.network; part = t }) s)
  unfolding propose_of
  proposal_stays s v {told = Ok x} e = tt
  proposal_stays s v {told = Err k} e =
      let r : Room = record { conf = conf; network = s.network; capture = s.part; pipeline = new_part } in
      let l = refused_leaves.propose r v (not_ok (sym (ap (λ (p : Proposed). p.told) e))) in
      ap (λ (t : CapturePart). record { cursor = s.cursor; used = s.used; network = s.network; part = t }) (ap (λ (p : Proposed). p.part) e ∙ ap (λ (q : Room). q.capture) l)

  pub round_stays : (ws rows : List ℕ) (s s' : Playing CapturePart) {told : Tested} → ◌≡◌ {A = Captured} (record { told = told; cursor = s'.cursor; used = s'.used; network = s'.network; part = s'.part }) (capture_part ws (length rows) s.used conf s.network s.part s.cursor)
      → OnErr told (s' ≡ s)
  unfolding capture_of
  round_stays ws rows s s' {told = Ok x} e = tt
  round_stays ws rows s s' {told = Err k} e =
      let r : Room = record { conf = conf; network = s.network; capture = s.part; pipeline = new_part } in
      let l = refused_leaves.capture ws rows s.used r s.cursor (not_ok (sym (ap (λ (c : Captured). c.told) e))) in
      ap (λ (c : Captured). record { cursor = c.cursor; used = c.used; network = c.network; part = c.part }) e ∙ same l.cursor l.used (ap (λ (q : Room). q.network) l.room) (ap (λ (q : Room). q.capture) l.room)
    where
      same : {c u : ℕ} {w : Network} {t : CapturePart} → c ≡ s.cursor → u ≡ s.used → w ≡ s.network → t ≡ s.part → ◌≡◌ {A = Playing CapturePart} (record { cursor = c; used = u; network = w; part = t }) s
      same a b d f = rw (a, b, d, f)

  pub flood_stays : (ws rows : List ℕ) (s s' : Playing PipelinePart) {told : Tested} → ◌≡◌ {A = PipelineAnswer} (record { told = told; cursor = s'.cursor; used = s'.used; network = s'.network; part = s'.part }) (pipeline_part ws (length rows) s.used conf s.network s.part s.cursor)
      → OnErr told (s' ≡ s)
  unfolding pipeline_of
  flood_stays ws rows s s' {told = Ok x} e = tt
  flood_stays ws rows s s' {told = Err k} e =
      let r : Room = record { conf = conf; network = s.network; capture = new_capture 0; pipeline = s.part } in
      let l = refused_leaves.pipeline ws rows s.used r s.cursor (not_ok (sym (ap (λ (c : PipelineAnswer). c.told) e))) in
      ap (λ (c : PipelineAnswer). record { cursor = c.cursor; used = c.used; network = c.network; part = c.part }) e ∙ same l.cursor l.used (ap (λ (q : Room). q.network) l.room) (ap (λ (q : Room). q.pipeline) l.room)
    where
      same : {c u : ℕ} {w : Network} {t : PipelinePart} → c ≡ s.cursor → u ≡ s.used → w ≡ s.network → t ≡ s.part → ◌≡◌ {A = Playing PipelinePart} (record { cursor = c; used = u; network = w; part = t }) s
      same a b d f = rw (a, b, d, f)
