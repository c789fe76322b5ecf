-- Covered is counted by bytes: every packet that a room's positions hold is valid, by induction over the list of calls.
-- Assumes nothing.
use Prim.Native.Nat.{ℕ, ◌+◌, ◌≤◌, ◌<◌}
use mathlib.Core.Bool.{Bool, true, false}
use mathlib.Core.Logic.{◌⊎◌, inl, inr}
use mathlib.Core.List.Memᴰ
use mathlib.Core.List.{List, [], ◌∷◌, Memᴰ}
use mathlib.Core.Path.{◌≡◌, refl, sym, ap₂, subst}
use lib.Dec.{eqb}
use lib.ListN.{length, get_or, take, drop}
use lib.Seq.{take_at}
use native.Mathlib.Omega.{arith}
use borrow.Author.Tests.{eq-eqb, eqb-true, le-leb}
use Rattle.loops.specs.Pick.{either}
use Rattle.marks.specs.Sets.{and_true, true_and}
use Rattle.texts.specs.Put.{written}
use Rattle.std.specs.Prelude.{Result, Ok, is_ok}
use Rattle.limits.specs.declared.refusals.Refusal.{Refusal}
use Rattle.packets.specs.Packets.{pipeline_text, limits, pipeline_within, ValidPipeline}
use Rattle.packets.specs.Writing.{wrote_of, left_of}
use Rattle.packets.specs.declared.TwoPcPacket.{TwoPcPacket}
use Rattle.packets.proofs.Promises.{pipeline_promises}
use Rattle.pipeline.specs.Pipeline.{packet_of}
use Rattle.pipeline.specs.Round.{no_packet, initiator_of}
use Rattle.pipeline.specs.declared.two_pc_pipeline.RoundPacket.{RoundPacket}
use Rattle.room.specs.declared.room.RoomKind.{RoomKind}
use Rattle.room.specs.declared.room.RoomKind.TheVariants as kinds
use Rattle.room.specs.declared.room.Room.{Room}
use Rattle.room.specs.Rooms.{size_of, opened_by, capture_of, pipeline_of}
use Rattle.room.specs.Slots.{capture_slots, pipeline_slots}
use Rattle.room.proofs.Validity.{ValidRoom, HeldValid, opened_valid, propose_valid, capture_valid, pipeline_valid}
use Rattle.room.proofs.Validity.{capture_slots_lem, pipeline_slots_lem, pipeline_covers}
use Rattle.readings.specs.Readings.{pipe_answer_of, pipe_left, text_by, text_of, left_by, text_left}
use Rattle.readings.proofs.Answers.{place_held}
use Rattle.demand.specs.Calls.{Call, Propose, CaptureRound, PipelineRound, Read, handed, ticks, after, moments}
use Rattle.demand.specs.Covered.{holds_one, bytes_at, ValidTexts, HeldAreValid, equal_bytes, TestsBytes}
use Rattle.demand.specs.Covered.{same_bytes, CoveredByBytes}

-- ---- the test

bytes_yes : (s t : List ℕ) → equal_bytes s t ≡ true → s ≡ t
unfolding equal_bytes
bytes_yes [] [] e = refl
bytes_yes [] (b ∷ t) e = absurd (let z : ◌≡◌ {A = ℕ} 0 1 = cc in omega arith)
bytes_yes (a ∷ s) [] e = absurd (let z : ◌≡◌ {A = ℕ} 0 1 = cc in omega arith)
bytes_yes (a ∷ s) (b ∷ t) e =
    let p = and_true (eqb a b) (equal_bytes s t) e in
    ap₂ (λ (x : ℕ) (l : List ℕ). x ∷ l) (eqb-true a b p.0) (bytes_yes s t p.1)

bytes_self : (s : List ℕ) → equal_bytes s s ≡ true
unfolding equal_bytes
bytes_self [] = refl
bytes_self (a ∷ s) = true_and (eqb a a) (equal_bytes s s) (eq-eqb a a refl) (bytes_self s)

pub tests_bytes : TestsBytes
tests_bytes =
    record {
      yes = bytes_yes;
      no = λ s t e g.
          let y : equal_bytes s t ≡ true = rw g (bytes_self t) in
          let z : ◌≡◌ {A = ℕ} 0 1 = cc in omega arith;
    }

-- ---- a list of calls

call_valid : (c : Call) (r : Room) → ValidRoom r → ValidRoom (handed c r)
unfolding handed
call_valid (Propose v) r i = propose_valid r i v
call_valid (CaptureRound ws cursor rows used) r i = capture_valid r i ws (length rows) used cursor
call_valid (PipelineRound ws cursor rows used) r i = pipeline_valid r i ws (length rows) used cursor
call_valid (Read q) r i = i

calls_valid : (cs : List Call) (r : Room) → ValidRoom r → ValidRoom (after cs r)
unfolding after
calls_valid [] r i = i
calls_valid (c ∷ cs) r i = calls_valid cs (handed c r) (call_valid c r i)

-- after each slot that a call ticks
ticked_valid : (b : Bool) (l : List Room) (x : Room) → (Memᴰ x l → HeldValid x) → Memᴰ x (either b l [])
    → HeldValid x
ticked_valid true l x f h = f h
ticked_valid false l x f h = absurd (Memᴰ.not-nil h)

ticks_valid : (c : Call) (r : Room) → ValidRoom r → (x : Room) → Memᴰ x (ticks c r) → HeldValid x
unfolding ticks
ticks_valid (Propose v) r i x h = absurd (Memᴰ.not-nil h)
ticks_valid (CaptureRound ws cursor rows used) r i x h =
    ticked_valid (is_ok (capture_of ws (length rows) used r cursor).told) (capture_slots ws cursor r) x
    (capture_slots_lem r i ws cursor x) h
ticks_valid (PipelineRound ws cursor rows used) r i x h =
    ticked_valid (is_ok (pipeline_of ws (length rows) used r cursor).told) (pipeline_slots ws cursor r) x
    (pipeline_slots_lem r i ws cursor x) h
ticks_valid (Read q) r i x h = absurd (Memᴰ.not-nil h)

either_of : {A B P : Type 0} → (A → P) → (B → P) → A ⊎ B → P
either_of f g (inl a) = f a
either_of f g (inr b) = g b

moments_valid : (cs : List Call) (r : Room) → ValidRoom r → (x : Room) → Memᴰ x (moments cs r) → HeldValid x
unfolding moments
moments_valid [] r i x h = rw (Memᴰ.eq_of_singleton h) i.payloads
moments_valid (c ∷ cs) r i x h =
    either_of (λ e. rw e i.payloads)
    (λ g. either_of (ticks_valid c r i x) (moments_valid cs (handed c r) (call_valid c r i) x)
    (Memᴰ.append_cases (ticks c r) g))
    (Memᴰ.cases_cons h)

-- ---- the text that a reading writes

record Written (s : List ℕ) (x : Result ℕ Refusal) (out : List ℕ) : Type 0 where
  answers : x ≡ Ok (length s)
  text : take (length s) out ≡ s

within : (p : TwoPcPacket) → ValidPipeline p → pipeline_within p ≡ true
unfolding limits
within p v =
    true_and _ _ (le-leb p.flags_bitmap.len 64 v.bitmap.at_most64)
    (le-leb p.transaction_data.len 32 v.bytes.at_most32)

written_by : (n : ℕ) (b : Bool) (q : RoundPacket) (out : List ℕ) → ValidPipeline (packet_of n q) → 758 ≤ length out
    → Written (either b (pipeline_text (packet_of n q)) []) (pipe_answer_of n b q out) (pipe_left n b q out)
unfolding pipe_answer_of pipe_left wrote_of left_of written
written_by n false q out v l = record { answers = refl; text = refl }
written_by n true q out v l =
    let t = pipeline_text (packet_of n q) in
    let none : 0 + length t ≡ length t = omega arith in
    rw (within (packet_of n q) v, le-leb (0 + length t) (length out) (omega (arith, pipeline_promises.short _ v)))
    (record { answers = cc; text = take_at t (drop (0 + length t) out) (length t) (omega arith) })

module _ (r : Room) (held : HeldValid r) where
  size : size_of r ≤ 64
  unfolding packet_of
  size = (held 0).bitmap.at_most64

  written_in : (v : ℕ) (out : List ℕ) (x : RoomKind) → x ≡ kinds.Pipeline → 758 ≤ length out
      → Written (bytes_at r v) (text_by r v out x) (left_by r v out x)
  written_in v out x e l =
      subst (λ (y : RoomKind). Written (bytes_at r v) (text_by r v out y) (left_by r v out y)) (sym e)
      (written_by (size_of r) (holds_one r v) (get_or r.pipeline.payloads v no_packet) out (held v) l)

  text_written : (v : ℕ) (out : List ℕ) → r.conf.kind ≡ kinds.Pipeline → v < size_of r → 758 ≤ length out
      → Written (bytes_at r v) (text_of r v out) (text_left r v out)
  text_written v out k h l = rw (place_held (size_of r) v h size) (written_in v out r.conf.kind k l)

  valid_texts : ValidTexts r
  valid_texts =
      record {
        valid = λ v _. held v;
        answers = λ v out k h l. (text_written v out k h l).answers;
        writes = λ v out k h l. (text_written v out k h l).text;
      }

-- ---- the statements

pub held_are_valid : HeldAreValid
held_are_valid asked e calls a h =
    valid_texts a (moments_valid calls (opened_by asked) (opened_valid asked e) a h)

pub covered_by_bytes : CoveredByBytes
unfolding same_bytes initiator_of
covered_by_bytes asked e calls words cursor rows used none =
    let r = after calls (opened_by asked) in
    let i = calls_valid calls (opened_by asked) (opened_valid asked e) in
    let c = pipeline_covers equal_bytes bytes_yes bytes_self words (length rows) used r cursor i none in
    record {
      texts = valid_texts _ (pipeline_valid r i words (length rows) used cursor).payloads;
      initiator = c.holds;
      sleepers = c.sleepers;
      covered = c.covered;
    }
