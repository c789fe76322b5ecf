-- The entry's calls are a list of the room's calls, and what each tells stays. Assumes nothing.
use mathlib.Core.Bool.{Bool, false}
use mathlib.Core.List.{List, [], ◌∷◌, ◌++◌}
use mathlib.Core.Path.{◌≡◌, refl, sym, ap, ◌∙◌}
use Prim.Native.Nat.{ℕ, zero, suc, ◌+◌, ◌*◌, ◌/◌, ◌<◌, ◌≤◌}
use native.Mathlib.Nat.{add-zero}
use native.Mathlib.Omega.{arith}
use lib.Dec.{ltb}
use lib.Ieee.{Float}
use lib.ListN.{length, get_or}
use lib.Seq.{sets}
use Rattle.loops.specs.Upto.{upto}
use Rattle.merges.proofs.Safety.{either_cases}
use Rattle.packets.specs.declared.Data.{Data}
use Rattle.pipeline.specs.Pipeline.{data_of}
use Rattle.room.specs.declared.room.Room.{Room}
use Rattle.engines.specs.Metrics.{link_pdr_of, flood_coverage_of}
use Rattle.std.specs.Prelude.{Option, None, Some, Ok, Err}
use Rattle.std.specs.Result.{result_and, result_unwrap_or}
use Rattle.limits.specs.Refusals.{Tested}
use Rattle.pipeline.specs.declared.two_pc_pipeline.LogEntry.{LogEntry}
use Rattle.readings.specs.Calls.{
  Reading,
  kind,
  num_nodes,
  settings,
  slot,
  next_row,
  bytes_sent,
  metrics,
  link_pdr,
  flood_coverage,
  term,
  round,
  stopped,
  initiator,
  proposal_outcome,
  node,
  packet_text,
  log_len,
  log_entry,
  pending,
  «record»,
  a_ratio,
  answer_of,
}
use Rattle.readings.specs.Readings.{of_pipeline, state_at, log_entry_of, pending_in, pending_of, record_of}
use Rattle.readings.specs.declared.readings.PendingReading.{PendingReading}
use Rattle.readings.specs.declared.readings.RecordReading.{RecordReading}
use Rattle.demand.specs.Calls.{Call, Propose, CaptureRound, PipelineRound, Read, handed, after}
use Rattle.room_c.specs.Answers.{entry_numbers, record_numbers, nothing_held, no_record, Said, plain, said, told_in}
use Rattle.room_c.specs.Console.{numbers_each, floats_each, Calling, call_at, call_said, called, turn, play_first, play}
use Rattle.room_c.specs.Calls.{call_in, listed, calls_in, room_in, said_in, PlayedByCalls}
use Rattle.room_c.proofs.Putting.{put_stays}

-- ---- the room

after_more : (cs ds : List Call) (r : Room) → after (cs ++ ds) r ≡ after ds (after cs r)
unfolding after
after_more [] ds r = refl
after_more (c ∷ cs) ds r = after_more cs ds (handed c r)

-- one call or none
made : (i : ℕ) (c : Option Call) (w : Calling) → (called i c w).room ≡ after (listed c) w.room
unfolding called after
made i None w = refl
made i (Some c) w = refl

led : (ws calls : List ℕ) (w : Calling) (k : ℕ) → (play_first k ws calls w).room ≡ room_in ws calls w k
unfolding play_first upto calls_in after
led ws calls w zero = refl
led ws calls w (suc k) =
    let c = call_in ws calls w k in
    made k c (play_first k ws calls w) ∙ ap (after (listed c)) (led ws calls w k)
    ∙ sym (after_more (calls_in ws calls w k) (listed c) w.room)

-- ---- no call tells more than its places hold

abbrev Full : Data → Type 0
Full x = length x.bytes ≡ 32

data_full : (fresh : Bool) (t : ℕ) → Full (data_of fresh t)
unfolding data_of
data_full fresh t = either_cases Full fresh (λ e. either_cases Full (ltb t 10) (λ e. refl) (λ e. refl)) (λ e. refl)

-- what stands in an answer, or behind a refusal
unwrapped : {A : Type 0} (P : A → Type 0) (t : Tested) (x y : A) → P x → P y → P (result_unwrap_or (result_and t (Ok x)) y)
unwrapped P (Ok u) x y p q = p
unwrapped P (Err k) x y p q = q

pending_full : (r : Room) (v t : ℕ) → Full (result_unwrap_or (pending_of r v t) nothing_held).«data»
unfolding pending_in
pending_full r v t =
    unwrapped (λ (q : PendingReading). Full q.«data») (of_pipeline r v) (pending_in r.pipeline (state_at r v) t) nothing_held
    (data_full _ t) (data_full false 0)

few_entry : (e : Option LogEntry) → length (entry_numbers e) ≤ 3
few_entry None = omega arith
few_entry (Some e) = omega arith

few_record : (x : RecordReading) → length (record_numbers x) ≤ 39
few_record x = by x.entry
  where
    by : (e : Option LogEntry) → length (entry_numbers e ++ x.start ∷ x.end ∷ []) ≤ 39
    by None = omega arith
    by (Some e) = omega arith

-- 39 numbers behind the refusal, and two floats
pub record Few (s : Said) : Type 0 where
  pub numbers : length s.numbers ≤ 39
  pub floats : length s.floats ≤ 2

few : {k : ℕ} {xs : List ℕ} → length xs ≤ 39 → Few (plain k xs)
few h = record { numbers = h; floats = omega arith }

few_ratio : (x : Option Float) → Few (said (a_ratio x))
unfolding said
few_ratio None = record { numbers = omega arith; floats = omega arith }
few_ratio (Some x) = record { numbers = omega arith; floats = omega arith }

few_read : (q : Reading) (r : Room) → Few (said (answer_of q r))
unfolding said answer_of
few_read kind r = few (omega arith)
few_read num_nodes r = few (omega arith)
few_read settings r = record { numbers = omega arith; floats = omega arith }
few_read slot r = few (omega arith)
few_read next_row r = few (omega arith)
few_read bytes_sent r = few (omega arith)
few_read metrics r = few (omega arith)
few_read link_pdr r = few_ratio (link_pdr_of r.network.metrics)
few_read flood_coverage r = few_ratio (flood_coverage_of r.network.metrics)
few_read term r = few (omega arith)
few_read round r = few (omega arith)
few_read stopped r = few (omega arith)
few_read initiator r = few (omega arith)
few_read proposal_outcome r = few (omega arith)
few_read (node v) r = few (omega arith)
few_read (packet_text v out) r = record { numbers = omega arith; floats = omega arith }
few_read (log_len v) r = few (omega arith)
few_read (log_entry v k) r = few (omega (arith, few_entry (result_unwrap_or (log_entry_of r v k) None)))
few_read (pending v t) r = few (omega (arith, pending_full r v t))
few_read («record» k) r = few (few_record (result_unwrap_or (record_of r k) no_record))

few_call : (c : Option Call) (r : Room) → Few (said_in c r)
unfolding said_in call_said
few_call None r = few (omega arith)
few_call (Some (Propose v)) r = few (omega arith)
few_call (Some (CaptureRound ws cursor rows used)) r = few (omega arith)
few_call (Some (PipelineRound ws cursor rows used)) r = few (omega arith)
few_call (Some (Read q)) r = few_read q r

-- ---- what is told

put_numbers : (i : ℕ) (c : Option Call) (w : Calling)
    → (called i c w).told ≡ sets w.told (i * numbers_each) (told_in (said_in c w.room))
unfolding called said_in
put_numbers i None w = refl
put_numbers i (Some c) w = refl

put_floats : (i : ℕ) (c : Option Call) (w : Calling)
    → (called i c w).floats ≡ sets w.floats (i * floats_each) (said_in c w.room).floats
unfolding called said_in
put_floats i None w = refl
put_floats i (Some c) w = refl

module _ (ws calls : List ℕ) (w : Calling) where
  abbrev said_at : ℕ → Calling → Said
  said_at i v = said_in (call_at ws calls i v) v.room

  -- in the room that the list of calls leads to
  abbrev said_of : ℕ → Said
  said_of i = said_in (call_in ws calls w i) (room_in ws calls w i)

  same_said : (i : ℕ) → said_at i (play_first i ws calls w) ≡ said_of i
  same_said i = ap (said_in (call_in ws calls w i)) (led ws calls w i)

  abbrev count : ℕ
  count = length calls / 4

  numbers_stay : (i k : ℕ) → i < count → i * numbers_each + k < length w.told → k < length (told_in (said_of i))
      → get_or (play ws calls w).told (i * numbers_each + k) 0 ≡ get_or (told_in (said_of i)) k 0
  unfolding play_first
  numbers_stay i k h g l =
      let e = same_said i in
      put_stays (turn ws calls) (λ v. v.told) (λ j v. told_in (said_at j v)) (λ j. j * numbers_each)
      (λ j v. put_numbers j (call_at ws calls j v) v)
      (λ a b v h. omega (arith, (few_call (call_at ws calls a v) v.room).numbers))
      count i k 0 w h g (rw e l) ∙ ap (λ (x : Said). get_or (told_in x) k 0) e

  floats_stay : (i k : ℕ) (d : Float) → i < count → i * floats_each + k < length w.floats → k < length (said_of i).floats
      → get_or (play ws calls w).floats (i * floats_each + k) d ≡ get_or (said_of i).floats k d
  unfolding play_first
  floats_stay i k d h g l =
      let e = same_said i in
      put_stays (turn ws calls) (λ v. v.floats) (λ j v. (said_at j v).floats) (λ j. j * floats_each)
      (λ j v. put_floats j (call_at ws calls j v) v)
      (λ a b v h. omega (arith, (few_call (call_at ws calls a v) v.room).floats))
      count i k d w h g (rw e l) ∙ ap (λ (x : Said). get_or x.floats k d) e

pub played_by_calls : (ws calls : List ℕ) (w : Calling) → PlayedByCalls ws calls w
played_by_calls ws calls w =
    record {
      room = led ws calls w (length calls / 4);
      refusals = λ i h g. rw add-zero at (numbers_stay ws calls w i 0 h (rw add-zero g) (omega arith));
      numbers = numbers_stay ws calls w;
      floats = floats_stay ws calls w;
    }
