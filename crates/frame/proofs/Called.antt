-- What a frame's turns do to the parts of a room is what calls do to the room. Assumes nothing.
use mathlib.Core.List.{List}
use mathlib.Core.Path.{◌≡◌, refl, sym, subst, ◌∙◌}
use mathlib.Core.Bool.{Bool, true, false}
use Prim.Native.Nat.{ℕ, zero, suc, ◌+◌, ◌%◌}
use native.Mathlib.Omega.{arith}
use lib.ListN.{replicate}
use Rattle.std.specs.Prelude.{Result, Ok, Err}
use Rattle.std.specs.Result.{result_and, result_unwrap_or}
use Rattle.limits.specs.Refusals.{Tested}
use Rattle.limits.specs.declared.refusals.Refusal.{Refusal}
use Rattle.limits.specs.Limits.{row_cells}
use Rattle.loops.specs.Pick.{either}
use Rattle.loops.specs.Upto.{upto}
use Rattle.loops.specs.Runs.{go}
use Rattle.graph.specs.declared.network.NetworkGraph.{NetworkGraph}
use Rattle.pipeline.specs.declared.pipeline.PipelinePart.{PipelinePart}
use Rattle.pipeline.specs.Round.{new_part}
use Rattle.room.specs.Capturing.{propose_part, capture_part}
use Rattle.room.specs.Pipelining.{pipeline_part}
use Rattle.room.specs.Kinds.{positions_of}
use Rattle.room.specs.Rooms.{conf_of, new_room, opened_by, with_capture, with_pipeline, propose_of, capture_of, pipeline_of}
use Rattle.room.specs.declared.room.Room.{Room}
use Rattle.room.proofs.Refusing.{refused_leaves}
use Rattle.room.specs.declared.capture_calls.CapturePart.{CapturePart}
use Rattle.frame.specs.declared.play.Playing.{Playing}
use Rattle.demand.specs.Calls.{Call, Propose, CaptureRound, PipelineRound, Read, handed, ByCalls}
use Rattle.demand.proofs.Listing.{no_calls, one_call_more}
use Rattle.frame.specs.Play.{asked_of, unless_refused, proposing, capturing, capture_turn, play_capture, pipeline_turn, pipeline_turns, is_done, new_play}
use Rattle.frame.specs.Calls.{told_of, LastCall, round_or_proposal, capture_last, pipeline_last, RefusedCall, LeadsTo, Leads, PlayedByCalls}
use Rattle.room.specs.declared.room.RoomConf.{RoomConf}
use Rattle.frame.specs.declared.line.Frame.{Frame}
use Rattle.frame.proofs.Refused.{not_ok}

-- a refused call leaves the room
stays : (c : Call) (q : Room) (k : Refusal) → told_of c q ≡ Err k → handed c q ≡ q
unfolding told_of handed
stays (Propose v) q k e = refused_leaves.propose q v (not_ok e)
stays (CaptureRound ws cursor rows used) q k e = (refused_leaves.capture ws rows used q cursor (not_ok e)).room
stays (PipelineRound ws cursor rows used) q k e = (refused_leaves.pipeline ws rows used q cursor (not_ok e)).room
stays (Read a) q k e = refl

-- a turn on a state that calls made
module _ {S : Type 0} (r : Room) (made : S → Room) where
  -- what is known of a turn's answer, by the call at which the turn ended
  abbrev Made : LastCall S → Result S Refusal → Type 0
  Made l (Ok s) = ByCalls r (made s)
  Made l (Err k) = RefusedCall r made l k

  -- a call that one test may refuse
  made_if : (t : Tested) (c : Call) (s : S) {s' : S} → t ≡ told_of c (made s) → made s' ≡ handed c (made s) → ByCalls r (made s) → Made (record { at = s; call = c }) (result_and t (Ok s'))
  made_if (Ok x) c s e h b = subst (ByCalls r) (sym h) (one_call_more c b)
  made_if (Err k) c s e h b = record { by_calls = b; told = sym e; left = stays c (made s) k (sym e) }

  module _ (turn : ℕ → S → Result S Refusal) (last : ℕ → S → LastCall S) (left : ℕ → Result S Refusal) where
    abbrev To : ℕ → Result S Refusal → Type 0
    To n q = LeadsTo r made turn last left n q

    -- a turn that is refused is still that where there are more turns
    wider : (n : ℕ) (k : Refusal) → To n (Err k) → To (suc n) (Err k)
    wider n k t =
        record { number = t.number; among = omega (arith, t.among); state = t.state; before = t.before; by_calls = t.by_calls; refused = t.refused; call = t.call }

    rests : (n : ℕ) (q : Result S Refusal) → To n q → To (suc n) q
    rests n (Ok s) b = b
    rests n (Err k) t = wider n k t

    turned : ((k : ℕ) (s : S) → ByCalls r (made s) → Made (last k s) (turn k s)) → (n : ℕ) (q : Result S Refusal) → left n ≡ q → To n q → To (suc n) (unless_refused (turn n) q)
    turned h n (Err k) e t = wider n k t
    turned h n (Ok s) e b = by (turn n s) refl (h n s b)
      where
        by : (q : Result S Refusal) → turn n s ≡ q → Made (last n s) q → To (suc n) q
        by (Ok t) f m = m
        by (Err k) f m = record { number = n; among = omega arith; state = s; before = e; by_calls = b; refused = f; call = m }

-- ---- a capture room

module _ (r : Room) (ws : List ℕ) where
  abbrev capture_room : Playing CapturePart → Room
  capture_room s = with_capture r s.network s.part

  abbrev With : LastCall (Playing CapturePart) → Result (Playing CapturePart) Refusal → Type 0
  With l q = Made r capture_room l q

  proposed : (v : ℕ) (s : Playing CapturePart) → ByCalls r (capture_room s) → With (record { at = s; call = Propose v }) (proposing r.conf v s)
  unfolding proposing handed told_of propose_of
  proposed v s b = made_if r capture_room (propose_part r.conf s.part v).told (Propose v) s refl refl b

  abbrev round : Playing CapturePart → LastCall (Playing CapturePart)
  round s = record { at = s; call = CaptureRound ws s.cursor (replicate row_cells 0) s.used }

  captured : (s : Playing CapturePart) → ByCalls r (capture_room s) → With (round s) (capturing ws r.conf s)
  unfolding capturing handed told_of capture_of
  captured s b =
      made_if r capture_room (capture_part ws row_cells s.used r.conf s.network s.part s.cursor).told (round s).call s refl refl b

  both : (k : ℕ) (s : Playing CapturePart) → ByCalls r (capture_room s) → With (capture_last ws r.conf k s) (capture_turn ws r.conf k s)
  unfolding capture_turn
  both k s b = by (proposing r.conf (k % positions_of r.conf) s) (proposed (k % positions_of r.conf) s b)
    where
      by : (q : Result (Playing CapturePart) Refusal) → With (record { at = s; call = Propose (k % positions_of r.conf) }) q
          → With (record { at = result_unwrap_or q s; call = round_or_proposal ws (k % positions_of r.conf) q }) (unless_refused (capturing ws r.conf) q)
      by (Ok t) w = captured t w
      by (Err e) w = w

-- ---- a pipeline room

module _ (r : Room) (ws : List ℕ) where
  abbrev pipeline_room : Playing PipelinePart → Room
  pipeline_room s = with_pipeline r s.network s.part

  ran : (k : ℕ) (s : Playing PipelinePart) → ByCalls r (pipeline_room s) → Made r pipeline_room (pipeline_last ws k s) (pipeline_turn ws r.conf s)
  unfolding pipeline_turn handed told_of pipeline_of
  ran k s b =
      made_if r pipeline_room (pipeline_part ws row_cells s.used r.conf s.network s.part s.cursor).told (pipeline_last ws k s).call s refl refl b

-- ---- from the room as opened

-- an accepted frame's room
opened : (f : Frame) (g : NetworkGraph) → opened_by (asked_of f g) ≡ new_room (conf_of (asked_of f g)) 0
unfolding asked_of
opened f g = refl

-- one step more of a loop with an early exit
module _ {S : Type 0} (stop : S → Bool) (step : S → S) where
  go_more : (k : ℕ) (s : S) → go stop step (suc k) (stop s) s ≡ either (stop (go stop step k (stop s) s)) (go stop step k (stop s) s) (step (go stop step k (stop s) s))
  unfolding go
  go_more zero s = by (stop s) refl
    where
      by : (b : Bool) → stop s ≡ b → go stop step 1 b s ≡ either (stop s) s (step s)
      by true e = rw e
      by false e = rw e
  go_more (suc k) s = by (stop s) refl (go_more k (step s))
    where
      by : (b : Bool) → stop s ≡ b
          → go stop step (suc k) (stop (step s)) (step s) ≡ either (stop (go stop step k (stop (step s)) (step s))) (go stop step k (stop (step s)) (step s)) (step (go stop step k (stop (step s)) (step s)))
          → go stop step (suc (suc k)) b s ≡ either (stop (go stop step (suc k) b s)) (go stop step (suc k) b s) (step (go stop step (suc k) b s))
      by true e ih = rw e
      by false e ih = ih

module _ (conf : RoomConf) (ws : List ℕ) where
  abbrev start : Room
  start = new_room conf 0

  proposals : (n : ℕ) → Leads start (capture_room start ws) (capture_turn ws conf) (capture_last ws conf) (λ k. play_capture k ws conf) n
  unfolding play_capture upto new_room
  proposals zero = no_calls start
  proposals (suc n) =
      turned start (capture_room start ws) (capture_turn ws conf) (capture_last ws conf) (λ k. play_capture k ws conf) (both start ws) n (play_capture n ws conf) refl (proposals n)

  abbrev Next : ℕ → Result (Playing PipelinePart) Refusal → Type 0
  Next n q = LeadsTo start (pipeline_room start ws) (λ k. pipeline_turn ws conf) (pipeline_last ws) (λ k. pipeline_turns ws conf k) n q

  more : (n : ℕ) → pipeline_turns ws conf (suc n) ≡ either (is_done (pipeline_turns ws conf n)) (pipeline_turns ws conf n) (unless_refused (pipeline_turn ws conf) (pipeline_turns ws conf n))
  more n = go_more is_done (unless_refused (pipeline_turn ws conf)) n (Ok (new_play new_part))

  rounds : (n : ℕ) → Leads start (pipeline_room start ws) (λ k. pipeline_turn ws conf) (pipeline_last ws) (λ k. pipeline_turns ws conf k) n
  unfolding go new_room
  rounds zero = no_calls start
  rounds (suc n) = by (is_done (pipeline_turns ws conf n)) refl (rounds n)
    where
      by : (b : Bool) → is_done (pipeline_turns ws conf n) ≡ b → Next n (pipeline_turns ws conf n) → Next (suc n) (pipeline_turns ws conf (suc n))
      by true e l = subst (Next (suc n)) (sym (more n ∙ rw e)) (rests start (pipeline_room start ws) (λ k. pipeline_turn ws conf) (pipeline_last ws) (λ k. pipeline_turns ws conf k) n (pipeline_turns ws conf n) l)
      by false e l = subst (Next (suc n)) (sym (more n ∙ rw e)) (turned start (pipeline_room start ws) (λ k. pipeline_turn ws conf) (pipeline_last ws) (λ k. pipeline_turns ws conf k) (ran start ws) n (pipeline_turns ws conf n) refl l)

pub played_by_calls : PlayedByCalls
played_by_calls =
    record {
      capture = λ f g ws e.
          let conf = conf_of (asked_of f g) in
          subst (λ (o : Room). Leads o (capture_room o ws) (capture_turn ws conf) (capture_last ws conf) (λ k. play_capture k ws conf) f.transactions) (sym (opened f g)) (proposals conf ws f.transactions);
      pipeline = λ f g ws e.
          let conf = conf_of (asked_of f g) in
          subst (λ (o : Room). Leads o (pipeline_room o ws) (λ k. pipeline_turn ws conf) (pipeline_last ws) (λ k. pipeline_turns ws conf k) (f.transactions + 1002)) (sym (opened f g)) (rounds conf ws (f.transactions + 1002));
    }
