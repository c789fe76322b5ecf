-- A round of pipeline_c's entry is a call of a room, and its rounds one after the other are a list of calls. Assumes
-- nothing.
use mathlib.Core.Bool.{Bool, true, false, not}
use mathlib.Core.List.{List, [], ◌∷◌, Memᴰ}
use mathlib.Core.Path.{◌≡◌, refl, sym, ◌∙◌, ap, subst}
use Prim.Native.Nat.{ℕ, zero, suc, ◌+◌, ◌*◌, ◌%◌, ◌<◌, ◌≤◌, ◌^◌}
use native.Mathlib.Nat.{mod-lt, mod-eq_of_lt, mod-add-mod}
use native.Mathlib.Omega.{arith}
use lib.ListN.{length, take}
use Rattle.std.specs.Prelude.{Result, Ok, Err, is_ok}
use Rattle.std.specs.Result.{result_and}
use Rattle.limits.specs.Refusals.{Tested}
use Rattle.limits.specs.declared.refusals.Refusal.{Refusal}
use Rattle.loops.specs.Pick.{either}
use Rattle.loops.specs.Runs.{go}
use Rattle.loops.specs.Wrap.{add64}
use Rattle.merges.proofs.Safety.{either_cases}
use Rattle.graph.specs.Links.{size_test}
use Rattle.engines.specs.Nodes.{inc, total}
use Rattle.engines.specs.Network.{new_network}
use Rattle.engines.proofs.Sums.{new_counts, first_total}
use Rattle.engines.specs.declared.network.Network.{Network}
use Rattle.pipeline.specs.Round.{early_test, round_test, PipelineAnswer, refused_with, round_answer, round_buffer}
use Rattle.pipeline.specs.declared.pipeline.PipelineConf.{PipelineConf}
use Rattle.pipeline.specs.declared.pipeline.PipelinePart.{PipelinePart}
use Rattle.pipeline_c.specs.Console.{opened}
use Rattle.pipeline_c.specs.Play.{Playing, count_after, play_round, is_refused, play_rounds}
use Rattle.room.specs.Capturing.{new_capture}
use Rattle.room.specs.Pipelining.{pipe_conf, pipeline_test, pipeline_part, pipeline_rows}
use Rattle.room.specs.Rooms.{size_of, open_test, conf_of, new_room, opened_by, pipeline_of}
use Rattle.room.proofs.Calling.{opened_size}
use Rattle.room.specs.declared.capture_calls.CapturePart.{CapturePart}
use Rattle.room.specs.declared.room.Asked.{Asked}
use Rattle.room.specs.declared.room.Room.{Room}
use Rattle.room.specs.declared.room.RoomKind.TheVariants as kinds
use Rattle.demand.specs.Calls.{Call, handed, after, elapsed, moments}
use Rattle.demand.specs.Rounds.{round_in, rounds_in}
use Rattle.demand.proofs.Demand.{demand3}
use Rattle.room_c.specs.Rounds.{
  Turn,
  next_call,
  next_turn,
  round_calls,
  is_over,
  last_turn,
  fixed_of,
  room_of,
  turn_of,
  ahead,
  RoundsByCalls,
  PlayedRounds,
}

-- ---- one round: what a room asks before it calls the engine, the engine asks too

-- a test asked twice
twice : {A : Type 0} (t : Tested) (r : Result A Refusal) → result_and t (result_and t r) ≡ result_and t r
twice (Ok x) r = refl
twice (Err k) r = refl

module _ (conf : PipelineConf) where
  early_same : (slot : ℕ) (stop : Bool) → pipeline_test (fixed_of conf) stop slot ≡ early_test conf slot stop
  unfolding pipeline_test early_test
  early_same slot stop = twice (size_test conf.round.graph.n) _

  module _ (ws rows : List ℕ) (used : ℕ) (w : Network) (p : PipelinePart) (cursor : ℕ) where
    abbrev Round : Tested → PipelineAnswer
    Round t =
        either (is_ok t) (round_answer ws (length rows) used conf w p cursor) (refused_with t w p cursor used)

    round_same : pipeline_part ws (length rows) used (fixed_of conf) w p cursor
        ≡ round_answer ws (length rows) used conf w p cursor
    unfolding pipeline_part round_answer round_test
    round_same = rw (early_same w.slot p.stop) (by (early_test conf w.slot p.stop) refl)
      where
        by : (t : Tested) → early_test conf w.slot p.stop ≡ t → Round t ≡ round_answer ws (length rows) used conf w p cursor
        by (Ok x) e = refl
        by (Err k) e = rw e

    rows_same : pipeline_rows ws rows used (fixed_of conf) w p cursor ≡ round_buffer ws rows used conf w p cursor
    unfolding pipeline_rows round_buffer round_test
    rows_same = rw (early_same w.slot p.stop) (by (early_test conf w.slot p.stop) refl)
      where
        by : (t : Tested) → early_test conf w.slot p.stop ≡ t
            → either (is_ok t) (round_buffer ws rows used conf w p cursor) rows ≡ round_buffer ws rows used conf w p cursor
        by (Ok x) e = refl
        by (Err k) e = rw e

  turn_same : (ws : List ℕ) (c : CapturePart) (w : Playing)
      → next_turn ws (turn_of conf c w) ≡ turn_of conf c (play_round ws conf w)
  unfolding next_turn pipeline_of play_round
  turn_same ws c w =
      let t = w.played in
      rw (
        round_same ws w.rows t.used t.network t.part t.cursor,
        rows_same ws w.rows t.used t.network t.part t.cursor,
      )

-- ---- many: two loops whose states and steps go together

module _ {S T : Type 0} (stop : S → Bool) (step : S → S) (over : T → Bool) (next : T → T) (f : S → T)
    (stops : (s : S) → over (f s) ≡ stop s) (steps : (s : S) → next (f s) ≡ f (step s)) where
  go_same : (k : ℕ) (b : Bool) (s : S) → f (go stop step k b s) ≡ go over next k b (f s)
  unfolding go
  go_same zero b s = refl
  go_same (suc k) true s = refl
  go_same (suc k) false s = rw (steps s, stops (step s)) (go_same k (stop (step s)) (step s))

-- the room that a list of calls leaves is the one that the last of them answers
abbrev Leads : List ℕ → ℕ → Turn → Type 0
Leads ws k t = after (round_calls ws k t) t.answer.room ≡ (last_turn ws k t).answer.room

room_after : (ws : List ℕ) (k : ℕ) (t : Turn) → Leads ws k t
unfolding round_calls last_turn after handed next_turn go
room_after ws zero t = refl
room_after ws (suc k) t = by (room_after ws k (next_turn ws t)) (is_ok t.answer.told)
  where
    Same : List Call → Bool → Type 0
    Same cs b = after cs t.answer.room ≡ (go is_over (next_turn ws) (suc k) b t).answer.room

    by : Leads ws k (next_turn ws t) → (b : Bool)
        → Same (either b (next_call ws t ∷ round_calls ws k (next_turn ws t)) []) (not b)
    by h true = h
    by h false = refl

-- ---- how many are accepted

one_counted : (count : ℕ) (told : Tested) (m : ℕ) → add64 (count_after count told) m ≡ add64 count (either (is_ok told) 1 0 + m)
unfolding count_after
one_counted count told m = by (is_ok told)
  where
    by : (b : Bool) → add64 (either b (inc count) count) m ≡ add64 count (either b 1 0 + m)
    by true = mod-add-mod (count + 1) (2 ^ 64) m ∙ ap (λ (x : ℕ). x % 2 ^ 64) (omega arith)
    by false = ap (λ (x : ℕ). (count + x) % 2 ^ 64) (omega arith)

none_counted : {count : ℕ} → count < 2 ^ 64 → count ≡ add64 count 0
none_counted {count} h = sym (ap (λ (x : ℕ). x % 2 ^ 64) (omega arith) ∙ mod-eq_of_lt h)

count_fits : (count : ℕ) (told : Tested) → count < 2 ^ 64 → count_after count told < 2 ^ 64
unfolding count_after
count_fits count told h =
    either_cases (λ (x : ℕ). x < 2 ^ 64) (is_ok told) (λ e. mod-lt (count + 1) (omega arith)) (λ e. h)

module _ (ws : List ℕ) (conf : PipelineConf) (c : CapturePart) where
  -- those of the calls of k rounds
  abbrev accepted : ℕ → Turn → ℕ
  accepted k t = rounds_in (round_calls ws k t) t.answer.room

  abbrev Counts : ℕ → Playing → Type 0
  Counts k w = (play_rounds ws conf k w).played.count ≡ add64 w.played.count (accepted k (turn_of conf c w))

  counted : (k : ℕ) (w : Playing) → w.played.count < 2 ^ 64 → Counts k w
  unfolding play_rounds play_round round_calls rounds_in round_in handed next_turn go
  counted zero w h = none_counted h
  counted (suc k) w h =
      by (counted k v (count_fits w.played.count v.told h)) (is_ok w.told)
    where
      t : Turn
      t = turn_of conf c w

      v : Playing
      v = play_round ws conf w

      Told : ℕ → Bool → Type 0
      Told m b = (go is_refused (play_round ws conf) (suc k) b w).played.count ≡ add64 w.played.count m

      by : Counts k v → (b : Bool)
          → Told (rounds_in (either b (next_call ws t ∷ round_calls ws k (next_turn ws t)) []) t.answer.room) (not b)
      by e true =
          subst (λ (u : Turn). Told (either (is_ok u.answer.told) 1 0 + accepted k u) false)
          (sym (turn_same conf ws c w))
          (e ∙ one_counted w.played.count v.told (accepted k (turn_of conf c v)))
      by e false = none_counted h

-- ---- from an opening

opened_room : (a : Asked) → a.kind ≡ kinds.Pipeline → open_test a ≡ Ok tt
    → room_of (pipe_conf (conf_of a)) (new_capture a.term) opened ≡ opened_by a
unfolding new_room
opened_room a e z = rw e

first_moment : (calls : List Call) (r : Room) → Memᴰ r (moments calls r)
unfolding moments
first_moment [] r = Memᴰ.head refl
first_moment (c ∷ cs) r = Memᴰ.head refl

-- nothing is counted in it, and its slot is 1
not_counted : (n e : ℕ) (w : Network) → (0 < n) × (n ≤ 64) → w ≡ ahead → w.slot ≡ e → total (take n w.nodes) ≡ n * e
    → ⊥
unfolding new_network
not_counted n e w few q z t =
    let none : total (take n ahead.nodes) ≡ n * 0 = first_total ahead.nodes (new_counts n few.1) in
    let one : 1 ≡ e = sym (ap (λ (x : Network). x.slot) q) ∙ z in
    let same = ap (λ (x : Network). total (take n x.nodes)) q in
    let counts : n * 1 ≡ n * 0 = ap (λ (x : ℕ). n * x) one ∙ sym t ∙ same ∙ none in
    let some = few.0 in
    omega arith

never_ahead : (a : Asked) → a.term < 2 ^ 64 → open_test a ≡ Ok tt → (calls : List Call)
    → (after calls (opened_by a)).network ≡ ahead → ⊥
unfolding new_room
never_ahead a t z calls e =
    let r = opened_by a in
    let h = demand3 a t z calls r (first_moment calls r) in
    not_counted (size_of r) (elapsed calls r) (after calls r).network (opened_size a z) e h.slot h.counts

-- ---- the law

by_calls : (ws : List ℕ) (conf : PipelineConf) (c : CapturePart) (k : ℕ) (w : Playing) → RoundsByCalls ws conf c k w
unfolding play_rounds last_turn
by_calls ws conf c k w =
    let turns = turn_same conf ws c in
    let same = go_same is_refused (play_round ws conf) is_over (next_turn ws) (turn_of conf c) (λ v. refl) turns k _ w in
    record {
      last = same;
      room = room_after ws k (turn_of conf c w) ∙ ap (λ (t : Turn). t.answer.room) (sym same);
      count = counted ws conf c k w;
    }

pub played_rounds : PlayedRounds
played_rounds = record { rounds = by_calls; start = opened_room; beyond = never_ahead }
