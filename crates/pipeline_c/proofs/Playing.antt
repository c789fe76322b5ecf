-- Rounds one after the other: the test that ends them, and what is left of the numbers that were lent for them.
use Rattle.std.proofs.Common.{◌≡◌, ℕ, ◌+◌, ◌-◌, ◌<◌, ◌≤◌, not, Ok, Err, List, sym, ap, ◌∙◌, arith, eq-eqb, ne_eqb}
use native.Mathlib.Decide.{dec_lt}
use Rattle.loops.specs.Runs.{runs, runs_none, runs_stop, runs_turn}
use Rattle.limits.specs.declared.refusals.Refusal.{Refusal}
use Rattle.pipeline.specs.declared.pipeline.PipelineConf.{PipelineConf}
use Rattle.pipeline_c.specs.Play.{Playing, is_refused, play_round}
use Rattle.pipeline_c.specs.Console.{put_played, left_in}
use Rattle.pipeline_c.specs.declared.rounds.Played.{Played}

-- the rounds that are left: none, none behind a refusal, and one less
module _ (ws : List ℕ) (conf : PipelineConf) (n i : ℕ) (w v : Playing) (e : runs is_refused (play_round ws conf) (n - i) w ≡ v) where
  pub played_none : n ≤ i → w ≡ v
  played_none b = runs_none _ _ {k = n - i} (omega arith) e

  pub played_turn : {u : Playing} → i < n → w.told ≡ Ok tt → u ≡ play_round ws conf w → runs is_refused (play_round ws conf) (n - (i + 1)) u ≡ v
  played_turn {u} b r t =
      let k : n - (i + 1) ≡ n - i - 1 = omega arith in
      rw k (runs_turn is_refused (play_round ws conf) {k = n - i} (omega arith) (rw r) t e)

-- a round that is refused is the last
pub played_stop : (ws : List ℕ) (conf : PipelineConf) (n i : ℕ) (w v : Playing) → runs is_refused (play_round ws conf) (n - i) w ≡ v
    → {u : Playing} {k : Refusal} → i < n → w.told ≡ Ok tt → u ≡ play_round ws conf w → u.told ≡ Err k → u ≡ v
played_stop ws conf n i w v e {u} b r t h = by (dec_lt (i + 1) n)
  where
    next : runs is_refused (play_round ws conf) (n - (i + 1)) u ≡ v
    next = played_turn ws conf n i w v e b r t

    by : Dec (i + 1 < n) → u ≡ v
    by (yes l) = runs_stop is_refused (play_round ws conf) {k = n - (i + 1)} (omega arith) (rw h) next
    by (no l) = runs_none is_refused (play_round ws conf) {k = n - (i + 1)} (omega arith) next

left_none : (t : Played) (xs : List ℕ) → t.count ≡ 0 → xs ≡ left_in t xs
unfolding left_in
left_none t xs z = rw (eq-eqb t.count 0 z)

left_some : (t : Played) (xs : List ℕ) → (t.count ≡ 0 → ⊥) → put_played t xs ≡ left_in t xs
unfolding left_in
left_some t xs z = rw (ne_eqb t.count 0 z)

-- no round was accepted
pub entered_none : {w x : Playing} (xs : List ℕ) → w ≡ x → w.played.count ≡ 0 → xs ≡ left_in x.played xs
entered_none {w} xs e z = rw (← e) (left_none w.played xs z)

-- one was
pub entered_some : {w x : Playing} {ys : List ℕ} (xs : List ℕ) → w ≡ x → (w.played.count ≡ 0 → ⊥) → ys ≡ put_played w.played xs → ys ≡ left_in x.played xs
entered_some {w} xs e z p = rw (← e) (p ∙ left_some w.played xs z)
