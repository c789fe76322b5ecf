-- RULES 10.11: a room of t transactions accepts at most t + 1002 rounds, since
-- the round in which it stops is the last one. Assumes nothing.
use Rattle.std.proofs.Common.{◌≡◌, ℕ, ◌+◌, ◌/◌, ◌≤◌, Bool, true, false, ◌&&◌, ◌||◌, ltb, leb, Ok, List, length, refl, sym, subst, arith, ltb-false}
use Rattle.std.specs.Result.{is_ok}
use Rattle.loops.specs.Pick.{either}
use Rattle.limits.specs.Refusals.{Tested}
use Rattle.limits.proofs.Tests.{ok_told}
use Rattle.pipeline.specs.Pipeline.{stops_at}
use Rattle.pipeline.specs.Round.{size_of, next_round, close_round, run_round, rows_of_round, early_test, start_draw, round_test, refused_with, accepted_with, round_answer}
use Rattle.pipeline.specs.declared.pipeline.PipelineConf.{PipelineConf}
use Rattle.pipeline.specs.declared.pipeline.PipelinePart.{PipelinePart}
use Rattle.pipeline.specs.declared.pipeline.RoundRun.{RoundRun}
use Rattle.engines.specs.declared.network.Network.{Network}
use Rattle.engines.specs.declared.words.Draw.{Draw}
use Rattle.pipeline.proofs.Rounding.{early_going, refusal_none}

-- k rounds were accepted: the room has stopped, or its round number is k
abbrev pub Spent : ℕ → ℕ → Bool → ℕ → Type 0
Spent t k true r = k ≤ t + 1002
Spent t k false r = (k ≡ r) × (r ≤ t + 1001)

pub spent_few : (t k : ℕ) (stop : Bool) (r : ℕ) → Spent t k stop r → k ≤ t + 1002
spent_few t k true r h = h
spent_few t k false r h = omega (arith, h.0, h.1)

-- 1 for a round that is accepted
abbrev pub accepted : Tested → ℕ
accepted told = either (is_ok told) 1 0

pub spent_refused : (t k : ℕ) (stop : Bool) (r : ℕ) (m : Tested) → is_ok m ≡ false → Spent t k stop r → Spent t (k + accepted m) stop r
spent_refused t k true r m e h = rw e (omega (arith, h))
spent_refused t k false r m e h = rw e (omega (arith, h.0), h.1)

second : (a b : Bool) → (a || b) ≡ false → b ≡ false
second true b h = absurd (let z : ◌≡◌ {A = ℕ} 0 1 = cc in omega arith)
second false b h = h

-- the room stops at the latest in round t + 1001
closing : (t done counter r k : ℕ) → t ≤ 64 → k ≡ r → r ≤ t + 1001 → Spent t (k + 1) (stops_at t done counter r) (next_round (stops_at t done counter r) r)
unfolding stops_at
closing t done counter r k s e l = by (stops_at t done counter r) refl
  where
    by : (b : Bool) → stops_at t done counter r ≡ b → Spent t (k + 1) b (next_round b r)
    by true q = omega (arith, e, l)
    by false q =
        let g = ltb-false (t + 1000) r (second (leb t done && leb t counter) (ltb (t + 1000) r) q) in
        (omega (arith, g, s, e), omega (arith, g, s))

-- a room that has stopped is refused
going : (conf : PipelineConf) (slot : ℕ) (stop : Bool) → early_test conf slot stop ≡ Ok tt → stop ≡ false
going conf slot true h = sym (early_going conf slot true h)
going conf slot false h = refl

-- one round, by how it closes
run_spent : (ws : List ℕ) (conf : PipelineConf) (w : Network) (p : PipelinePart) (d : Draw) (k : ℕ) → conf.transactions ≤ 64 → k ≡ p.round → p.round ≤ conf.transactions + 1001
    → Spent conf.transactions (k + 1) (run_round ws conf w p d).part.stop (run_round ws conf w p d).part.round
unfolding run_round close_round
run_spent ws conf w p d k s e l = closing conf.transactions _ _ p.round k s e l

-- a call of a room, refused or not
pub answer_spent : (ws : List ℕ) (numbers used : ℕ) (conf : PipelineConf) (w : Network) (p : PipelinePart) (cursor k : ℕ) → conf.transactions ≤ 64
    → Spent conf.transactions k p.stop p.round
    → let a = round_answer ws numbers used conf w p cursor in Spent conf.transactions (k + accepted a.told) a.part.stop a.part.round
unfolding round_answer
answer_spent ws numbers used conf w p cursor k s h = by (is_ok told) refl
  where
    t : ℕ
    t = conf.transactions

    told : Tested
    told = round_test ws numbers used conf w p cursor

    x : RoundRun
    x = run_round ws conf w p (start_draw cursor)

    ran : p.stop ≡ false → Spent t (k + 1) x.part.stop x.part.round
    ran g = let v : Spent t k false p.round = subst (λ (b : Bool). Spent t k b p.round) g h in run_spent ws conf w p (start_draw cursor) k s v.0 v.1

    by : (b : Bool) → is_ok told ≡ b
        → let a = either b (accepted_with (used + length (rows_of_round ws conf w p (start_draw cursor)) / 5) x) (refused_with told w p cursor used) in Spent t (k + accepted a.told) a.part.stop a.part.round
    by true e = ran (going conf w.slot p.stop (refusal_none ws numbers used conf w p cursor (ok_told told e)).0)
    by false e = spent_refused t k p.stop p.round told e h
