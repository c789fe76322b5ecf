-- How many pipeline rounds a room has accepted, as opened and after each call: what each does to the round number. Assumes nothing.
use Rattle.std.proofs.Common.{◌≡◌, ℕ, ◌+◌, ◌≤◌, false, not, ◌&&◌, eqb, leb, Ok, List, refl, subst, arith, leb-true}
use Rattle.std.specs.Result.{is_ok}
use Rattle.limits.specs.Limits.{transactions}
use Rattle.limits.specs.Refusals.{Tested, holds_or}
use Rattle.limits.specs.declared.refusals.Refusal.TheVariants.{BadLoss, NoRepeats, NoInterval, ManyTransactions}
use Rattle.limits.proofs.Tests.{held, second_held}
use Rattle.graph.specs.Links.{graph_test}
use Rattle.merges.proofs.Safety.{either_cases}
use Rattle.engines.specs.Settings.{loss_accepted}
use Rattle.pipeline.specs.Round.{new_part, PipelineAnswer}
use Rattle.engines.specs.declared.network.Network.{Network}
use Rattle.pipeline.specs.declared.pipeline.PipelinePart.{PipelinePart}
use Rattle.pipeline.proofs.Ending.{Spent, spent_few, accepted, spent_refused, answer_spent}
use Rattle.room.specs.declared.room.Room.{Room}
use Rattle.room.specs.declared.room.RoomConf.{RoomConf}
use Rattle.room.specs.declared.room.Asked.{Asked}
use Rattle.room.specs.Kinds.{is_pipeline}
use Rattle.room.specs.Pipelining.{pipe_conf, pipeline_test, pipeline_part}
use Rattle.room.specs.Rooms.{open_test, new_room, opened_by, propose_of, RoundAnswer, capture_of, pipeline_of}

-- a room of at most t transactions, within the limits, that has accepted k rounds
pub record Within (t k : ℕ) (r : Room) : Type 0 where
  pub transactions : r.conf.transactions ≤ t
  pub bounded : r.conf.transactions ≤ 64
  pub spent : Spent r.conf.transactions k r.pipeline.stop r.pipeline.round

-- such rooms are few rounds old
pub within_few : {t k : ℕ} {r : Room} → Within t k r → k ≤ t + 1002
within_few {t} {k} {r} w = omega (arith, w.transactions, spent_few r.conf.transactions k r.pipeline.stop r.pipeline.round w.spent)

-- one that goes on has a round left
pub spent_going : (t k r : ℕ) → Spent t k false r → k ≤ t + 1001
spent_going t k r s = omega (arith, s.0, s.1)

pub more : {t k : ℕ} {r : Room} → Within t k r → Within t (k + 0) r
more {t} {k} {r} w = subst (λ (j : ℕ). Within t j r) (none k) w
  where
    none : (j : ℕ) → j ≡ j + 0
    none j = omega arith

-- a round on the parts of a room counts if it is accepted
pub part_spent : (ws : List ℕ) (numbers used : ℕ) (c : RoomConf) (w : Network) (p : PipelinePart) (cursor k : ℕ) → c.transactions ≤ 64 → Spent c.transactions k p.stop p.round
    → Spent c.transactions (k + accepted (pipeline_part ws numbers used c w p cursor).told) (pipeline_part ws numbers used c w p cursor).part.stop (pipeline_part ws numbers used c w p cursor).part.round
unfolding pipeline_part
part_spent ws numbers used c w p cursor k bounded s =
    either_cases (λ (a : PipelineAnswer). Spent c.transactions (k + accepted a.told) a.part.stop a.part.round) (is_ok early)
    (λ e. answer_spent ws numbers used (pipe_conf c) w p cursor k bounded s)
    (λ e. spent_refused c.transactions k p.stop p.round early e s)
  where
    early : Tested
    early = pipeline_test c p.stop w.slot

module _ (t k : ℕ) (r : Room) (w : Within t k r) where
  -- the calls of a capture room leave the part of a pipeline
  pub propose_within : (v : ℕ) → Within t (k + 0) (propose_of r v).room
  unfolding propose_of
  propose_within v = let x = more w in record { transactions = x.transactions; bounded = x.bounded; spent = x.spent }

  pub capture_within : (ws : List ℕ) (numbers used cursor : ℕ) → Within t (k + 0) (capture_of ws numbers used r cursor).room
  unfolding capture_of
  capture_within ws numbers used cursor = let x = more w in record { transactions = x.transactions; bounded = x.bounded; spent = x.spent }

  abbrev pub After : RoundAnswer → Type 0
  After a = Within t (k + accepted a.told) a.room

  pub pipeline_within : (ws : List ℕ) (numbers used cursor : ℕ) → After (pipeline_of ws numbers used r cursor)
  unfolding pipeline_of
  pipeline_within ws numbers used cursor =
      record { transactions = w.transactions; bounded = w.bounded; spent = part_spent ws numbers used r.conf r.network r.pipeline cursor k w.bounded w.spent }

-- ---- the opening

-- an accepted opening has few transactions
pub few_transactions : (a : Asked) → open_test a ≡ Ok tt → a.transactions ≤ 64
unfolding open_test
few_transactions a e =
    let loss = second_held (graph_test a.graph) _ tt e in
    let repeats = second_held (holds_or (loss_accepted a.settings.loss_rate) BadLoss) _ tt loss in
    let interval = second_held (holds_or (not (is_pipeline a.kind && eqb a.settings.flood_repeats 0)) NoRepeats) _ tt repeats in
    let many = second_held (holds_or (not (eqb a.interval 0)) NoInterval) _ tt interval in
    leb-true a.transactions transactions (held (leb a.transactions transactions) ManyTransactions many)

pub opened_within : (a : Asked) → a.transactions ≤ 64 → Within a.transactions 0 (opened_by a)
unfolding new_room new_part
opened_within a few = record { transactions = omega arith; bounded = few; spent = (refl, omega arith) }
