-- RULES 11.14. What the outcome of a proposal tells, over lists of a room's calls. Assumes nothing: these are
-- statements. They are proved in proofs/Outcomes.antt.
use Rattle.std.specs.Prelude.{◌≡◌, ℕ, ◌<◌, ◌^◌, Ok}
use mathlib.Core.List.{List, Memᴰ}
use Rattle.packets.specs.declared.TwoPcPhase.TheVariants as phases
use Rattle.merges.specs.declared.merging.ProposalOutcome.{ProposalOutcome}
use Rattle.merges.specs.declared.merging.ProposalOutcome.TheVariants.{Committed, Aborted}
use Rattle.room.specs.declared.room.RoomKind.TheVariants as kinds
use Rattle.room.specs.declared.room.Room.{Room}
use Rattle.room.specs.declared.room.Asked.{Asked}
use Rattle.room.specs.Rooms.{size_of, open_test, opened_by}
use Rattle.readings.specs.Readings.{outcome_read}
use Rattle.demand.specs.Calls.{Call, after, moments}
use Rattle.demand.specs.Demand.{HoldsPhase}

-- the reading of a capture room's outcome answers f, and the room's present term is t
pub record HasOutcome (r : Room) (t : ℕ) (f : ProposalOutcome) : Type 0 where
  pub reading : outcome_read r ≡ Ok f
  pub term : r.capture.term ≡ t

-- a is any moment and b the end of the list. Who holds what is told by the texts, as in demand 3.
pub record OutcomeHolds (a b : Room) : Type 0 where
  -- a capture room always has an outcome
  pub answers : a.conf.kind ≡ kinds.Capture → (f : ProposalOutcome) × HasOutcome a a.capture.term f
  -- an abort is somebody's, and somebody's abort is one
  pub somebody : (t : ℕ) → HasOutcome a t Aborted → (v : ℕ) × HoldsPhase a v t phases.Aborted
  pub aborts : (v t : ℕ) (f : ProposalOutcome) → HoldsPhase a v t phases.Aborted → HasOutcome a t f → f ≡ Aborted
  -- a commit is everybody's, and everybody's commit is one
  pub everybody : (v t : ℕ) → HasOutcome a t Committed → v < size_of a → HoldsPhase a v t phases.Committed
  pub commits : (t : ℕ) (f : ProposalOutcome) → ((v : ℕ) → v < size_of a → HoldsPhase a v t phases.Committed)
      → HasOutcome a t f → f ≡ Committed
  -- a proposal that a position has committed, now or ever, is not listed as aborted
  pub spared : (v t : ℕ) → HoldsPhase a v t phases.Committed → HasOutcome b t Aborted → ⊥
  -- both stay until the next proposal, which has a higher term
  pub commit_stays : (t : ℕ) (f : ProposalOutcome) → HasOutcome a t Committed → HasOutcome b t f → f ≡ Committed
  pub abort_stays : (t : ℕ) (f : ProposalOutcome) → HasOutcome a t Aborted → HasOutcome b t f → f ≡ Aborted

-- For every accepted opening, every list of calls and every earlier moment.
abbrev pub OutcomesHold : Type 0
OutcomesHold =
    (asked : Asked) → asked.term < 2 ^ 64 → open_test asked ≡ Ok tt
    → (calls : List Call) (a : Room) → Memᴰ a (moments calls (opened_by asked))
    → OutcomeHolds a (after calls (opened_by asked))

-- Whichever two lists of calls are made on one opening, no moment of the one has a term committed that a moment of the
-- other has aborted. The two lists may be the same.
abbrev pub OneOutcome : Type 0
OneOutcome =
    (asked : Asked) → asked.term < 2 ^ 64 → open_test asked ≡ Ok tt
    → (xs ys : List Call) (a b : Room) → Memᴰ a (moments xs (opened_by asked)) → Memᴰ b (moments ys (opened_by asked))
    → (t : ℕ) → HasOutcome a t Committed → HasOutcome b t Aborted → ⊥
