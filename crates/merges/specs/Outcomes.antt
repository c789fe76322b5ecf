-- RULES 6.7. What each outcome says of the positions; and the outcome beside that of the original program. Assumes
-- nothing: these are statements. They are proved in proofs/Outcomes.antt.
use Rattle.std.specs.Prelude.{◌≡◌, ℕ, ◌<◌, ◌≤◌, ◌&&◌, List, get_or, nat_eq, nat_lt, slice_index_or}
use Rattle.limits.specs.Limits.{positions}
use Rattle.loops.specs.Pick.{either}
use Rattle.marks.specs.Marks.{any_of, all_of}
use Rattle.packets.specs.declared.TwoPcPhase.{TwoPcPhase}
use Rattle.packets.specs.declared.TwoPcPhase.TheVariants as phases
use Rattle.merges.specs.Merging.{standing_of, no_payload, outcome_of}
use Rattle.merges.specs.declared.merging.ProposalOutcome.{ProposalOutcome}
use Rattle.merges.specs.declared.merging.ProposalOutcome.TheVariants.{Committed, Aborted, TimedOut}
use Rattle.merges.specs.declared.merging.Held.TheVariants.{Packet}
use Rattle.merges.specs.declared.merging.Payload.{Payload}

-- what position i holds is a packet of phase f
pub record InPhase (f : TwoPcPhase) (ls : List Payload) (i : ℕ) : Type 0 where
  pub held : (get_or ls i no_payload).held ≡ Packet
  pub phase : (get_or ls i no_payload).packet.phase ≡ f

-- Aborted exactly if one of the n positions is, Committed exactly if there are positions and all are. So TimedOut is
-- all the rest.
pub record OutcomeSays (n : ℕ) (ls : List Payload) : Type 0 where
  pub somebody : outcome_of n ls ≡ Aborted → (i : ℕ) × (i < n) × InPhase phases.Aborted ls i
  pub aborts : (i : ℕ) → i < n → InPhase phases.Aborted ls i → outcome_of n ls ≡ Aborted
  pub everybody : outcome_of n ls ≡ Committed → (0 < n) × ((i : ℕ) → i < n → InPhase phases.Committed ls i)
  pub commits : 0 < n → ((i : ℕ) → i < n → InPhase phases.Committed ls i) → outcome_of n ls ≡ Committed

abbrev pub OutcomesSay : Type 0
OutcomesSay = (n : ℕ) (ls : List Payload) → n ≤ positions → OutcomeSays n ls

-- The original program's outcome, in its own order: it looks at n payloads, and calls a deadline an abort.
unfoldable pub original_outcome : ℕ → List Payload → ProposalOutcome
original_outcome n ls =
    either (any_of n (λ i. nat_eq (standing_of (slice_index_or ls i no_payload)) 3)) Aborted
    (either (all_of n (λ i. nat_eq (standing_of (slice_index_or ls i no_payload)) 2) && nat_lt 0 n) Committed Aborted)

-- a deadline taken for an abort
unfoldable pub mapped : ProposalOutcome → ProposalOutcome
mapped Committed = Committed
mapped Aborted = Aborted
mapped TimedOut = Aborted

abbrev pub MapsToOriginal : Type 0
MapsToOriginal = (n : ℕ) (ls : List Payload) → n ≤ positions → mapped (outcome_of n ls) ≡ original_outcome n ls
