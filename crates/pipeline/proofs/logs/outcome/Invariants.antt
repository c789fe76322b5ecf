use Rattle.std.proofs.Common.{ℕ, ◌≢◌, ◌<◌, get_or}
use Rattle.pipeline.specs.Pending.{no_entry}
use Rattle.pipeline.proofs.logs.outcome.Given as goal

-- none of the entries so far is of this transaction
abbrev pub invariant-loop-e : goal.invariant-loop-e
invariant-loop-e l = (i : ℕ) → i < l.e-index → (get_or l.fn.g.entries i no_entry).tx ≢ l.fn.t
