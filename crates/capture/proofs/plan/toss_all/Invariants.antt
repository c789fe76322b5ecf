use Rattle.std.proofs.Common.{◌≡◌, ℕ, List}
use Rattle.engines.specs.Marked.{over_marks}
use Rattle.engines.specs.Columns.{cell}
use Rattle.capture.specs.Plan.{tossed1}
use Rattle.capture.specs.Boards.{last_at, waiting_since}
use Rattle.capture.specs.declared.plan.Coins.{Coins}
use Rattle.capture.proofs.plan.toss_all.Given as goal

-- the turn at position i
abbrev pub tossing : List ℕ → List ℕ → ℕ → ℕ → ℕ → Coins → Coins
tossing words table slot timeout i c = tossed1 words slot timeout (waiting_since (cell table last_at i)) i c

abbrev pub invariant-loop-i : goal.invariant-loop-i
invariant-loop-i l =
    over_marks l.i-iterator.0 (tossing l.words l.table l.slot l.timeout) l.c ≡ over_marks l.listening (tossing l.words l.table l.slot l.timeout) l.initial.c
