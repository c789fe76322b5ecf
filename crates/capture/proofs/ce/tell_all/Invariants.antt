use Rattle.std.proofs.Common.{◌≡◌, ℕ, true, List}
use Rattle.marks.specs.Marks.{has}
use Rattle.capture.specs.Boards.{ShownHeld, Kept, Apart}
use Rattle.merges.specs.declared.merging.Payload.{Payload}
use Rattle.capture.proofs.Telling.{Left}
use Rattle.capture.proofs.ce.tell_all.Given as goal

abbrev pub invariant-loop-i : goal.invariant-loop-i
invariant-loop-i l =
    ((j : ℕ) → has l.i-iterator.0 j ≡ true → has l.targets j ≡ true) × Kept l.initial.table l.table
    × ((base held : List Payload) → ShownHeld l.voting.n base l.initial.t.phases l.initial.t.can_sleep l.initial.table held → Apart l.voting.n l.hears l.targets
    → Left l.voting l.hears l.targets base held l.initial.t.new_info l.i-iterator.0 l.t l.table)
