use Rattle.std.proofs.Common.{◌≡◌, ℕ, ◌^◌, ◌<◌, ◌&&◌, ltb, get_or}
use Rattle.marks.specs.Marks.{has}
use Rattle.pipeline.specs.Pending.{is_judged}
use Rattle.pipeline.proofs.pending.ripe.Given as goal

abbrev pub invariant-loop-t : goal.invariant-loop-t
invariant-loop-t l = ((k : ℕ) → has l.m k ≡ (ltb k l.t && is_judged l.facts.n l.facts.round (get_or l.rounds k 0))) × (l.m < 2 ^ 64)
