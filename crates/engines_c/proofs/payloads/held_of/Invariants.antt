use Rattle.std.proofs.Common.{◌≡◌, ◌*◌}
use Rattle.loops.specs.Table.{filled}
use Rattle.merges.specs.Merging.{without}
use Rattle.merges.specs.declared.merging.Held.TheVariants.{Empty}
use Rattle.engines_c.specs.Payloads.{payload_at}
use Rattle.engines_c.proofs.payloads.held_of.Given as goal

abbrev pub invariant-loop-i : goal.invariant-loop-i
invariant-loop-i l = l.payload-items ≡ filled (without Empty) 64 l.i (λ j. payload_at l.xs l.at (j * 38))
