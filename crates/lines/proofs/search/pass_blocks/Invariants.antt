use Prim.Native.Nat.{◌*◌}
use Rattle.lines.specs.Ends.{Unbroken}
use Rattle.lines.proofs.search.pass_blocks.Given as goal

abbrev pub invariant-loop-k : goal.invariant-loop-k
invariant-loop-k l = Unbroken l.text 0 (32 * l.k)
