use Prim.Native.Nat.{ℕ, ◌+◌, ◌*◌}
use native.Mathlib.Omega.{arith}
use Rattle.lines.proofs.Ends.{unbroken_on, unbroken_part}
use Rattle.lines.proofs.search.pass_blocks.Goals as goal

pub loop-k-preserved : goal.loop-k-preserved
loop-k-preserved c =
    let from : ℕ = 32 * c.loop-k.k in
    let block = unbroken_part c.args.text.now from (from + 32) (omega arith) (omega arith) (c.is_unbroken.ensures c.if-not-is_unbroken.false) in
    λ j m n. unbroken_on c.args.text.now 0 from (from + 32) c.loop-k.invariant block j m (omega arith)
