use Prim.Native.Nat.{◌≤◌}
use lib.ListN.{length}
use borrow.Author.Tests.{le-leb}
use Rattle.graph.proofs.Entries.{stored}
use Rattle.graph.proofs.console.store.Goals as goal

pub returns : goal.returns
returns c =
    let room : 64 ≤ length c.args.out.now = c.in-Some.ensures.cases.enough in
    record { told = rw (le-leb 64 _ room); out_after = rw (le-leb 64 _ room) (stored _ _ c.told-values room) }
