use Prim.Native.Nat.{◌-◌}
use lib.ListN.{length}
use Rattle.lines.proofs.Feeds.{Going}
use Rattle.lines.proofs.feed.feed.Given as goal

abbrev pub invariant-loop-ahead : goal.invariant-loop-ahead
invariant-loop-ahead l = Going l.text l.n l.initial.words l.initial.out l.used l.from l.at l.o l.words l.out

abbrev pub decreases-loop-ahead : goal.decreases-loop-ahead
decreases-loop-ahead l = length l.text - l.at
