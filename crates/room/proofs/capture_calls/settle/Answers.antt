use borrow.Author.Tests.{not-true, not-false}
use Rattle.room.specs.Capturing.{network_after}
use Rattle.room.proofs.capture_calls.settle.Goals as goal

pub returns-then-not-c : goal.returns-then-not-c
unfolding network_after
returns-then-not-c c = rw (not-true c.args.c.ended c.if-not-c.true)

pub returns-then-t : goal.returns-then-t
unfolding network_after
returns-then-t c = rw (not-false c.args.c.ended c.if-not-c.false, c.if-t.true)

pub returns : goal.returns
unfolding network_after
returns c = rw (not-false c.args.c.ended c.if-not-c.false, c.if-t.false, c.raise_all-higher.ensures)
