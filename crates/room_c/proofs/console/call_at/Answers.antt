use Rattle.room_c.specs.Console.{call_at}
use Rattle.room_c.proofs.console.call_at.Goals as goal

pub returns : goal.returns
unfolding call_at
returns c =
    rw (← c.number-which.ensures, ← c.number-a.ensures, ← c.number-b.ensures, ← c.number-c.ensures)
    c.call.ensures
