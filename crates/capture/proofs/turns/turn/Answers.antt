use Rattle.std.proofs.Common.{refl}
use Rattle.capture.proofs.turns.turn.Goals as goal

pub returns : goal.returns
returns c =
    record {
      progressed = c.union-progressed.result;
      marks = c.union-progressed.ensures;
      table = c.store.ensures;
      states = c.change-states.ensures;
      goal = c.goals.ensures;
      phases = refl;
      rests = refl;
      metrics = c.count_slot.ensures;
      slot = refl;
      row = c.next_row.ensures;
      bytes = refl;
      draw = refl;
      going = refl;
    }
