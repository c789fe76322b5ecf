use native.Mathlib.Omega.{arith}
use Rattle.marks.specs.Sets.{without, without_less}
use Rattle.graph.proofs.sets.MarksIterator.next.Goals as goal

pub returns-clause-steps : goal.returns-clause-steps
returns-clause-steps c = without _ _ _ (omega arith) c.if-self-eq0.false c.lowest_mark-i.ensures c.without_mark-self.ensures

pub returns-clause-goes : goal.returns-clause-goes
returns-clause-goes c =
    let step = without _ _ _ (omega arith) c.if-self-eq0.false c.lowest_mark-i.ensures c.without_mark-self.ensures in
    record { on = λ _. (tt, tt, without_less step); keeps = tt; rests = λ _. tt }
