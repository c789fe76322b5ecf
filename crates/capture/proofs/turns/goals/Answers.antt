use Rattle.std.proofs.Common.{◌≡◌, Bool, true, false, not, ◌&&◌, ◌||◌, refl}
use Rattle.loops.specs.Pick.{either}
use Rattle.marks.specs.Marks.{has}
use Rattle.capture.proofs.turns.goals.Goals as goal

-- the marks of b where a has one, and those of d where it has none
by : (a b d : Bool) → ((a && b) || (d && not a)) ≡ either a b d
by true true true = refl
by true true false = refl
by true false true = refl
by true false false = refl
by false b true = refl
by false b false = refl

pub returns : goal.returns
returns c = λ i. rw (c.union.ensures i, c.difference.ensures i, c.intersection.ensures i, c.union-decided.ensures i) (by (has c.args.new_info i) (has c.args.p.committed i || has c.args.p.aborted i) (has c.args.before i))
