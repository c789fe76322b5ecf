use Rattle.std.proofs.Common.{◌+◌, List, ℕ, sym, ap, ◌∙◌, refl, arith, length, take, set, get_or, take_all}
use lib.Seq.{sets, length-sets}
use Rattle.engines_c.proofs.Storing.{run_turn, sets_out}
use Rattle.engines_c.proofs.numbers.put_run.Goals as goal

pub returns-then-saturating_sub-k : goal.returns-then-saturating_sub-k
returns-then-saturating_sub-k c = sym (sets_out c.args.values.now c.args.xs.now (c.args.at + c.args.k) (omega arith))

pub loop-i-init : goal.loop-i-init
loop-i-init c = refl

pub loop-i-preserved : goal.loop-i-preserved
loop-i-preserved c =
    c.put.ensures ∙ ap (λ (l : List ℕ). set l (c.args.at + c.args.k + c.loop-i.i) (get_or c.args.values.now c.loop-i.i 0)) c.loop-i.invariant
    ∙ run_turn c.args.xs.now c.args.values.now (c.args.at + c.args.k) c.loop-i.i (omega arith)

pub shape_of-xs : goal.shape_of-xs
shape_of-xs c = ap length c.loop-i.invariant ∙ length-sets c.args.xs.now (c.args.at + c.args.k) (take c.loop-i.i c.args.values.now)

pub returns : goal.returns
returns c = c.loop-i.invariant ∙ ap (sets c.args.xs.now (c.args.at + c.args.k)) (take_all c.loop-i.i c.args.values.now c.loop-i-test.false)
