use Rattle.std.proofs.Common.{◌≡◌, ◌≤◌, ◌∙◌, rules, arith, length, take, max}
use Rattle.std.specs.List.{fold}
use Rattle.engines.specs.Clamp.{at_most64}
use Rattle.engines.specs.Rows.{highest_progress}
use Rattle.engines.specs.declared.node.Node.{Node}
use Rattle.engines.proofs.RowSums.{fold_highest}
use Rattle.engines.proofs.rows.highest_progress.Goals as goal

pub returns : goal.returns
unfolding highest_progress
returns c =
    let e : c.fold.result ≡ fold (λ p (v : Node). max p v.progress_count) 0 (take c.min.result c.args.at) = search rules in
    let within : at_most64 c.args.n ≤ length c.args.at = omega arith in
    (rw c.min.ensures at e) ∙ fold_highest c.args.at (at_most64 c.args.n) within
