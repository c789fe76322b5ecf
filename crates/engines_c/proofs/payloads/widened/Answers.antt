use Rattle.std.proofs.Common.{rules, ◌≡◌, ℕ, sym, ap, ◌∙◌, length, get_or}
use Rattle.loops.specs.Table.{tabulate, tabulate_get}
use Rattle.engines_c.proofs.Filling.{made_by}
use Rattle.engines_c.proofs.payloads.widened.Goals as goal

pub returns : goal.returns
returns c =
    let n : length c.args.bytes ≡ 32 = search rules in
    made_by _ _ (λ i. get_or c.args.bytes i 0) 0 (λ i y q k. search rules) _ 32 c.from_fn.ensures.items
    ∙ ap (λ (k : ℕ). tabulate k (λ i. get_or c.args.bytes i 0)) (sym n) ∙ tabulate_get c.args.bytes 0
