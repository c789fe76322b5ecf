use Rattle.packets_c.proofs.Asked.{sizes_small}
use Rattle.std.proofs.Common.{sym, ◌∙◌}
use Rattle.packets_c.proofs.console.ce_asked.Goals as goal

pub filled-requires : goal.filled-requires
filled-requires c = sizes_small _ _ _ (sym c.if-not-sizes_fit.false ∙ c.sizes_fit.ensures)
