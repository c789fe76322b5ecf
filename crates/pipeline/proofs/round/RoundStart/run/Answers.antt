use Rattle.std.proofs.Common.{refl, sym, ◌∙◌}
use Rattle.pipeline.proofs.Rounding.{run_whole, run_short}
use Rattle.pipeline.proofs.round.RoundStart.run.Goals as goal

pub returns-in-None : goal.returns-in-None
returns-in-None c =
    run_short _ _ _ _ _ refl c.prepare-prep.ensures c.packet_bytes-bytes.ensures (rw c.initiator.ensures.0 at c.flood_from-start.ensures)
    _ (sym c.in-None.is ∙ c.flood_identical_round.ensures)

pub returns-in-Some : goal.returns-in-Some
returns-in-Some c =
    run_whole _ _ _ _ _ refl c.prepare-prep.ensures c.packet_bytes-bytes.ensures (rw c.initiator.ensures.0 at c.flood_from-start.ensures)
    (sym c.in-Some.is ∙ c.flood_identical_round.ensures) c.close.ensures
