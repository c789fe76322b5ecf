use Rattle.std.proofs.Common.{ap, refl, ◌∙◌}
use Rattle.engines.specs.Rounds.{placed}
use Rattle.pipeline.proofs.Rounding.{rows_same}
use Rattle.pipeline.proofs.round.RoundStart.write.Goals as goal

pub returns : goal.returns
returns c =
    c.write_rows.ensures
    ∙ ap (placed c.args.part.now 0)
    (rows_same _ _ _ _ _ refl c.prepare-prep.ensures c.packet_bytes-bytes.ensures (rw c.initiator.ensures.0 at c.flood_from-start.ensures))
