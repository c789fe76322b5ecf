use Rattle.std.proofs.Common.{◌≡◌, Option, None, sym, ap, ◌∙◌, arith}
use Rattle.std.proofs.lemmas.Grind.{common_steps}
use Rattle.packets.specs.declared.CeTwoPcPacket.{CeTwoPcPacket}
use Rattle.merges.specs.Slips.{answered}
use Rattle.merges.proofs.Slips.{heard_packets}
use Rattle.merges.proofs.merging.merge_packet.Goals as goal

pub returns-in_err-slip : goal.returns-in_err-slip
returns-in_err-slip c =
    let nothing : ◌≡◌ {A = Option CeTwoPcPacket} c.from_residual.result None = grind (arith, common_steps) in
    rw nothing
    (sym (heard_packets _ _ _ _ _ _ _ _ c.of.ensures c.of-2.ensures c.hear.ensures
    ∙ ap (answered _ c.args.local) c.in_err-slip.was))

pub returns : goal.returns
returns c =
    rw (c.with_data.ensures, c.data_of-data.ensures)
    (sym (heard_packets _ _ _ _ _ _ _ _ c.of.ensures c.of-2.ensures c.hear.ensures
    ∙ ap (answered _ c.args.local) c.in_ok-slip.was))
