use Rattle.std.proofs.Common.{◌∙◌, sym, rules, arith}
use Rattle.packets.proofs.Proposals.{tx_room, tx_data}
use Rattle.packets.proofs.two_pc_ce.proposal_data.Goals as goal

pub decimal-requires : goal.decimal-requires
decimal-requires c = tx_room c.args.term _ _ (omega arith) c.all.ensures.put

pub returns : goal.returns
returns c =
    let same = sym (c.decimal.ensures.same ∙ c.all.ensures.same) in
    let d = tx_data c.args.term _ _ _ _ c.all.ensures.put c.decimal.ensures.put in
    search (rules, d)
