use Rattle.std.proofs.Common.{ap, ◌∙◌}
use Rattle.merges.specs.Merging.{adopted_of, proposal_of}
use Rattle.merges.proofs.merging.init_proposal.Goals as goal

pub returns : goal.returns
unfolding proposal_of
returns c =
    c.with_data.ensures ∙ c.adopt_with_local_vote-s.ensures (λ _. c.proposal_data.result)
    ∙ ap (adopted_of _ _ _) (c.blank_slip.ensures (λ _. c.proposal_data.result) c.proposal_data.ensures)
