use Rattle.flood.proofs.Flooding.{flooded_short, flooded_whole}
use Rattle.flood.proofs.flood.flood_identical_round.Goals as goal

pub returns-then-s : goal.returns-then-s
returns-then-s c = flooded_short _ _ _ _ c.survey-s.ensures c.if-s.true

pub returns : goal.returns
returns c = flooded_whole _ _ _ _ c.survey-s.ensures c.if-s.false
