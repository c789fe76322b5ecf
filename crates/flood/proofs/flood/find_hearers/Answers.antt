use Rattle.std.proofs.Common.{arith}
use Rattle.flood.proofs.Hearers.{hearers_is}
use Rattle.flood.proofs.flood.find_hearers.Goals as goal

pub returns : goal.returns
returns c = hearers_is _ _ _ (omega arith) (omega arith) c.intersection.ensures
