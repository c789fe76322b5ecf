use Rattle.packets.proofs.Writers.{left_all, left_end, left_put, left_last}
use Rattle.packets.proofs.field.put_field.Goals as goal

pub put-requires : goal.put-requires
put-requires g c = (c.requires.0, left_end (left_put _ (left_all c.args.w.now c.requires.1) c.all.ensures))

pub returns : goal.returns
returns g c = left_last (left_put _ (left_all c.args.w.now c.requires.1) c.all.ensures) c.put.ensures
