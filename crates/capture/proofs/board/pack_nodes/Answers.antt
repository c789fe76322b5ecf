use Rattle.capture.specs.Boards.{nodes_by}
use Rattle.capture.proofs.board.pack_nodes.Goals as goal

pub returns : goal.returns
unfolding nodes_by
returns c = c.change_all.ensures
