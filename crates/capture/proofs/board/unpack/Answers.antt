use Rattle.std.proofs.Common.{◌≡◌, length, rules}
use Rattle.capture.proofs.Unpacking.{shown_start}
use Rattle.capture.proofs.board.unpack.Goals as goal

pub returns : goal.returns
returns c =
    let nodes : length c.args.c.network.nodes ≡ 64 = search rules in
    let held : length c.args.c.held ≡ 64 = search rules in
    λ h conf e. shown_start _ c.args.c c.args.initiator c.args.cursor (nodes) (held)
    (c.take_all-s.ensures h) c.first_states.ensures conf e
