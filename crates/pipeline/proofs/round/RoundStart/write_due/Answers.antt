use Rattle.std.proofs.Common.{◌*◌, arith}
use Rattle.engines.proofs.Rounds.{no_rows}
use Rattle.pipeline.proofs.Rounding.{part_whole}
use Rattle.pipeline.specs.Round.{rows_of_round}
use Rattle.pipeline.proofs.round.RoundStart.write_due.Goals as goal

pub returns-then-due-eq0 : goal.returns-then-due-eq0
returns-then-due-eq0 c =
    no_rows c.args.rows.now (rows_of_round c.args.self.now.words.now c.args.self.now.conf c.args.self.now.network c.args.self.now.part c.args.self.now.draw)
    (c.args.used * 5) (omega (arith, c.if-due-eq0.true, c.requires.are_due))

pub returns : goal.returns
returns c =
    rw c.write.ensures
    (part_whole c.args.rows.now (rows_of_round c.args.self.now.words.now c.args.self.now.conf c.args.self.now.network c.args.self.now.part c.args.self.now.draw)
    c.args.used c.args.due c.requires.are_due c.requires.fit)
