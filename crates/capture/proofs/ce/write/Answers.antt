use Rattle.std.proofs.Common.{refl, arith}
use Rattle.engines.specs.Columns.{row_put}
use Rattle.engines.proofs.Marking.{with_is}
use Rattle.capture.proofs.ce.write.Goals as goal

pub returns : goal.returns
unfolding row_put
returns c =
    record {
      phases = c.put_phase.ensures;
      rests = rw (← c.rests.ensures) c.put.ensures;
      news = with_is _ _ _ (omega arith) (omega arith) c.with_mark.ensures;
      table = refl;
    }
