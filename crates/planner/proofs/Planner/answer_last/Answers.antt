use native.Mathlib.Omega.{arith}
use Rattle.planner.proofs.Calls.{last_ok}
use Rattle.planner.proofs.Planner.answer_last.Goals as goal

pub unwrap-used-requires : goal.unwrap-used-requires
unwrap-used-requires c = last_ok c.args.line.now (omega arith) (omega arith) c.finish.ensures.0
