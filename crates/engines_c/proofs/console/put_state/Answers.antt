use Rattle.engines_c.proofs.Stating.{state_put}
use Rattle.engines_c.proofs.console.put_state.Goals as goal

pub returns : goal.returns
returns c = state_put c.args.c c.args.used c.args.xs.now c.put_run.ensures c.put_network.ensures c.put_held.ensures
