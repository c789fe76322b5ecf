use Rattle.pipeline_c.proofs.Playing.{entered_none, entered_some}
use Rattle.pipeline_c.proofs.console.pipeline_rounds.Goals as goal

pub returns-then-t-eq0-clause-state_after : goal.returns-then-t-eq0-clause-state_after
returns-then-t-eq0-clause-state_after c =
    rw (← c.conf_of-conf.ensures, ← c.played_of-t.ensures) (entered_none c.args.state.now c.play_rounds-told.ensures c.if-t-eq0.true)

pub returns-clause-state_after : goal.returns-clause-state_after
returns-clause-state_after c =
    rw (← c.conf_of-conf.ensures, ← c.played_of-t.ensures) (entered_some c.args.state.now c.play_rounds-told.ensures c.if-t-eq0.false c.put_played.ensures)
