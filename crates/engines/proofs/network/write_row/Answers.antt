use Rattle.std.proofs.Common.{sym, ◌∙◌}
use Rattle.engines.specs.Network.{slot_row}
use Rattle.engines.proofs.Writing.{put_none}
use Rattle.engines.proofs.network.write_row.Goals as goal

pub returns-then-not-row_due : goal.returns-then-not-row_due
returns-then-not-row_due c = record { value = (put_none c.args.conf c.args.w c.args.rows.now c.args.at (sym c.row_due.ensures ∙ c.if-not-row_due.true)).0; rows_after = (put_none c.args.conf c.args.w c.args.rows.now c.args.at (sym c.row_due.ensures ∙ c.if-not-row_due.true)).1 }

pub returns : goal.returns
unfolding slot_row
returns c = rw (← c.tick_all-shown.ensures, ← c.take_snapshot-r.ensures) (record { value = c.put_due.ensures.value; rows_after = c.put_due.ensures.rows_after })
