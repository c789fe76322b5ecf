use Rattle.std.proofs.Common.{sym, ◌∙◌, ◌-◌, ◌<◌, ◌≤◌, arith, length, ltb-true, ltb-false}
use Rattle.engines.proofs.Writing.{row_none, row_full, row_part}
use Rattle.engines.proofs.network.put_due.Goals as goal

pub returns-then-not-row_due : goal.returns-then-not-row_due
returns-then-not-row_due c = record { value = (row_none c.args.slot c.args.r c.args.rows.now c.args.at (sym c.row_due.ensures ∙ c.if-not-row_due.true)).0; rows_after = (row_none c.args.slot c.args.r c.args.rows.now c.args.at (sym c.row_due.ensures ∙ c.if-not-row_due.true)).1 }

pub returns-then-is_full : goal.returns-then-is_full
returns-then-is_full c =
    let few : length c.args.rows.now - c.args.at < 5 = ltb-true _ _ (sym c.is_full.ensures ∙ c.if-is_full.true) in
    let put = row_full c.args.slot c.args.r c.args.rows.now c.args.at (sym c.row_due.ensures ∙ c.if-not-row_due.false) (omega (arith, few)) in
    record { value = put.0; rows_after = put.1 }

pub returns : goal.returns
returns c =
    let room : 5 ≤ length c.args.rows.now - c.args.at = ltb-false _ _ (sym c.is_full.ensures ∙ c.if-is_full.false) in
    let put = row_part c.args.slot c.args.r c.args.rows.now c.args.at (sym c.row_due.ensures ∙ c.if-not-row_due.false) (omega (arith, room)) in
    rw c.put_row.ensures (record { value = put.0; rows_after = put.1 })
