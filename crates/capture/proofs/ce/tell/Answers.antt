use Rattle.std.proofs.Common.{sym, ap, ◌∙◌, arith}
use Rattle.merges.specs.Slips.{answered}
use Rattle.capture.specs.Boards.{data_in}
use Rattle.capture.proofs.Telling.{told_none, told_new, nobody_heard, nothing_heard, packet_heard, source_in, heard_as}
use Rattle.capture.proofs.ce.tell.Goals as goal

pub returns-then-src-ge64 : goal.returns-then-src-ge64
returns-then-src-ge64 c = told_none _ _ _ _ _ (λ base held h k o. nobody_heard _ held _ _ c.if-src-ge64.true)

pub returns-then-not-holds : goal.returns-then-not-holds
returns-then-not-holds c = told_none _ _ _ _ _ (λ base held h k o. nothing_heard _ o _ _ (k (omega (arith, c.if-src-ge64.false))) (sym c.holds.ensures ∙ c.if-not-holds.true))

pub returns-in_default : goal.returns-in_default
returns-in_default c =
    let there = sym c.holds.ensures ∙ c.if-not-holds.false in
    let w = heard_as _ _ _ c.held_by-held.ensures c.slip_at-local.ensures c.slip_at-received.ensures c.hear.ensures in
    told_none _ _ _ _ _ (λ base held h k o. packet_heard _ o _ _ (k (omega (arith, c.if-src-ge64.false))) h there c.hear.result w ∙ ap (answered (data_in base) _) c.in_default.is)

pub returns : goal.returns
returns c =
    let there = sym c.holds.ensures ∙ c.if-not-holds.false in
    let w = heard_as _ _ _ c.held_by-held.ensures c.slip_at-local.ensures c.slip_at-received.ensures c.hear.ensures in
    told_new _ _ _ _ _ c.in-Some.news _ _ c.requires c.write.ensures
    (λ base held h k o.
    let there' = k (omega (arith, c.if-src-ge64.false)) in (
      packet_heard _ o _ _ there' h there c.hear.result w ∙ ap (answered (data_in base) _) c.in-Some.is,
      source_in _ o _ _ there' h there c.hear.result w _ c.in-Some.is,
    ))
