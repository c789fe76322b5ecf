use mathlib.Core.Path.{◌≡◌}
use Prim.Native.Nat.{◌-◌, min}
use lib.ListN.{length}
use native.Mathlib.Omega.{arith}
use Rattle.lines.specs.Feeding.{kept_bytes}
use Rattle.lines.proofs.Moves.{keep_none, keep_count, keep_stays, keep_moved}
use Rattle.lines.proofs.feed.keep.Goals as goal

pub returns-then-text-from : goal.returns-then-text-from
returns-then-text-from c = keep_none c.args.text.now c.args.from c.if-text-from.true

pub returns-then-from-eq0 : goal.returns-then-from-eq0
returns-then-from-eq0 c =
    let e : c.min-n.result ≡ min kept_bytes (length c.args.text.now - c.args.from) = omega (arith, c.min-n.ensures) in
    (keep_count c.args.text.now c.args.from _ _ c.if-text-from.false e, keep_stays c.args.text.now c.args.from _ _ c.if-text-from.false e c.if-from-eq0.true)

pub returns : goal.returns
returns c =
    let e : c.min-n.result ≡ min kept_bytes (length c.args.text.now - c.args.from) = omega (arith, c.min-n.ensures) in
    (keep_count c.args.text.now c.args.from _ _ c.if-text-from.false e, keep_moved c.args.text.now c.args.from _ _ c.if-text-from.false e c.copy_within.ensures.after)
