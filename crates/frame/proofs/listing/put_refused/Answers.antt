use Rattle.std.proofs.Common.{◌≡◌, List, ℕ, ◌+◌, ◌++◌, ap, drop, length, arith, length-append, length-drop}
use Rattle.texts.specs.Put.{put_then}
use Rattle.texts.specs.Decimal.{decimal_word}
use Rattle.frame.specs.Listing.{refused_word, refused_text}
use Rattle.frame.proofs.Texts.{refused_put, refused_room, refused_short, put_rest, rest_long}
use Rattle.frame.proofs.listing.put_refused.Goals as goal

long : (w d : List ℕ) → w ≡ refused_word → length d ≡ 276 → 8 + 268 ≡ length (w ++ drop 8 d)
long w d e h = omega (arith, ap length e, length-append w (drop 8 d), length-drop 8 d)

pub put_decimal-requires : goal.put_decimal-requires
put_decimal-requires c = omega (arith, rest_long (c.copy_from_slice.new.self ++ drop 8 c.args.out.now) 8 268 (long c.copy_from_slice.new.self c.args.out.now c.copy_from_slice.ensures.after c.told-out), decimal_word c.args.refusal (omega arith))

pub overflow_add-result : goal.overflow_add-result
overflow_add-result c = omega (arith, c.put_decimal.ensures.next, decimal_word c.args.refusal (omega arith))

pub returns : goal.returns
unfolding refused_text
returns c =
    let p = refused_put c.args.out.now c.copy_from_slice.ensures.after in
    let q = put_rest _ 8 268 (long c.copy_from_slice.new.self c.args.out.now c.copy_from_slice.ensures.after c.told-out) c.put_decimal.ensures in
    let t = put_then p q (refused_room c.args.refusal _ (omega arith) (omega arith)) in
    (t, omega (arith, t.next, refused_short c.args.refusal (omega arith)))
