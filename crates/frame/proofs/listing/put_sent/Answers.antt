use Rattle.std.proofs.Common.{◌≡◌, List, ℕ, ◌+◌, ◌-◌, ◌≤◌, length}
use lib.ListN.{set, length-set}
use native.Mathlib.Omega.{arith}
use Rattle.texts.specs.Put.{put_byte}
use Rattle.texts.specs.Decimal.{decimal_word}
use Rattle.frame.proofs.Texts.{sent_put, sent_short, put_rest, rest_long}
use Rattle.frame.proofs.listing.put_sent.Goals as goal

long : (d : List ℕ) (n : ℕ) → length d ≡ 276 → n ≤ 255 → (n + 1) + (276 - (n + 1)) ≡ length (set d n 32)
long d n h m = omega (arith, length-set d n 32)

pub put_decimal-requires : goal.put_decimal-requires
put_decimal-requires c =
    let n = c.name_length-n.result in
    omega (arith, rest_long (set c.put_name.new.out n 32) (n + 1) (276 - (n + 1)) (long c.put_name.new.out n c.put_name.array_long (omega (arith, c.name_length-n.type_inv))), decimal_word c.args.sent (omega arith), c.name_length-n.type_inv)

pub overflow_add-result-2 : goal.overflow_add-result-2
overflow_add-result-2 c = omega (arith, c.put_decimal.ensures.next, decimal_word c.args.sent (omega arith), c.name_length-n.type_inv)

pub returns : goal.returns
returns c =
    let b = put_byte c.put_name.new.out c.name_length-n.result 32 (omega (arith, c.put_name.array_long, c.name_length-n.type_inv)) in
    let q = put_rest _ _ _ (long c.put_name.new.out c.name_length-n.result c.put_name.array_long (omega (arith, c.name_length-n.type_inv))) c.put_decimal.ensures in
    let p = sent_put c.args.s.now c.args.sent (omega arith) c.name_length-n.ensures (omega (arith, c.name_length-n.type_inv)) c.put_name.ensures b q in
    (p, omega (arith, p.next, sent_short c.args.s.now c.args.sent (omega arith)))
