use mathlib.Core.Bool.{true}
use mathlib.Core.Path.{◌≡◌, sym, ◌∙◌}
use Prim.Native.Nat.{◌+◌, ◌-◌, ◌*◌, ◌<◌}
use native.Mathlib.Omega.{arith}
use lib.ListN.{length, get_or}
use Rattle.packets.proofs.Slices.{digit_is, starts_within}
use Rattle.texts.specs.NumberLaws.{digit_range, digits_end, digits_stop, digits_big, digits_more}
use Rattle.texts.specs.Readers.{is_digit, num_at}
use Rattle.packets.proofs.read.read_num.Goals as goal

pub returns-then-not-starts_num : goal.returns-then-not-starts_num
unfolding num_at
returns-then-not-starts_num c = rw (sym c.starts_num.ensures ∙ c.if-not-starts_num.true)

pub loop-i-init : goal.loop-i-init
unfolding num_at
loop-i-init c = (omega arith, rw (sym c.starts_num.ensures ∙ c.if-not-starts_num.false))

pub returns-then-not-is_ascii_digit : goal.returns-then-not-is_ascii_digit
returns-then-not-is_ascii_digit c = sym (c.loop-i.invariant.1 ∙ digits_stop c.args.s.now c.loop-i.i (c.args.most + 1) c.loop-i.v (omega arith) (sym (c.is_ascii_digit.ensures.value ∙ digit_is _) ∙ c.if-not-is_ascii_digit.true))

pub returns-then-v-most : goal.returns-then-v-most
returns-then-v-most c =
    let passed : is_digit (get_or c.args.s.now c.loop-i.i 0) ≡ true = sym (c.is_ascii_digit.ensures.value ∙ digit_is _) ∙ c.if-not-is_ascii_digit.false in
    sym (c.loop-i.invariant.1 ∙ digits_big c.args.s.now c.loop-i.i (c.args.most + 1) c.loop-i.v (omega arith) (passed) (omega (arith, digit_range (get_or c.args.s.now c.loop-i.i 0) (passed), c.requires)))

pub loop-i-preserved : goal.loop-i-preserved
loop-i-preserved c =
    let passed : is_digit (get_or c.args.s.now c.loop-i.i 0) ≡ true = sym (c.is_ascii_digit.ensures.value ∙ digit_is _) ∙ c.if-not-is_ascii_digit.false in
    let small : c.loop-i.v * 10 + ((get_or c.args.s.now c.loop-i.i 0) - 48) < c.args.most + 1 = omega (arith, digit_range (get_or c.args.s.now c.loop-i.i 0) (passed), c.requires) in (omega arith, c.loop-i.invariant.1 ∙ digits_more c.args.s.now c.loop-i.i (c.args.most + 1) c.loop-i.v (omega arith) (passed) small)

pub returns : goal.returns
returns c =
    let within : c.args.at < length c.args.s.now = starts_within c.args.s.now c.args.at (sym c.starts_num.ensures ∙ c.if-not-starts_num.false) in
    let end : c.loop-i.i ≡ length c.args.s.now = omega arith in
    rw (← end) (sym (c.loop-i.invariant.1 ∙ digits_end c.args.s.now c.loop-i.i (c.args.most + 1) c.loop-i.v (omega arith)))
