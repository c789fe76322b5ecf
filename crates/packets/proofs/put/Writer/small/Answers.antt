use Rattle.std.proofs.Common.{◌≡◌, ℕ, ◌+◌, ◌%◌, [], ◌∷◌, ap, sym, ◌∙◌, arith}
use Rattle.texts.specs.Decimal.{decimal_small, decimal_two, decimal_three}
use Rattle.texts.specs.Put.{room_as}
use Rattle.packets.proofs.Writers.{wrote_as, left_all, left_byte, left_end, left_put, left_last}
use Rattle.packets.proofs.put.Writer.small.Goals as goal

pub byte-requires : goal.byte-requires
byte-requires c = omega (arith, (room_as (decimal_small c.args.b c.if-b-lt10.true) c.requires).room)

pub returns-then-b-lt10 : goal.returns-then-b-lt10
returns-then-b-lt10 c =
    let e : c.args.b % 10 ≡ c.args.b = omega arith in
    wrote_as (sym (decimal_small c.args.b c.if-b-lt10.true ∙ ap (λ (x : ℕ). (x + 48) ∷ []) e)) c.byte.ensures

pub byte-requires-then-b-lt100 : goal.byte-requires-then-b-lt100
byte-requires-then-b-lt100 c = left_byte _ _ (left_all c.args.self.now (room_as (decimal_two c.args.b c.if-b-lt10.false c.if-b-lt100.true) c.requires))

pub byte-requires-then-b-lt100-2 : goal.byte-requires-then-b-lt100-2
byte-requires-then-b-lt100-2 c =
    omega (arith, (left_end (left_put _ (left_all c.args.self.now (room_as (decimal_two c.args.b c.if-b-lt10.false c.if-b-lt100.true) c.requires)) c.byte-then-b-lt100.ensures)).room)

pub returns-then-b-lt100 : goal.returns-then-b-lt100
returns-then-b-lt100 c =
    wrote_as (sym (decimal_two c.args.b c.if-b-lt10.false c.if-b-lt100.true))
    (left_last (left_put _ (left_all c.args.self.now (room_as (decimal_two c.args.b c.if-b-lt10.false c.if-b-lt100.true) c.requires)) c.byte-then-b-lt100.ensures) c.byte-then-b-lt100-2.ensures)

pub byte-requires-2 : goal.byte-requires-2
byte-requires-2 c = left_byte _ _ (left_all c.args.self.now (room_as (decimal_three c.args.b c.if-b-lt100.false (omega arith)) c.requires))

pub byte-requires-3 : goal.byte-requires-3
byte-requires-3 c = left_byte _ _ (left_put _ (left_all c.args.self.now (room_as (decimal_three c.args.b c.if-b-lt100.false (omega arith)) c.requires)) c.byte-2.ensures)

pub byte-requires-4 : goal.byte-requires-4
byte-requires-4 c = omega (arith, (left_end (left_put _ (left_put _ (left_all c.args.self.now (room_as (decimal_three c.args.b c.if-b-lt100.false (omega arith)) c.requires)) c.byte-2.ensures) c.byte-3.ensures)).room)

pub returns : goal.returns
returns c =
    wrote_as (sym (decimal_three c.args.b c.if-b-lt100.false (omega arith)))
    (left_last (left_put _ (left_put _ (left_all c.args.self.now (room_as (decimal_three c.args.b c.if-b-lt100.false (omega arith)) c.requires)) c.byte-2.ensures) c.byte-3.ensures) c.byte-4.ensures)
