use Rattle.std.proofs.Common.{sym}
use Rattle.texts.specs.Put.{room_as}
use Rattle.packets.proofs.Texts.{bitmap_none, bitmap_more}
use Rattle.packets.proofs.Writers.{wrote_as, left_all, left_room, left_byte, left_end, left_put, left_last}
use Rattle.packets.proofs.put.Writer.bitmap.Goals as goal

pub all-requires : goal.all-requires
all-requires c = room_as (bitmap_none c.args.b c.if-b-eq0.true) c.requires

pub returns-then-b-eq0 : goal.returns-then-b-eq0
returns-then-b-eq0 c = wrote_as (sym (bitmap_none c.args.b c.if-b-eq0.true)) c.all.ensures

pub byte-requires : goal.byte-requires
byte-requires c = left_byte _ _ (left_all c.args.self.now (room_as (bitmap_more c.args.b c.if-b-eq0.false) c.requires))

pub put-requires : goal.put-requires
put-requires c = (tt, left_room _ _ (left_put _ (left_all c.args.self.now (room_as (bitmap_more c.args.b c.if-b-eq0.false) c.requires)) c.byte.ensures))

pub marks-requires : goal.marks-requires
marks-requires c = left_end (left_put _ (left_put _ (left_all c.args.self.now (room_as (bitmap_more c.args.b c.if-b-eq0.false) c.requires)) c.byte.ensures) c.put.ensures)

pub returns : goal.returns
returns c = wrote_as (sym (bitmap_more c.args.b c.if-b-eq0.false)) (left_last (left_put _ (left_put _ (left_all c.args.self.now (room_as (bitmap_more c.args.b c.if-b-eq0.false) c.requires)) c.byte.ensures) c.put.ensures) c.marks.ensures)
