use Rattle.std.proofs.Common.{sym}
use Rattle.texts.specs.Put.{room_as}
use Rattle.packets.proofs.Texts.{list_empty, list_item}
use Rattle.packets.proofs.Writers.{wrote_as, left_all, left_room, left_byte, left_end, left_put, left_last}
use Rattle.packets.proofs.put.Writer.bytes.Goals as goal

pub all-requires : goal.all-requires
all-requires c = room_as (list_empty c.args.bytes.now c.in_default.ensures.cases) c.requires

pub returns-in_default : goal.returns-in_default
returns-in_default c = wrote_as (sym (list_empty c.args.bytes.now c.in_default.ensures.cases)) c.all.ensures

pub byte-requires : goal.byte-requires
byte-requires c = left_byte _ _ (left_all c.args.self.now (room_as (list_item _ _ _ c.in-Some.ensures.cases.0) c.requires))

pub small-requires : goal.small-requires
small-requires c = left_room _ _ (left_put _ (left_all c.args.self.now (room_as (list_item _ _ _ c.in-Some.ensures.cases.0) c.requires)) c.byte.ensures)

pub rest-requires : goal.rest-requires
rest-requires c = left_end (left_put _ (left_put _ (left_all c.args.self.now (room_as (list_item _ _ _ c.in-Some.ensures.cases.0) c.requires)) c.byte.ensures) c.small.ensures)

pub returns : goal.returns
returns c = wrote_as (sym (list_item _ _ _ c.in-Some.ensures.cases.0)) (left_last (left_put _ (left_put _ (left_all c.args.self.now (room_as (list_item _ _ _ c.in-Some.ensures.cases.0) c.requires)) c.byte.ensures) c.small.ensures) c.rest.ensures)
