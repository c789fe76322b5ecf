use Rattle.capture.proofs.Unpacking.{noted_empty, noted_unreadable, noted_packet}
use Rattle.capture.proofs.board.note_phases.Goals as goal

pub returns-in-Empty : goal.returns-in-Empty
returns-in-Empty c = noted_empty c.in-Empty.is

pub returns-in-Unreadable : goal.returns-in-Unreadable
returns-in-Unreadable c = noted_unreadable c.put.result c.in-Unreadable.is c.put.ensures

pub returns-in-Packet : goal.returns-in-Packet
returns-in-Packet c = noted_packet c.in-Packet.is c.put_phase.ensures
