use Rattle.std.proofs.Common.{List, ℕ, [], ◌++◌}
use Rattle.packets.specs.Packets.{bitmap_text, data_text, phase_text, ce_text, key_term, key_phase, key_proposal_data, key_flags_bitmap, key_end}
use Rattle.packets.specs.declared.CeTwoPcPacket.{CeTwoPcPacket}
use Rattle.texts.specs.Decimal.{decimal}
use Rattle.packets.proofs.Writes.{limits_true}
use Rattle.packets.proofs.Writers.{left_all, left_room, left_byte, left_put, left_last}
use Rattle.packets.proofs.two_pc_ce.put_ce.Goals as goal

-- what is still to be written behind the n-th field
abbrev rest1 : CeTwoPcPacket → List ℕ
rest1 p = key_phase ++ (phase_text p.phase ++ (key_proposal_data ++ (data_text p.proposal_data ++ (key_flags_bitmap ++ (bitmap_text p.flags_bitmap ++ key_end)))))

abbrev rest2 : CeTwoPcPacket → List ℕ
rest2 p = key_proposal_data ++ (data_text p.proposal_data ++ (key_flags_bitmap ++ (bitmap_text p.flags_bitmap ++ key_end)))

abbrev rest3 : CeTwoPcPacket → List ℕ
rest3 p = key_flags_bitmap ++ (bitmap_text p.flags_bitmap ++ key_end)

abbrev rest4 : CeTwoPcPacket → List ℕ
rest4 p = key_end

pub put_field-requires : goal.put_field-requires
unfolding ce_text
put_field-requires c = (tt, left_room (key_term ++ decimal c.args.p.term) (rest1 c.args.p) (left_all c.args.w.now c.requires.1))

pub put_field-requires-2 : goal.put_field-requires-2
unfolding ce_text
put_field-requires-2 c = (tt, left_room (key_phase ++ phase_text c.args.p.phase) (rest2 c.args.p) (left_put {s = key_term ++ decimal c.args.p.term} (rest1 c.args.p) (left_all c.args.w.now c.requires.1) c.put_field.ensures))

pub put_field-requires-3 : goal.put_field-requires-3
unfolding ce_text
put_field-requires-3 c = ((limits_true c.args.p.flags_bitmap.len c.args.p.proposal_data.len c.requires.0).1, left_room (key_proposal_data ++ data_text c.args.p.proposal_data) (rest3 c.args.p) (left_put {s = key_phase ++ phase_text c.args.p.phase} (rest2 c.args.p) (left_put {s = key_term ++ decimal c.args.p.term} (rest1 c.args.p) (left_all c.args.w.now c.requires.1) c.put_field.ensures) c.put_field-2.ensures))

pub put_field-requires-4 : goal.put_field-requires-4
unfolding ce_text
put_field-requires-4 c = ((limits_true c.args.p.flags_bitmap.len c.args.p.proposal_data.len c.requires.0).0, left_room (key_flags_bitmap ++ bitmap_text c.args.p.flags_bitmap) (rest4 c.args.p) (left_put {s = key_proposal_data ++ data_text c.args.p.proposal_data} (rest3 c.args.p) (left_put {s = key_phase ++ phase_text c.args.p.phase} (rest2 c.args.p) (left_put {s = key_term ++ decimal c.args.p.term} (rest1 c.args.p) (left_all c.args.w.now c.requires.1) c.put_field.ensures) c.put_field-2.ensures) c.put_field-3.ensures))

pub byte-requires : goal.byte-requires
unfolding ce_text
byte-requires c = left_byte 125 [] (left_put {s = key_flags_bitmap ++ bitmap_text c.args.p.flags_bitmap} (rest4 c.args.p) (left_put {s = key_proposal_data ++ data_text c.args.p.proposal_data} (rest3 c.args.p) (left_put {s = key_phase ++ phase_text c.args.p.phase} (rest2 c.args.p) (left_put {s = key_term ++ decimal c.args.p.term} (rest1 c.args.p) (left_all c.args.w.now c.requires.1) c.put_field.ensures) c.put_field-2.ensures) c.put_field-3.ensures) c.put_field-4.ensures)

pub returns : goal.returns
unfolding ce_text
returns c = left_last (left_put {s = key_flags_bitmap ++ bitmap_text c.args.p.flags_bitmap} (rest4 c.args.p) (left_put {s = key_proposal_data ++ data_text c.args.p.proposal_data} (rest3 c.args.p) (left_put {s = key_phase ++ phase_text c.args.p.phase} (rest2 c.args.p) (left_put {s = key_term ++ decimal c.args.p.term} (rest1 c.args.p) (left_all c.args.w.now c.requires.1) c.put_field.ensures) c.put_field-2.ensures) c.put_field-3.ensures) c.put_field-4.ensures) c.byte.ensures
