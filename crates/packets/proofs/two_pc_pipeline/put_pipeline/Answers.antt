use Rattle.std.proofs.Common.{List, ℕ, [], ◌++◌}
use Rattle.packets.specs.Packets.{bitmap_text, data_text, phase_text, state_text, tx_text, pipeline_text, key_transaction_id, key_state, key_flags_bitmap, key_abort_flag, key_nack_tx_id, key_transaction_data, key_sender, key_piggyback_tx, key_piggyback_state, key_end}
use Rattle.packets.specs.declared.TwoPcPacket.{TwoPcPacket}
use Rattle.texts.specs.Decimal.{decimal}
use Rattle.texts.specs.Readers.{bool_text}
use Rattle.packets.proofs.Writes.{limits_true, any_within}
use Rattle.packets.proofs.Writers.{left_all, left_room, left_byte, left_put, left_last}
use Rattle.packets.proofs.two_pc_pipeline.put_pipeline.Goals as goal

-- what is still to be written behind the n-th field
abbrev rest1 : TwoPcPacket → List ℕ
rest1 p = key_state ++ (phase_text p.state ++ (key_flags_bitmap ++ (bitmap_text p.flags_bitmap ++ (key_abort_flag ++ (bool_text p.abort_flag ++ (key_nack_tx_id ++ (decimal p.nack_tx_id ++ (key_transaction_data ++ (data_text p.transaction_data ++ (key_sender ++ (decimal p.sender ++ (key_piggyback_tx ++ (tx_text p.piggyback_tx ++ (key_piggyback_state ++ (state_text p.piggyback_state ++ key_end)))))))))))))))

abbrev rest2 : TwoPcPacket → List ℕ
rest2 p = key_flags_bitmap ++ (bitmap_text p.flags_bitmap ++ (key_abort_flag ++ (bool_text p.abort_flag ++ (key_nack_tx_id ++ (decimal p.nack_tx_id ++ (key_transaction_data ++ (data_text p.transaction_data ++ (key_sender ++ (decimal p.sender ++ (key_piggyback_tx ++ (tx_text p.piggyback_tx ++ (key_piggyback_state ++ (state_text p.piggyback_state ++ key_end)))))))))))))

abbrev rest3 : TwoPcPacket → List ℕ
rest3 p = key_abort_flag ++ (bool_text p.abort_flag ++ (key_nack_tx_id ++ (decimal p.nack_tx_id ++ (key_transaction_data ++ (data_text p.transaction_data ++ (key_sender ++ (decimal p.sender ++ (key_piggyback_tx ++ (tx_text p.piggyback_tx ++ (key_piggyback_state ++ (state_text p.piggyback_state ++ key_end)))))))))))

abbrev rest4 : TwoPcPacket → List ℕ
rest4 p = key_nack_tx_id ++ (decimal p.nack_tx_id ++ (key_transaction_data ++ (data_text p.transaction_data ++ (key_sender ++ (decimal p.sender ++ (key_piggyback_tx ++ (tx_text p.piggyback_tx ++ (key_piggyback_state ++ (state_text p.piggyback_state ++ key_end)))))))))

abbrev rest5 : TwoPcPacket → List ℕ
rest5 p = key_transaction_data ++ (data_text p.transaction_data ++ (key_sender ++ (decimal p.sender ++ (key_piggyback_tx ++ (tx_text p.piggyback_tx ++ (key_piggyback_state ++ (state_text p.piggyback_state ++ key_end)))))))

abbrev rest6 : TwoPcPacket → List ℕ
rest6 p = key_sender ++ (decimal p.sender ++ (key_piggyback_tx ++ (tx_text p.piggyback_tx ++ (key_piggyback_state ++ (state_text p.piggyback_state ++ key_end)))))

abbrev rest7 : TwoPcPacket → List ℕ
rest7 p = key_piggyback_tx ++ (tx_text p.piggyback_tx ++ (key_piggyback_state ++ (state_text p.piggyback_state ++ key_end)))

abbrev rest8 : TwoPcPacket → List ℕ
rest8 p = key_piggyback_state ++ (state_text p.piggyback_state ++ key_end)

abbrev rest9 : TwoPcPacket → List ℕ
rest9 p = key_end

pub put_field-requires : goal.put_field-requires
unfolding pipeline_text
put_field-requires c = (tt, left_room (key_transaction_id ++ decimal c.args.p.transaction_id) (rest1 c.args.p) (left_all c.args.w.now c.requires.1))

pub put_field-requires-2 : goal.put_field-requires-2
unfolding pipeline_text
put_field-requires-2 c = (tt, left_room (key_state ++ phase_text c.args.p.state) (rest2 c.args.p) (left_put {s = key_transaction_id ++ decimal c.args.p.transaction_id} (rest1 c.args.p) (left_all c.args.w.now c.requires.1) c.put_field.ensures))

pub put_field-requires-3 : goal.put_field-requires-3
unfolding pipeline_text
put_field-requires-3 c = ((limits_true c.args.p.flags_bitmap.len c.args.p.transaction_data.len c.requires.0).0, left_room (key_flags_bitmap ++ bitmap_text c.args.p.flags_bitmap) (rest3 c.args.p) (left_put {s = key_state ++ phase_text c.args.p.state} (rest2 c.args.p) (left_put {s = key_transaction_id ++ decimal c.args.p.transaction_id} (rest1 c.args.p) (left_all c.args.w.now c.requires.1) c.put_field.ensures) c.put_field-2.ensures))

pub put_field-requires-4 : goal.put_field-requires-4
unfolding pipeline_text
put_field-requires-4 c = (tt, left_room (key_abort_flag ++ bool_text c.args.p.abort_flag) (rest4 c.args.p) (left_put {s = key_flags_bitmap ++ bitmap_text c.args.p.flags_bitmap} (rest3 c.args.p) (left_put {s = key_state ++ phase_text c.args.p.state} (rest2 c.args.p) (left_put {s = key_transaction_id ++ decimal c.args.p.transaction_id} (rest1 c.args.p) (left_all c.args.w.now c.requires.1) c.put_field.ensures) c.put_field-2.ensures) c.put_field-3.ensures))

pub put_field-requires-5 : goal.put_field-requires-5
unfolding pipeline_text
put_field-requires-5 c = (tt, left_room (key_nack_tx_id ++ decimal c.args.p.nack_tx_id) (rest5 c.args.p) (left_put {s = key_abort_flag ++ bool_text c.args.p.abort_flag} (rest4 c.args.p) (left_put {s = key_flags_bitmap ++ bitmap_text c.args.p.flags_bitmap} (rest3 c.args.p) (left_put {s = key_state ++ phase_text c.args.p.state} (rest2 c.args.p) (left_put {s = key_transaction_id ++ decimal c.args.p.transaction_id} (rest1 c.args.p) (left_all c.args.w.now c.requires.1) c.put_field.ensures) c.put_field-2.ensures) c.put_field-3.ensures) c.put_field-4.ensures))

pub put_field-requires-6 : goal.put_field-requires-6
unfolding pipeline_text
put_field-requires-6 c = ((limits_true c.args.p.flags_bitmap.len c.args.p.transaction_data.len c.requires.0).1, left_room (key_transaction_data ++ data_text c.args.p.transaction_data) (rest6 c.args.p) (left_put {s = key_nack_tx_id ++ decimal c.args.p.nack_tx_id} (rest5 c.args.p) (left_put {s = key_abort_flag ++ bool_text c.args.p.abort_flag} (rest4 c.args.p) (left_put {s = key_flags_bitmap ++ bitmap_text c.args.p.flags_bitmap} (rest3 c.args.p) (left_put {s = key_state ++ phase_text c.args.p.state} (rest2 c.args.p) (left_put {s = key_transaction_id ++ decimal c.args.p.transaction_id} (rest1 c.args.p) (left_all c.args.w.now c.requires.1) c.put_field.ensures) c.put_field-2.ensures) c.put_field-3.ensures) c.put_field-4.ensures) c.put_field-5.ensures))

pub put_field-requires-7 : goal.put_field-requires-7
unfolding pipeline_text
put_field-requires-7 c = (tt, left_room (key_sender ++ decimal c.args.p.sender) (rest7 c.args.p) (left_put {s = key_transaction_data ++ data_text c.args.p.transaction_data} (rest6 c.args.p) (left_put {s = key_nack_tx_id ++ decimal c.args.p.nack_tx_id} (rest5 c.args.p) (left_put {s = key_abort_flag ++ bool_text c.args.p.abort_flag} (rest4 c.args.p) (left_put {s = key_flags_bitmap ++ bitmap_text c.args.p.flags_bitmap} (rest3 c.args.p) (left_put {s = key_state ++ phase_text c.args.p.state} (rest2 c.args.p) (left_put {s = key_transaction_id ++ decimal c.args.p.transaction_id} (rest1 c.args.p) (left_all c.args.w.now c.requires.1) c.put_field.ensures) c.put_field-2.ensures) c.put_field-3.ensures) c.put_field-4.ensures) c.put_field-5.ensures) c.put_field-6.ensures))

pub put_field-requires-8 : goal.put_field-requires-8
unfolding pipeline_text
put_field-requires-8 c = (any_within _, left_room (key_piggyback_tx ++ tx_text c.args.p.piggyback_tx) (rest8 c.args.p) (left_put {s = key_sender ++ decimal c.args.p.sender} (rest7 c.args.p) (left_put {s = key_transaction_data ++ data_text c.args.p.transaction_data} (rest6 c.args.p) (left_put {s = key_nack_tx_id ++ decimal c.args.p.nack_tx_id} (rest5 c.args.p) (left_put {s = key_abort_flag ++ bool_text c.args.p.abort_flag} (rest4 c.args.p) (left_put {s = key_flags_bitmap ++ bitmap_text c.args.p.flags_bitmap} (rest3 c.args.p) (left_put {s = key_state ++ phase_text c.args.p.state} (rest2 c.args.p) (left_put {s = key_transaction_id ++ decimal c.args.p.transaction_id} (rest1 c.args.p) (left_all c.args.w.now c.requires.1) c.put_field.ensures) c.put_field-2.ensures) c.put_field-3.ensures) c.put_field-4.ensures) c.put_field-5.ensures) c.put_field-6.ensures) c.put_field-7.ensures))

pub put_field-requires-9 : goal.put_field-requires-9
unfolding pipeline_text
put_field-requires-9 c = (any_within _, left_room (key_piggyback_state ++ state_text c.args.p.piggyback_state) (rest9 c.args.p) (left_put {s = key_piggyback_tx ++ tx_text c.args.p.piggyback_tx} (rest8 c.args.p) (left_put {s = key_sender ++ decimal c.args.p.sender} (rest7 c.args.p) (left_put {s = key_transaction_data ++ data_text c.args.p.transaction_data} (rest6 c.args.p) (left_put {s = key_nack_tx_id ++ decimal c.args.p.nack_tx_id} (rest5 c.args.p) (left_put {s = key_abort_flag ++ bool_text c.args.p.abort_flag} (rest4 c.args.p) (left_put {s = key_flags_bitmap ++ bitmap_text c.args.p.flags_bitmap} (rest3 c.args.p) (left_put {s = key_state ++ phase_text c.args.p.state} (rest2 c.args.p) (left_put {s = key_transaction_id ++ decimal c.args.p.transaction_id} (rest1 c.args.p) (left_all c.args.w.now c.requires.1) c.put_field.ensures) c.put_field-2.ensures) c.put_field-3.ensures) c.put_field-4.ensures) c.put_field-5.ensures) c.put_field-6.ensures) c.put_field-7.ensures) c.put_field-8.ensures))

pub byte-requires : goal.byte-requires
unfolding pipeline_text
byte-requires c = left_byte 125 [] (left_put {s = key_piggyback_state ++ state_text c.args.p.piggyback_state} (rest9 c.args.p) (left_put {s = key_piggyback_tx ++ tx_text c.args.p.piggyback_tx} (rest8 c.args.p) (left_put {s = key_sender ++ decimal c.args.p.sender} (rest7 c.args.p) (left_put {s = key_transaction_data ++ data_text c.args.p.transaction_data} (rest6 c.args.p) (left_put {s = key_nack_tx_id ++ decimal c.args.p.nack_tx_id} (rest5 c.args.p) (left_put {s = key_abort_flag ++ bool_text c.args.p.abort_flag} (rest4 c.args.p) (left_put {s = key_flags_bitmap ++ bitmap_text c.args.p.flags_bitmap} (rest3 c.args.p) (left_put {s = key_state ++ phase_text c.args.p.state} (rest2 c.args.p) (left_put {s = key_transaction_id ++ decimal c.args.p.transaction_id} (rest1 c.args.p) (left_all c.args.w.now c.requires.1) c.put_field.ensures) c.put_field-2.ensures) c.put_field-3.ensures) c.put_field-4.ensures) c.put_field-5.ensures) c.put_field-6.ensures) c.put_field-7.ensures) c.put_field-8.ensures) c.put_field-9.ensures)

pub returns : goal.returns
unfolding pipeline_text
returns c = left_last (left_put {s = key_piggyback_state ++ state_text c.args.p.piggyback_state} (rest9 c.args.p) (left_put {s = key_piggyback_tx ++ tx_text c.args.p.piggyback_tx} (rest8 c.args.p) (left_put {s = key_sender ++ decimal c.args.p.sender} (rest7 c.args.p) (left_put {s = key_transaction_data ++ data_text c.args.p.transaction_data} (rest6 c.args.p) (left_put {s = key_nack_tx_id ++ decimal c.args.p.nack_tx_id} (rest5 c.args.p) (left_put {s = key_abort_flag ++ bool_text c.args.p.abort_flag} (rest4 c.args.p) (left_put {s = key_flags_bitmap ++ bitmap_text c.args.p.flags_bitmap} (rest3 c.args.p) (left_put {s = key_state ++ phase_text c.args.p.state} (rest2 c.args.p) (left_put {s = key_transaction_id ++ decimal c.args.p.transaction_id} (rest1 c.args.p) (left_all c.args.w.now c.requires.1) c.put_field.ensures) c.put_field-2.ensures) c.put_field-3.ensures) c.put_field-4.ensures) c.put_field-5.ensures) c.put_field-6.ensures) c.put_field-7.ensures) c.put_field-8.ensures) c.put_field-9.ensures) c.byte.ensures
