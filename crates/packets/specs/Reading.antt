-- The reader of a packet's text, by RULES 5.4, and refusals 9 and 10 of RULES 15: it takes exactly the texts that a
-- writer writes within the limits. It goes from left to right, field by field. That it takes those texts and no others
-- is `specs/Promises.antt`. Assumes nothing: these are definitions.
use Rattle.std.specs.Prelude.{Option, Some, None, ok_or, Result, Err, Bool, List, ℕ, ◌+◌, ◌^◌, leb, length, take, replicate}
use Rattle.limits.specs.Limits.{bitmap_entries}
use Rattle.limits.specs.declared.refusals.Refusal.{Refusal}
use Rattle.limits.specs.declared.refusals.Refusal.TheVariants.{BadPacket, NoFit}
use Rattle.loops.specs.Pick.{either}
use Rattle.texts.specs.Literals.{lit_at}
use Rattle.texts.specs.Readers.{got, Reader, on, map, behind, both, whole, num_at, bool_at, or_null, list_at}
use Rattle.texts.specs.Stores.{store_mark, store_byte}
use Rattle.packets.specs.Packets.{
  most_bytes,
  phase_text,
  key_term,
  key_phase,
  key_proposal_data,
  key_flags_bitmap,
  key_transaction_id,
  key_state,
  key_abort_flag,
  key_nack_tx_id,
  key_transaction_data,
  key_sender,
  key_piggyback_tx,
  key_piggyback_state,
  key_end,
}
use Rattle.packets.specs.declared.TwoPcPhase.{TwoPcPhase}
use Rattle.packets.specs.declared.TwoPcPhase.TheVariants.{Prepare, Committed, Aborted}
use Rattle.packets.specs.declared.Bitmap.{Bitmap}
use Rattle.packets.specs.declared.Data.{Data}
use Rattle.packets.specs.declared.CeTwoPcPacket.{CeTwoPcPacket}
use Rattle.packets.specs.declared.TwoPcPacket.{TwoPcPacket}

-- ---- the parts of a packet

-- one of the three names
unfoldable pub phase_at : Reader TwoPcPhase
phase_at s at =
    either (lit_at s at (phase_text Prepare)) (got Prepare (at + 9))
    (either (lit_at s at (phase_text Committed)) (got Committed (at + 11)) (either (lit_at s at (phase_text Aborted)) (got Aborted (at + 9)) None))

-- an array of at most 64 marks, from which a word of marks is made
abbrev pub bitmap_of : ℕ × ℕ → Bitmap
bitmap_of w = record { len = w.0; marks = w.1 }

unfoldable pub bitmap_at : Reader Bitmap
bitmap_at s at = map bitmap_of (list_at bool_at store_mark bitmap_entries 0 s at)

-- an array of at most 32 numbers below 256, stored from the first byte on, with zeros behind them
abbrev pub data_of : ℕ × List ℕ → Data
data_of w = record { len = w.0; bytes = w.1 }

unfoldable pub data_at : Reader Data
data_at s at = map data_of (list_at (num_at 256) store_byte most_bytes (replicate 32 0) s at)

-- null, or a value
unfoldable pub option_at : {A : Type 0} → Reader A → Reader (Option A)
option_at rd = or_null None (λ s at. map Some (rd s at))

abbrev pub tx_at : Reader (Option ℕ)
tx_at = option_at (num_at (2 ^ 64))

abbrev pub state_at : Reader (Option TwoPcPhase)
state_at = option_at phase_at

-- ---- whole packets: the fields in their declared order, each behind its name, then the brace and the end of the text
unfoldable pub ce_fields : Reader (ℕ × (TwoPcPhase × (Data × Bitmap)))
ce_fields = both (behind key_term (num_at (2 ^ 64))) (both (behind key_phase phase_at) (both (behind key_proposal_data data_at) (behind key_flags_bitmap bitmap_at)))

abbrev pub ce_packet : ℕ × (TwoPcPhase × (Data × Bitmap)) → CeTwoPcPacket
ce_packet w = record { term = w.0; phase = w.1.0; proposal_data = w.1.1.0; flags_bitmap = w.1.1.1 }

abbrev pub PipelineValues : Type 0
PipelineValues = ℕ × (TwoPcPhase × (Bitmap × (Bool × (ℕ × (Data × (ℕ × (Option ℕ × Option TwoPcPhase)))))))

unfoldable pub pipeline_fields : Reader PipelineValues
pipeline_fields =
    both (behind key_transaction_id (num_at (2 ^ 64)))
    (both (behind key_state phase_at)
    (both (behind key_flags_bitmap bitmap_at)
    (both (behind key_abort_flag bool_at)
    (both (behind key_nack_tx_id (num_at (2 ^ 64)))
    (both (behind key_transaction_data data_at)
    (both (behind key_sender (num_at (2 ^ 64)))
    (both (behind key_piggyback_tx tx_at) (behind key_piggyback_state state_at))))))))

abbrev pub pipeline_packet : PipelineValues → TwoPcPacket
pipeline_packet w =
    record {
      transaction_id = w.0;
      state = w.1.0;
      flags_bitmap = w.1.1.0;
      abort_flag = w.1.1.1.0;
      nack_tx_id = w.1.1.1.1.0;
      transaction_data = w.1.1.1.1.1.0;
      sender = w.1.1.1.1.1.1.0;
      piggyback_tx = w.1.1.1.1.1.1.1.0;
      piggyback_state = w.1.1.1.1.1.1.1.1;
    }

-- ---- the answers: the packet, or the refusal

-- the packet that a text is
unfoldable pub ce_at : List ℕ → Option CeTwoPcPacket
ce_at s = on (whole ce_fields key_end s) (λ w n. Some (ce_packet w)) None

unfoldable pub pipeline_at : List ℕ → Option TwoPcPacket
pipeline_at s = on (whole pipeline_fields key_end s) (λ w n. Some (pipeline_packet w)) None

-- refusal 9: any other text
unfoldable pub ce_read_of : List ℕ → Result CeTwoPcPacket Refusal
ce_read_of s = ok_or (ce_at s) BadPacket

unfoldable pub pipeline_read_of : List ℕ → Result TwoPcPacket Refusal
pipeline_read_of s = ok_or (pipeline_at s) BadPacket

-- refusal 10, before 9: the stated length exceeds the buffer. Nothing behind the stated length is read
unfoldable pub ce_read : List ℕ → ℕ → Result CeTwoPcPacket Refusal
ce_read s len = either (leb len (length s)) (ce_read_of (take len s)) (Err NoFit)

unfoldable pub pipeline_read : List ℕ → ℕ → Result TwoPcPacket Refusal
pipeline_read s len = either (leb len (length s)) (pipeline_read_of (take len s)) (Err NoFit)
