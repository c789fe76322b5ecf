-- The text of a packet, by RULES 5.1, 5.2, 5.3 and 5.5: serde_json's compact form, and the packets that have one.
-- Assumes nothing: these are definitions.
use Rattle.std.specs.Prelude.{◌≡◌, Option, Some, None, Bool, ◌&&◌, List, [], ◌∷◌, ◌++◌, ℕ, ◌^◌, ◌≤◌, ◌<◌, leb, length, take, replicate}
use Rattle.limits.specs.Limits.{bitmap_entries, data_bytes}
use Rattle.marks.specs.Marks.{marks_of}
use Rattle.texts.specs.Put.{written}
use Rattle.texts.specs.Decimal.{decimal}
use Rattle.texts.specs.Readers.{bool_text, null_text, list_text}
use Rattle.texts.specs.ListLaws.{Every}
use Rattle.packets.specs.declared.TwoPcPhase.{TwoPcPhase}
use Rattle.packets.specs.declared.TwoPcPhase.TheVariants.{Prepare, Committed, Aborted}
use Rattle.packets.specs.declared.Bitmap.{Bitmap}
use Rattle.packets.specs.declared.Data.{Data}
use Rattle.packets.specs.declared.CeTwoPcPacket.{CeTwoPcPacket}
use Rattle.packets.specs.declared.TwoPcPacket.{TwoPcPacket}

-- a phase is its name in quotation marks: "Prepare", "Committed", "Aborted"
abbrev pub phase_text : TwoPcPhase → List ℕ
phase_text Prepare = 34 ∷ 80 ∷ 114 ∷ 101 ∷ 112 ∷ 97 ∷ 114 ∷ 101 ∷ 34 ∷ []
phase_text Committed = 34 ∷ 67 ∷ 111 ∷ 109 ∷ 109 ∷ 105 ∷ 116 ∷ 116 ∷ 101 ∷ 100 ∷ 34 ∷ []
phase_text Aborted = 34 ∷ 65 ∷ 98 ∷ 111 ∷ 114 ∷ 116 ∷ 101 ∷ 100 ∷ 34 ∷ []

-- a bitmap is the array of its first len marks
unfoldable pub bitmap_text : Bitmap → List ℕ
bitmap_text b = list_text bool_text (marks_of b.marks b.len)

-- data is the array of its first len bytes, each in decimal
unfoldable pub data_text : Data → List ℕ
data_text d = list_text decimal (take d.len d.bytes)

-- what may be absent: null, or the value's text
abbrev pub option_text : {A : Type 0} → (A → List ℕ) → Option A → List ℕ
option_text text None = null_text
option_text text (Some x) = text x

-- what is piggybacked
abbrev pub tx_text : Option ℕ → List ℕ
tx_text = option_text decimal

abbrev pub state_text : Option TwoPcPhase → List ℕ
state_text = option_text phase_text

-- the names of the fields, each with what stands before it and the colon behind it

-- {"term":
abbrev pub key_term : List ℕ
key_term = 123 ∷ 34 ∷ 116 ∷ 101 ∷ 114 ∷ 109 ∷ 34 ∷ 58 ∷ []

-- ,"phase":
abbrev pub key_phase : List ℕ
key_phase = 44 ∷ 34 ∷ 112 ∷ 104 ∷ 97 ∷ 115 ∷ 101 ∷ 34 ∷ 58 ∷ []

-- ,"proposal_data":
abbrev pub key_proposal_data : List ℕ
key_proposal_data = 44 ∷ 34 ∷ 112 ∷ 114 ∷ 111 ∷ 112 ∷ 111 ∷ 115 ∷ 97 ∷ 108 ∷ 95 ∷ 100 ∷ 97 ∷ 116 ∷ 97 ∷ 34 ∷ 58 ∷ []

-- ,"flags_bitmap":
abbrev pub key_flags_bitmap : List ℕ
key_flags_bitmap = 44 ∷ 34 ∷ 102 ∷ 108 ∷ 97 ∷ 103 ∷ 115 ∷ 95 ∷ 98 ∷ 105 ∷ 116 ∷ 109 ∷ 97 ∷ 112 ∷ 34 ∷ 58 ∷ []

-- {"transaction_id":
abbrev pub key_transaction_id : List ℕ
key_transaction_id = 123 ∷ 34 ∷ 116 ∷ 114 ∷ 97 ∷ 110 ∷ 115 ∷ 97 ∷ 99 ∷ 116 ∷ 105 ∷ 111 ∷ 110 ∷ 95 ∷ 105 ∷ 100 ∷ 34 ∷ 58 ∷ []

-- ,"state":
abbrev pub key_state : List ℕ
key_state = 44 ∷ 34 ∷ 115 ∷ 116 ∷ 97 ∷ 116 ∷ 101 ∷ 34 ∷ 58 ∷ []

-- ,"abort_flag":
abbrev pub key_abort_flag : List ℕ
key_abort_flag = 44 ∷ 34 ∷ 97 ∷ 98 ∷ 111 ∷ 114 ∷ 116 ∷ 95 ∷ 102 ∷ 108 ∷ 97 ∷ 103 ∷ 34 ∷ 58 ∷ []

-- ,"nack_tx_id":
abbrev pub key_nack_tx_id : List ℕ
key_nack_tx_id = 44 ∷ 34 ∷ 110 ∷ 97 ∷ 99 ∷ 107 ∷ 95 ∷ 116 ∷ 120 ∷ 95 ∷ 105 ∷ 100 ∷ 34 ∷ 58 ∷ []

-- ,"transaction_data":
abbrev pub key_transaction_data : List ℕ
key_transaction_data = 44 ∷ 34 ∷ 116 ∷ 114 ∷ 97 ∷ 110 ∷ 115 ∷ 97 ∷ 99 ∷ 116 ∷ 105 ∷ 111 ∷ 110 ∷ 95 ∷ 100 ∷ 97 ∷ 116 ∷ 97 ∷ 34 ∷ 58 ∷ []

-- ,"sender":
abbrev pub key_sender : List ℕ
key_sender = 44 ∷ 34 ∷ 115 ∷ 101 ∷ 110 ∷ 100 ∷ 101 ∷ 114 ∷ 34 ∷ 58 ∷ []

-- ,"piggyback_tx":
abbrev pub key_piggyback_tx : List ℕ
key_piggyback_tx = 44 ∷ 34 ∷ 112 ∷ 105 ∷ 103 ∷ 103 ∷ 121 ∷ 98 ∷ 97 ∷ 99 ∷ 107 ∷ 95 ∷ 116 ∷ 120 ∷ 34 ∷ 58 ∷ []

-- ,"piggyback_state":
abbrev pub key_piggyback_state : List ℕ
key_piggyback_state = 44 ∷ 34 ∷ 112 ∷ 105 ∷ 103 ∷ 103 ∷ 121 ∷ 98 ∷ 97 ∷ 99 ∷ 107 ∷ 95 ∷ 115 ∷ 116 ∷ 97 ∷ 116 ∷ 101 ∷ 34 ∷ 58 ∷ []

-- }
abbrev pub key_end : List ℕ
key_end = 125 ∷ []

-- the fields of CeTwoPcPacket in their declared order
unfoldable pub ce_text : CeTwoPcPacket → List ℕ
ce_text p =
    key_term ++ (decimal p.term
    ++ (key_phase ++ (phase_text p.phase
    ++ (key_proposal_data ++ (data_text p.proposal_data
    ++ (key_flags_bitmap ++ (bitmap_text p.flags_bitmap
    ++ key_end)))))))

-- the fields of TwoPcPacket in their declared order
unfoldable pub pipeline_text : TwoPcPacket → List ℕ
pipeline_text p =
    key_transaction_id ++ (decimal p.transaction_id
    ++ (key_state ++ (phase_text p.state
    ++ (key_flags_bitmap ++ (bitmap_text p.flags_bitmap
    ++ (key_abort_flag ++ (bool_text p.abort_flag
    ++ (key_nack_tx_id ++ (decimal p.nack_tx_id
    ++ (key_transaction_data ++ (data_text p.transaction_data
    ++ (key_sender ++ (decimal p.sender
    ++ (key_piggyback_tx ++ (tx_text p.piggyback_tx
    ++ (key_piggyback_state ++ (state_text p.piggyback_state
    ++ key_end)))))))))))))))))

-- refusal 9: a packet within the limits has at most 64 entries in its bitmap and at most 32 bytes of data, which is
-- the most that is read and written
abbrev pub most_bytes : ℕ
most_bytes = data_bytes

unfoldable pub limits : ℕ → ℕ → Bool
limits entries bytes = leb entries bitmap_entries && leb bytes most_bytes

abbrev pub ce_within : CeTwoPcPacket → Bool
ce_within p = limits p.flags_bitmap.len p.proposal_data.len

abbrev pub pipeline_within : TwoPcPacket → Bool
pipeline_within p = limits p.flags_bitmap.len p.transaction_data.len

-- ---- The packets that a text stands for: within the limits, numbers of 64 bits, bytes of 8, and nothing behind the
-- lengths.
pub record ValidBitmap (b : Bitmap) : Type 0 where
  pub at_most64 : b.len ≤ bitmap_entries
  pub marks_lt : b.marks < 2 ^ b.len

pub record ValidData (d : Data) : Type 0 where
  pub at_most32 : d.len ≤ data_bytes
  pub small : Every (λ x. x < 256) (take d.len d.bytes)
  pub zeros : d.bytes ≡ written (replicate 32 0) 0 (take d.len d.bytes)

-- what is there is within the limits
abbrev pub Within : {A : Type 0} → (A → Type 0) → Option A → Type 0
Within P None = Unit {0}
Within P (Some x) = P x

abbrev pub ValidTx : Option ℕ → Type 0
ValidTx = Within (λ n. n < 2 ^ 64)

pub record ValidCe (p : CeTwoPcPacket) : Type 0 where
  pub term_fits : p.term < 2 ^ 64
  pub bytes : ValidData p.proposal_data
  pub bitmap : ValidBitmap p.flags_bitmap

pub record ValidPipeline (p : TwoPcPacket) : Type 0 where
  pub id_fits : p.transaction_id < 2 ^ 64
  pub nack_fits : p.nack_tx_id < 2 ^ 64
  pub sender_fits : p.sender < 2 ^ 64
  pub tx_fits : ValidTx p.piggyback_tx
  pub bytes : ValidData p.transaction_data
  pub bitmap : ValidBitmap p.flags_bitmap

-- ---- the data of a proposal (RULES 6.6)

-- "tx" and the term in decimal
abbrev pub proposal_text : ℕ → List ℕ
proposal_text t = 116 ∷ 120 ∷ decimal t

unfoldable pub proposal_data : ℕ → Data
proposal_data t = record { len = length (proposal_text t); bytes = written (replicate 32 0) 0 (proposal_text t) }
