-- The C entries, by RULES 17, and refusals 9 and 10 of RULES 15: packets as numbers and bytes in lent slices.
-- Assumes nothing: these are definitions.
use Rattle.std.specs.Prelude.{Bool, ◌&&◌, ◌||◌, Option, Some, None, is_some, unwrap_or, Result, Ok, Err, List, [], ◌∷◌, ℕ, ◌^◌, leb, ltb, eqb, length, take, get_or, replicate}
use mir.Val.{bool_byte}
use Rattle.limits.specs.Limits.{data_bytes}
use Rattle.limits.specs.declared.refusals.Refusal.{Refusal}
use Rattle.limits.specs.declared.refusals.Refusal.TheVariants.{BadPacket, NoFit}
use Rattle.loops.specs.Pick.{either}
use Rattle.texts.specs.Put.{written}
use Rattle.packets.specs.Packets.{limits, ce_text, pipeline_text, ce_within, pipeline_within}
use Rattle.packets.specs.Reading.{ce_read, pipeline_read}
use Rattle.packets.specs.Writing.{wrote_of, left_of}
use Rattle.packets.specs.declared.TwoPcPhase.{TwoPcPhase}
use Rattle.packets.specs.declared.TwoPcPhase.TheVariants.{Prepare, Committed, Aborted}
use Rattle.packets.specs.declared.Data.{Data}
use Rattle.packets.specs.declared.CeTwoPcPacket.{CeTwoPcPacket}
use Rattle.packets.specs.declared.TwoPcPacket.{TwoPcPacket}

-- ---- packets as numbers

-- a phase: 0, 1, 2
abbrev pub phase_number : TwoPcPhase → ℕ
phase_number Prepare = 0
phase_number Committed = 1
phase_number Aborted = 2

abbrev pub phase_numbered : ℕ → TwoPcPhase
phase_numbered n = either (eqb n 0) Prepare (either (eqb n 1) Committed Aborted)

-- what may be absent is two numbers: 1 and the value, or 0 and 0
abbrev pub tx_there : Option ℕ → ℕ
tx_there p = bool_byte (is_some p)

abbrev pub tx_number : Option ℕ → ℕ
tx_number p = unwrap_or p 0

abbrev pub tx_numbered : ℕ → ℕ → Option ℕ
tx_numbered there n = either (eqb there 0) None (Some n)

abbrev pub state_there : Option TwoPcPhase → ℕ
state_there p = bool_byte (is_some p)

abbrev pub state_number : Option TwoPcPhase → ℕ
state_number None = 0
state_number (Some p) = phase_number p

abbrev pub state_numbered : ℕ → ℕ → Option TwoPcPhase
state_numbered there n = either (eqb there 0) None (Some (phase_numbered n))

-- the numbers that are handed out, in the order of include/packets.h
unfoldable pub ce_numbers : CeTwoPcPacket → List ℕ
ce_numbers p = p.term ∷ phase_number p.phase ∷ p.proposal_data.len ∷ p.flags_bitmap.len ∷ p.flags_bitmap.marks ∷ []

unfoldable pub pipeline_numbers : TwoPcPacket → List ℕ
pipeline_numbers p =
    p.transaction_id ∷ phase_number p.state ∷ p.flags_bitmap.len ∷ p.flags_bitmap.marks ∷ bool_byte p.abort_flag ∷ p.nack_tx_id
    ∷ p.transaction_data.len ∷ p.sender ∷ tx_there p.piggyback_tx ∷ tx_number p.piggyback_tx ∷ state_there p.piggyback_state
    ∷ state_number p.piggyback_state ∷ []

-- ---- reading: 10 if a slice is shorter than what is handed out or than the stated length, else as the reader answers
unfoldable pub ce_told : List ℕ → ℕ → ℕ → ℕ → Result CeTwoPcPacket Refusal
ce_told text len numbers bytes =
    either (leb 5 numbers) (either (leb data_bytes bytes) (ce_read text len) (Err NoFit)) (Err NoFit)

unfoldable pub pipeline_told : List ℕ → ℕ → ℕ → ℕ → Result TwoPcPacket Refusal
pipeline_told text len numbers bytes =
    either (leb 12 numbers) (either (leb data_bytes bytes) (pipeline_read text len) (Err NoFit)) (Err NoFit)

-- a lent slice afterwards: what is handed out of a packet from its first place on, and all else, or on a refusal
-- everything, as it was
unfoldable pub handed : {P : Type 0} → Result P Refusal → (P → List ℕ) → List ℕ → List ℕ
handed (Ok p) values d = written d 0 (values p)
handed (Err k) values d = d

-- ---- writing: the packet that the numbers ask for, or the refusal: 10 if a slice is too short, then 9 for numbers
-- that no packet within the limits has. So what is written is read back as it was asked for (specs/Back.antt)
abbrev pub data_asked : List ℕ → ℕ → Data
data_asked bytes n = record { len = n; bytes = written (replicate 32 0) 0 (take n bytes) }

abbrev pub ce_numbered : List ℕ → Data → CeTwoPcPacket
ce_numbered m d =
    record {
      term = get_or m 0 0;
      phase = phase_numbered (get_or m 1 0);
      proposal_data = d;
      flags_bitmap = record { len = get_or m 3 0; marks = get_or m 4 0 };
    }

-- the limits, and each mark is that of an entry of the bitmap: none at or above its length
abbrev pub sizes_fit : ℕ → ℕ → ℕ → Bool
sizes_fit entries bytes marks = limits entries bytes && ltb marks (2 ^ entries)

-- a phase is at most 2
unfoldable pub ce_fits : List ℕ → Bool
ce_fits m = leb (get_or m 1 0) 2 && sizes_fit (get_or m 3 0) (get_or m 2 0) (get_or m 4 0)

unfoldable pub ce_asked : List ℕ → List ℕ → Result CeTwoPcPacket Refusal
ce_asked m bytes =
    either (leb 5 (length m))
    (either (leb (get_or m 2 0) (length bytes))
    (either (ce_fits m)
    (Ok (ce_numbered m (data_asked bytes (get_or m 2 0))))
    (Err BadPacket))
    (Err NoFit))
    (Err NoFit)

abbrev pub pipeline_numbered : List ℕ → Data → TwoPcPacket
pipeline_numbered m d =
    record {
      transaction_id = get_or m 0 0;
      state = phase_numbered (get_or m 1 0);
      flags_bitmap = record { len = get_or m 2 0; marks = get_or m 3 0 };
      abort_flag = eqb (get_or m 4 0) 1;
      nack_tx_id = get_or m 5 0;
      transaction_data = d;
      sender = get_or m 7 0;
      piggyback_tx = tx_numbered (get_or m 8 0) (get_or m 9 0);
      piggyback_state = state_numbered (get_or m 10 0) (get_or m 11 0);
    }

-- what may be absent: 1 and any number, or 0 and 0
abbrev pub pair_fits : ℕ → ℕ → Bool
pair_fits there n = leb there 1 && (eqb there 1 || eqb n 0)

abbrev pub piggyback_fits : ℕ → ℕ → ℕ → ℕ → Bool
piggyback_fits hasTx n hasState phase = pair_fits hasTx n && (pair_fits hasState phase && leb phase 2)

-- the phase and the sizes as above, a flag of 0 or 1, and what is piggybacked
unfoldable pub pipeline_fits : List ℕ → Bool
pipeline_fits m =
    leb (get_or m 1 0) 2
    && (leb (get_or m 4 0) 1
    && (sizes_fit (get_or m 2 0) (get_or m 6 0) (get_or m 3 0)
    && piggyback_fits (get_or m 8 0) (get_or m 9 0) (get_or m 10 0) (get_or m 11 0)))

unfoldable pub pipeline_asked : List ℕ → List ℕ → Result TwoPcPacket Refusal
pipeline_asked m bytes =
    either (leb 12 (length m))
    (either (leb (get_or m 6 0) (length bytes))
    (either (pipeline_fits m)
    (Ok (pipeline_numbered m (data_asked bytes (get_or m 6 0))))
    (Err BadPacket))
    (Err NoFit))
    (Err NoFit)

-- the answer and the buffer, for a packet that was asked for or the refusal, with the limits and the text
unfoldable pub asked_wrote : {P : Type 0} → (P → Bool) → (P → List ℕ) → Result P Refusal → List ℕ → ℕ → Result ℕ Refusal
asked_wrote within text (Ok p) d at = wrote_of (within p) (text p) d at
asked_wrote within text (Err k) d at = Err k

unfoldable pub asked_left : {P : Type 0} → (P → Bool) → (P → List ℕ) → Result P Refusal → List ℕ → ℕ → List ℕ
asked_left within text (Ok p) d at = left_of (within p) (text p) d at
asked_left within text (Err k) d at = d

abbrev pub ce_wrote : List ℕ → List ℕ → List ℕ → ℕ → Result ℕ Refusal
ce_wrote m bytes d at = asked_wrote (λ p. ce_within p) ce_text (ce_asked m bytes) d at

abbrev pub ce_left : List ℕ → List ℕ → List ℕ → ℕ → List ℕ
ce_left m bytes d at = asked_left (λ p. ce_within p) ce_text (ce_asked m bytes) d at

abbrev pub pipeline_wrote : List ℕ → List ℕ → List ℕ → ℕ → Result ℕ Refusal
pipeline_wrote m bytes d at = asked_wrote (λ p. pipeline_within p) pipeline_text (pipeline_asked m bytes) d at

abbrev pub pipeline_left : List ℕ → List ℕ → List ℕ → ℕ → List ℕ
pipeline_left m bytes d at = asked_left (λ p. pipeline_within p) pipeline_text (pipeline_asked m bytes) d at

-- the place that is handed back, as it was on a refusal
unfoldable pub next_of : Result ℕ Refusal → ℕ → ℕ
next_of (Ok next) old = next
next_of (Err k) old = old
