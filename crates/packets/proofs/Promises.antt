-- The promises of both families.
-- Assumes nothing.
use Rattle.std.specs.Prelude.{Option, Some, None, ok_or, Result, Ok, Err}
use mathlib.Core.Path.{◌≡◌, refl, sym, ap, ◌∙◌, subst}
use mathlib.Core.Bool.{Bool, true, false}
use mathlib.Core.List.{List, [], ◌∷◌, ◌++◌, append_assoc, append-nil}
use Prim.Native.Nat.{ℕ, ◌+◌, ◌-◌, ◌*◌, ◌^◌, ◌≤◌, ◌<◌}
use native.Mathlib.Omega.{arith}
use lib.Dec.{eqb}
use borrow.Author.Tests.{eqb-true, eqb-false}
use lib.ListN.{length, take, length-append}
use Rattle.limits.specs.declared.refusals.Refusal.{Refusal}
use Rattle.limits.specs.declared.refusals.Refusal.TheVariants.{BadPacket}
use Rattle.marks.specs.Marks.{marks_of}
use Rattle.texts.specs.Decimal.{decimal, decimal_word, decimal_le}
use Rattle.texts.specs.Readers.{Found, on, whole, is_digit, head_digit, bool_text, items_text, list_text, Reads}
use Rattle.texts.specs.ReaderLaws.{behind_reads, both_reads, bool_reads, whole_sound, whole_complete}
use Rattle.texts.specs.NumberLaws.{num_reads}
use Rattle.texts.specs.ListLaws.{Every, none, more}
use Rattle.texts.specs.Rfc8259.{Tree, Ws, Str, Value, Members, Json}
use Rattle.texts.specs.JsonLaws.{bare, number_of, chars, bool_value, list_value}
use Rattle.texts.proofs.Single.{single}
use Rattle.packets.specs.Packets.{
  phase_text,
  bitmap_text,
  data_text,
  option_text,
  tx_text,
  state_text,
  key_term,
  key_phase,
  key_proposal_data,
  key_flags_bitmap,
  key_transaction_id,
  key_state,
  key_abort_flag,
  key_nack_tx_id,
  key_transaction_data,
  key_sender,
  key_piggyback_tx,
  key_piggyback_state,
  key_end,
  ce_text,
  pipeline_text,
  ValidBitmap,
  ValidData,
  ValidTx,
  ValidCe,
  ValidPipeline,
}
use Rattle.packets.specs.Reading.{ce_fields, ce_packet, ce_at, ce_read_of, PipelineValues, pipeline_fields, pipeline_packet, pipeline_at, pipeline_read_of}
use Rattle.packets.specs.Values.{phase_name, num_value, phase_value, bitmap_value, data_value, option_value, tx_value, state_value, name_term, name_phase, name_proposal_data, name_flags_bitmap, name_transaction_id, name_state, name_abort_flag, name_nack_tx_id, name_transaction_data, name_sender, name_piggyback_tx, name_piggyback_state, ce_value, pipeline_value}
use Rattle.packets.specs.Promises.{CePromises, PipelinePromises}
use Rattle.packets.proofs.Parts.{phase_reads, bitmap_reads, data_reads, tx_reads, state_reads, full}
use Rattle.packets.proofs.Texts.{bitmap_len_none, bitmap_len_more, marks_len_le}
use Rattle.packets.proofs.Writes.{limits_valid, phase_le, bool_le, state_le, ce_length, pipeline_length}
use Rattle.packets.specs.declared.TwoPcPhase.{TwoPcPhase}
use Rattle.packets.specs.declared.TwoPcPhase.TheVariants.{Prepare, Committed, Aborted}
use Rattle.packets.specs.declared.Bitmap.{Bitmap}
use Rattle.packets.specs.declared.Data.{Data}
use Rattle.packets.specs.declared.CeTwoPcPacket.{CeTwoPcPacket}
use Rattle.packets.specs.declared.TwoPcPacket.{TwoPcPacket}

-- ---- the parts are JSON values
phase_value_lem : (p : TwoPcPhase) → Value (phase_text p) (phase_value p)
phase_value_lem Prepare = Value.is_string (Str.quoted (chars (phase_name Prepare) tt))
phase_value_lem Committed = Value.is_string (Str.quoted (chars (phase_name Committed) tt))
phase_value_lem Aborted = Value.is_string (Str.quoted (chars (phase_name Aborted) tt))

bitmap_value_lem : (b : Bitmap) → Value (bitmap_text b) (bitmap_value b)
unfolding bitmap_text
bitmap_value_lem b = list_value bool_text Tree.bool bool_value (marks_of b.marks b.len)

data_value_lem : (d : Data) → Value (data_text d) (data_value d)
unfolding data_text
data_value_lem d = list_value decimal num_value (λ n. Value.is_number (number_of n)) (take d.len d.bytes)

option_value_lem : {A : Type 0} {text : A → List ℕ} {value : A → Tree} → ((x : A) → Value (text x) (value x))
    → (p : Option A) → Value (option_text text p) (option_value value p)
option_value_lem f None = Value.is_null
option_value_lem f (Some x) = f x

tx_value_lem : (p : Option ℕ) → Value (tx_text p) (tx_value p)
tx_value_lem = option_value_lem (λ n. Value.is_number (number_of n))

state_value_lem : (p : Option TwoPcPhase) → Value (state_text p) (state_value p)
state_value_lem = option_value_lem phase_value_lem

-- ---- how long valid parts can be
items_short : (xs : List ℕ) → Every (λ x. x < 256) xs → length (items_text decimal xs) ≤ 4 * length xs + 1
unfolding items_text
items_short [] none = omega arith
items_short (x ∷ r) (more h k) = omega (arith, decimal_le x 2 (omega arith), length-append (decimal x) (items_text decimal r), items_short r k)

list_short : (xs : List ℕ) → Every (λ x. x < 256) xs → length (list_text decimal xs) ≤ 4 * length xs + 1 + (1 - length xs)
unfolding list_text
list_short [] none = omega arith
list_short (x ∷ r) (more h k) = omega (arith, decimal_le x 2 (omega arith), length-append (decimal x) (items_text decimal r), items_short r k)

data_short : (d : Data) → ValidData d → length (data_text d) ≤ 129
unfolding data_text
data_short d v = omega (arith, list_short (take d.len d.bytes) v.small, full d v, v.at_most32)

bitmap_short : (b : Bitmap) → ValidBitmap b → length (bitmap_text b) ≤ 385
bitmap_short b v = go (eqb b.len 0) refl
  where
    go : (t : Bool) → eqb b.len 0 ≡ t → length (bitmap_text b) ≤ 385
    go true e = omega (arith, bitmap_len_none b (eqb-true b.len 0 e))
    go false e = omega (arith, bitmap_len_more b (eqb-false b.len 0 e), marks_len_le b.len b.marks, v.at_most64)

tx_short : (p : Option ℕ) → ValidTx p → length (tx_text p) ≤ 20
tx_short None h = omega arith
tx_short (Some n) h = decimal_word n h

-- no digit stands at the end
end_stops : (x : List ℕ) → head_digit (key_end ++ x) ≡ false
unfolding head_digit is_digit
end_stops x = refl

same_ok : {A : Type 0} {x y : A} → ◌≡◌ {A = Result A Refusal} (Ok x) (Ok y) → x ≡ y
same_ok h = cc

-- ---- CeTwoPcPacket
abbrev ce_parts : ℕ × (TwoPcPhase × (Data × Bitmap)) → List ℕ
ce_parts w = (key_term ++ decimal w.0) ++ ((key_phase ++ phase_text w.1.0) ++ ((key_proposal_data ++ data_text w.1.1.0) ++ ((key_flags_bitmap ++ bitmap_text w.1.1.1))))

abbrev ce_may : ℕ × (TwoPcPhase × (Data × Bitmap)) → Type 0
ce_may w = (w.0 < 2 ^ 64) × (Unit {0} × (ValidData w.1.1.0 × (ValidBitmap w.1.1.1)))

ce_reads : Reads ce_fields ce_parts ce_may
unfolding ce_fields head_digit is_digit
ce_reads = (both_reads (behind_reads key_term (num_reads (2 ^ 64) (omega arith)))
    (both_reads (behind_reads key_phase phase_reads)
    (both_reads (behind_reads key_proposal_data data_reads)
    (behind_reads key_flags_bitmap bitmap_reads) (λ b x. refl)) (λ b x. refl)) (λ b x. refl))

ce_join : (v1 v2 v3 v4 : List ℕ) → ((key_term ++ v1) ++ ((key_phase ++ v2) ++ ((key_proposal_data ++ v3) ++ (key_flags_bitmap ++ v4)))) ++ key_end ≡ key_term ++ (v1 ++ (key_phase ++ (v2 ++ (key_proposal_data ++ (v3 ++ (key_flags_bitmap ++ (v4 ++ key_end)))))))
ce_join v1 v2 v3 v4 =
    append_assoc (key_term ++ v1) ((key_phase ++ v2) ++ ((key_proposal_data ++ v3) ++ (key_flags_bitmap ++ v4))) key_end
    ∙ ap (λ (x : List ℕ). (key_term ++ v1) ++ x) (append_assoc (key_phase ++ v2) ((key_proposal_data ++ v3) ++ (key_flags_bitmap ++ v4)) key_end
    ∙ ap (λ (x : List ℕ). (key_phase ++ v2) ++ x) (append_assoc (key_proposal_data ++ v3) (key_flags_bitmap ++ v4) key_end))

ce_text_lem : (w : ℕ × (TwoPcPhase × (Data × Bitmap))) → ce_parts w ++ key_end ≡ ce_text (ce_packet w)
unfolding ce_text
ce_text_lem w = ce_join (decimal w.0) (phase_text w.1.0) (data_text w.1.1.0) (bitmap_text w.1.1.1)

ce_valid : (w : ℕ × (TwoPcPhase × (Data × Bitmap))) → ce_may w → ValidCe (ce_packet w)
ce_valid w m = record { term_fits = m.0; bytes = m.1.1.0; bitmap = m.1.1.1 }

abbrev ce_values : CeTwoPcPacket → ℕ × (TwoPcPhase × (Data × Bitmap))
ce_values p = (p.term, (p.phase, (p.proposal_data, p.flags_bitmap)))

ce_may_lem : (p : CeTwoPcPacket) → ValidCe p → ce_may (ce_values p)
ce_may_lem p v = (v.term_fits, (tt, (v.bytes, v.bitmap)))

ce_given : (s : List ℕ) (p : CeTwoPcPacket) → ce_read_of s ≡ Ok p → (s ≡ ce_text p) × ValidCe p
unfolding ce_read_of ce_at on
ce_given s p h = go (whole ce_fields key_end s) refl h
  where
    go : (x : Found (ℕ × (TwoPcPhase × (Data × Bitmap)))) → whole ce_fields key_end s ≡ x → ok_or (on x (λ w n. Some (ce_packet w)) None) BadPacket ≡ Ok p → (s ≡ ce_text p) × ValidCe p
    go (Some w) e k =
        let q = whole_sound key_end ce_reads s w.0 w.1 e in
        let same : ce_packet w.0 ≡ p = cc in
        subst (λ (r : CeTwoPcPacket). (s ≡ ce_text r) × ValidCe r) same (q.0 ∙ ce_text_lem w.0, ce_valid w.0 q.1)
    go None e k = let z : ◌≡◌ {A = ℕ} 0 1 = cc in absurd (omega arith)

ce_back : (p : CeTwoPcPacket) → ValidCe p → ce_read_of (ce_text p) ≡ Ok p
unfolding ce_read_of ce_at on
ce_back p v = rw (whole_complete key_end ce_reads (ce_text p) (ce_values p) end_stops (ce_may_lem p v) (sym (ce_text_lem (ce_values p))))

ce_other : (s : List ℕ) → ((p : CeTwoPcPacket) → ValidCe p → s ≡ ce_text p → ⊥) → ce_read_of s ≡ Err BadPacket
unfolding ce_read_of ce_at on
ce_other s h = go (whole ce_fields key_end s) refl
  where
    go : (x : Found (ℕ × (TwoPcPhase × (Data × Bitmap)))) → whole ce_fields key_end s ≡ x → ok_or (on x (λ w n. Some (ce_packet w)) None) BadPacket ≡ Err BadPacket
    go (Some w) e = let q = whole_sound key_end ce_reads s w.0 w.1 e in absurd (h (ce_packet w.0) (ce_valid w.0 q.1) (q.0 ∙ ce_text_lem w.0))
    go None e = refl

pub ce_json : (p : CeTwoPcPacket) → Json (ce_text p) (ce_value p)
unfolding ce_text ce_value
ce_json p =
    subst (λ (t : List ℕ). Json t (ce_value p)) (append-nil (ce_text p))
    (Json.text Ws.end
    (Value.members (bare 123) (Str.quoted (chars name_term tt)) (bare 58) (Value.is_number (number_of p.term))
    (Members.more_members (bare 44) (Str.quoted (chars name_phase tt)) (bare 58) (phase_value_lem p.phase)
    (Members.more_members (bare 44) (Str.quoted (chars name_proposal_data tt)) (bare 58) (data_value_lem p.proposal_data)
    (Members.more_members (bare 44) (Str.quoted (chars name_flags_bitmap tt)) (bare 58) (bitmap_value_lem p.flags_bitmap)
    (Members.close_members (bare 125))))))
    Ws.end)

ce_short : (p : CeTwoPcPacket) → ValidCe p → length (ce_text p) ≤ 596
ce_short p v = omega (arith, ce_length p, decimal_word p.term v.term_fits, phase_le p.phase, data_short p.proposal_data v.bytes, bitmap_short p.flags_bitmap v.bitmap)

ce_said : (s : List ℕ) (p : CeTwoPcPacket) → ce_read_of s ≡ Ok p → Json s (ce_value p)
ce_said s p h = subst (λ (t : List ℕ). Json t (ce_value p)) (sym (ce_given s p h).0) (ce_json p)

pub ce_promises : CePromises
ce_promises =
    record {
      json = ce_json;
      given = ce_given;
      said = ce_said;
      only = λ s p w h j. single.text j (ce_said s p h);
      back = ce_back;
      other = ce_other;
      one = λ p q v u e. same_ok (sym (ce_back p v) ∙ ap ce_read_of e ∙ ce_back q u);
      fits = λ p v. limits_valid v.bitmap v.bytes;
      short = ce_short;
    }

-- ---- TwoPcPacket
abbrev pipeline_parts : PipelineValues → List ℕ
pipeline_parts w = (key_transaction_id ++ decimal w.0) ++ ((key_state ++ phase_text w.1.0) ++ ((key_flags_bitmap ++ bitmap_text w.1.1.0) ++ ((key_abort_flag ++ bool_text w.1.1.1.0) ++ ((key_nack_tx_id ++ decimal w.1.1.1.1.0) ++ ((key_transaction_data ++ data_text w.1.1.1.1.1.0) ++ ((key_sender ++ decimal w.1.1.1.1.1.1.0) ++ ((key_piggyback_tx ++ tx_text w.1.1.1.1.1.1.1.0) ++ ((key_piggyback_state ++ state_text w.1.1.1.1.1.1.1.1)))))))))

abbrev pipeline_may : PipelineValues → Type 0
pipeline_may w = (w.0 < 2 ^ 64) × (Unit {0} × (ValidBitmap w.1.1.0 × (Unit {0} × ((w.1.1.1.1.0 < 2 ^ 64) × (ValidData w.1.1.1.1.1.0 × ((w.1.1.1.1.1.1.0 < 2 ^ 64) × (ValidTx w.1.1.1.1.1.1.1.0 × (Unit {0}))))))))

pipeline_reads : Reads pipeline_fields pipeline_parts pipeline_may
unfolding pipeline_fields head_digit is_digit
pipeline_reads = (both_reads (behind_reads key_transaction_id (num_reads (2 ^ 64) (omega arith)))
    (both_reads (behind_reads key_state phase_reads)
    (both_reads (behind_reads key_flags_bitmap bitmap_reads)
    (both_reads (behind_reads key_abort_flag bool_reads)
    (both_reads (behind_reads key_nack_tx_id (num_reads (2 ^ 64) (omega arith)))
    (both_reads (behind_reads key_transaction_data data_reads)
    (both_reads (behind_reads key_sender (num_reads (2 ^ 64) (omega arith)))
    (both_reads (behind_reads key_piggyback_tx tx_reads)
    (behind_reads key_piggyback_state state_reads) (λ b x. refl)) (λ b x. refl)) (λ b x. refl)) (λ b x. refl)) (λ b x. refl)) (λ b x. refl)) (λ b x. refl)) (λ b x. refl))

pipeline_join : (v1 v2 v3 v4 v5 v6 v7 v8 v9 : List ℕ) → ((key_transaction_id ++ v1) ++ ((key_state ++ v2) ++ ((key_flags_bitmap ++ v3) ++ ((key_abort_flag ++ v4) ++ ((key_nack_tx_id ++ v5) ++ ((key_transaction_data ++ v6) ++ ((key_sender ++ v7) ++ ((key_piggyback_tx ++ v8) ++ (key_piggyback_state ++ v9))))))))) ++ key_end ≡ key_transaction_id ++ (v1 ++ (key_state ++ (v2 ++ (key_flags_bitmap ++ (v3 ++ (key_abort_flag ++ (v4 ++ (key_nack_tx_id ++ (v5 ++ (key_transaction_data ++ (v6 ++ (key_sender ++ (v7 ++ (key_piggyback_tx ++ (v8 ++ (key_piggyback_state ++ (v9 ++ key_end)))))))))))))))))
pipeline_join v1 v2 v3 v4 v5 v6 v7 v8 v9 =
    append_assoc (key_transaction_id ++ v1) ((key_state ++ v2) ++ ((key_flags_bitmap ++ v3) ++ ((key_abort_flag ++ v4) ++ ((key_nack_tx_id ++ v5) ++ ((key_transaction_data ++ v6) ++ ((key_sender ++ v7) ++ ((key_piggyback_tx ++ v8) ++ (key_piggyback_state ++ v9)))))))) key_end
    ∙ ap (λ (x : List ℕ). (key_transaction_id ++ v1) ++ x) (append_assoc (key_state ++ v2) ((key_flags_bitmap ++ v3) ++ ((key_abort_flag ++ v4) ++ ((key_nack_tx_id ++ v5) ++ ((key_transaction_data ++ v6) ++ ((key_sender ++ v7) ++ ((key_piggyback_tx ++ v8) ++ (key_piggyback_state ++ v9))))))) key_end
    ∙ ap (λ (x : List ℕ). (key_state ++ v2) ++ x) (append_assoc (key_flags_bitmap ++ v3) ((key_abort_flag ++ v4) ++ ((key_nack_tx_id ++ v5) ++ ((key_transaction_data ++ v6) ++ ((key_sender ++ v7) ++ ((key_piggyback_tx ++ v8) ++ (key_piggyback_state ++ v9)))))) key_end
    ∙ ap (λ (x : List ℕ). (key_flags_bitmap ++ v3) ++ x) (append_assoc (key_abort_flag ++ v4) ((key_nack_tx_id ++ v5) ++ ((key_transaction_data ++ v6) ++ ((key_sender ++ v7) ++ ((key_piggyback_tx ++ v8) ++ (key_piggyback_state ++ v9))))) key_end
    ∙ ap (λ (x : List ℕ). (key_abort_flag ++ v4) ++ x) (append_assoc (key_nack_tx_id ++ v5) ((key_transaction_data ++ v6) ++ ((key_sender ++ v7) ++ ((key_piggyback_tx ++ v8) ++ (key_piggyback_state ++ v9)))) key_end
    ∙ ap (λ (x : List ℕ). (key_nack_tx_id ++ v5) ++ x) (append_assoc (key_transaction_data ++ v6) ((key_sender ++ v7) ++ ((key_piggyback_tx ++ v8) ++ (key_piggyback_state ++ v9))) key_end
    ∙ ap (λ (x : List ℕ). (key_transaction_data ++ v6) ++ x) (append_assoc (key_sender ++ v7) ((key_piggyback_tx ++ v8) ++ (key_piggyback_state ++ v9)) key_end
    ∙ ap (λ (x : List ℕ). (key_sender ++ v7) ++ x) (append_assoc (key_piggyback_tx ++ v8) (key_piggyback_state ++ v9) key_end)))))))

pipeline_text_lem : (w : PipelineValues) → pipeline_parts w ++ key_end ≡ pipeline_text (pipeline_packet w)
unfolding pipeline_text
pipeline_text_lem w = pipeline_join (decimal w.0) (phase_text w.1.0) (bitmap_text w.1.1.0) (bool_text w.1.1.1.0) (decimal w.1.1.1.1.0) (data_text w.1.1.1.1.1.0) (decimal w.1.1.1.1.1.1.0) (tx_text w.1.1.1.1.1.1.1.0) (state_text w.1.1.1.1.1.1.1.1)

pipeline_valid : (w : PipelineValues) → pipeline_may w → ValidPipeline (pipeline_packet w)
pipeline_valid w m = record { id_fits = m.0; bitmap = m.1.1.0; nack_fits = m.1.1.1.1.0; bytes = m.1.1.1.1.1.0; sender_fits = m.1.1.1.1.1.1.0; tx_fits = m.1.1.1.1.1.1.1.0 }

abbrev pipeline_values : TwoPcPacket → PipelineValues
pipeline_values p = (p.transaction_id, (p.state, (p.flags_bitmap, (p.abort_flag, (p.nack_tx_id, (p.transaction_data, (p.sender, (p.piggyback_tx, p.piggyback_state))))))))

pipeline_may_lem : (p : TwoPcPacket) → ValidPipeline p → pipeline_may (pipeline_values p)
pipeline_may_lem p v = (v.id_fits, (tt, (v.bitmap, (tt, (v.nack_fits, (v.bytes, (v.sender_fits, (v.tx_fits, tt))))))))

pipeline_given : (s : List ℕ) (p : TwoPcPacket) → pipeline_read_of s ≡ Ok p → (s ≡ pipeline_text p) × ValidPipeline p
unfolding pipeline_read_of pipeline_at on
pipeline_given s p h = go (whole pipeline_fields key_end s) refl h
  where
    go : (x : Found (PipelineValues)) → whole pipeline_fields key_end s ≡ x → ok_or (on x (λ w n. Some (pipeline_packet w)) None) BadPacket ≡ Ok p → (s ≡ pipeline_text p) × ValidPipeline p
    go (Some w) e k =
        let q = whole_sound key_end pipeline_reads s w.0 w.1 e in
        let same : pipeline_packet w.0 ≡ p = cc in
        subst (λ (r : TwoPcPacket). (s ≡ pipeline_text r) × ValidPipeline r) same (q.0 ∙ pipeline_text_lem w.0, pipeline_valid w.0 q.1)
    go None e k = let z : ◌≡◌ {A = ℕ} 0 1 = cc in absurd (omega arith)

pipeline_back : (p : TwoPcPacket) → ValidPipeline p → pipeline_read_of (pipeline_text p) ≡ Ok p
unfolding pipeline_read_of pipeline_at on
pipeline_back p v = rw (whole_complete key_end pipeline_reads (pipeline_text p) (pipeline_values p) end_stops (pipeline_may_lem p v) (sym (pipeline_text_lem (pipeline_values p))))

pipeline_other : (s : List ℕ) → ((p : TwoPcPacket) → ValidPipeline p → s ≡ pipeline_text p → ⊥) → pipeline_read_of s ≡ Err BadPacket
unfolding pipeline_read_of pipeline_at on
pipeline_other s h = go (whole pipeline_fields key_end s) refl
  where
    go : (x : Found (PipelineValues)) → whole pipeline_fields key_end s ≡ x → ok_or (on x (λ w n. Some (pipeline_packet w)) None) BadPacket ≡ Err BadPacket
    go (Some w) e = let q = whole_sound key_end pipeline_reads s w.0 w.1 e in absurd (h (pipeline_packet w.0) (pipeline_valid w.0 q.1) (q.0 ∙ pipeline_text_lem w.0))
    go None e = refl

pub pipeline_json : (p : TwoPcPacket) → Json (pipeline_text p) (pipeline_value p)
unfolding pipeline_text pipeline_value
pipeline_json p =
    subst (λ (t : List ℕ). Json t (pipeline_value p)) (append-nil (pipeline_text p))
    (Json.text Ws.end
    (Value.members (bare 123) (Str.quoted (chars name_transaction_id tt)) (bare 58) (Value.is_number (number_of p.transaction_id))
    (Members.more_members (bare 44) (Str.quoted (chars name_state tt)) (bare 58) (phase_value_lem p.state)
    (Members.more_members (bare 44) (Str.quoted (chars name_flags_bitmap tt)) (bare 58) (bitmap_value_lem p.flags_bitmap)
    (Members.more_members (bare 44) (Str.quoted (chars name_abort_flag tt)) (bare 58) (bool_value p.abort_flag)
    (Members.more_members (bare 44) (Str.quoted (chars name_nack_tx_id tt)) (bare 58) (Value.is_number (number_of p.nack_tx_id))
    (Members.more_members (bare 44) (Str.quoted (chars name_transaction_data tt)) (bare 58) (data_value_lem p.transaction_data)
    (Members.more_members (bare 44) (Str.quoted (chars name_sender tt)) (bare 58) (Value.is_number (number_of p.sender))
    (Members.more_members (bare 44) (Str.quoted (chars name_piggyback_tx tt)) (bare 58) (tx_value_lem p.piggyback_tx)
    (Members.more_members (bare 44) (Str.quoted (chars name_piggyback_state tt)) (bare 58) (state_value_lem p.piggyback_state)
    (Members.close_members (bare 125)))))))))))
    Ws.end)

pipeline_short : (p : TwoPcPacket) → ValidPipeline p → length (pipeline_text p) ≤ 758
pipeline_short p v = omega (arith, pipeline_length p, decimal_word p.transaction_id v.id_fits, phase_le p.state, bitmap_short p.flags_bitmap v.bitmap, bool_le p.abort_flag, decimal_word p.nack_tx_id v.nack_fits, data_short p.transaction_data v.bytes, decimal_word p.sender v.sender_fits, tx_short p.piggyback_tx v.tx_fits, state_le p.piggyback_state)

pipeline_said : (s : List ℕ) (p : TwoPcPacket) → pipeline_read_of s ≡ Ok p → Json s (pipeline_value p)
pipeline_said s p h = subst (λ (t : List ℕ). Json t (pipeline_value p)) (sym (pipeline_given s p h).0) (pipeline_json p)

pub pipeline_promises : PipelinePromises
pipeline_promises =
    record {
      json = pipeline_json;
      given = pipeline_given;
      said = pipeline_said;
      only = λ s p w h j. single.text j (pipeline_said s p h);
      back = pipeline_back;
      other = pipeline_other;
      one = λ p q v u e. same_ok (sym (pipeline_back p v) ∙ ap pipeline_read_of e ∙ pipeline_back q u);
      fits = λ p v. limits_valid v.bitmap v.bytes;
      short = pipeline_short;
    }
