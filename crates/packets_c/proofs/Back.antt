-- What is written is read back, and what is read is written again.
-- Assumes nothing.
use Rattle.std.specs.Prelude.{Result, Ok, Err}
use mathlib.Core.Path.{◌≡◌, refl, sym, ap, ap₂, ◌∙◌}
use mathlib.Core.Bool.{Bool, true, false}
use mathlib.Core.List.{List, ◌++◌, append_assoc}
use Prim.Native.Nat.{ℕ, ◌+◌, ◌-◌, ◌^◌, ◌≤◌, ◌<◌}
use native.Mathlib.Omega.{arith}
use lib.Dec.{leb}
use lib.ListN.{length, take, drop, get_or, length-drop}
use lib.Seq.{take_at, drop_at, length-take-le}
use mir.Val.{bool_byte}
use borrow.Author.Tests.{le-leb, leb-true}
use Rattle.limits.specs.declared.refusals.Refusal.{Refusal}
use Rattle.limits.specs.declared.refusals.Refusal.TheVariants.{BadPacket, NoFit}
use Rattle.loops.specs.Pick.{either}
use Rattle.marks.specs.Sets.{true_and, bit_le}
use Rattle.texts.specs.Put.{written, length_written}
use Rattle.texts.specs.ListLaws.{Every}
use Rattle.packets.specs.Packets.{ce_text, pipeline_text, ce_within, pipeline_within, ValidCe, ValidPipeline}
use Rattle.packets.specs.Reading.{ce_read, ce_read_of, pipeline_read, pipeline_read_of}
use Rattle.packets.specs.Writing.{wrote_of, left_of}
use Rattle.packets.specs.declared.CeTwoPcPacket.{CeTwoPcPacket}
use Rattle.packets.specs.declared.TwoPcPacket.{TwoPcPacket}
use Rattle.packets.proofs.Promises.{ce_promises, pipeline_promises}
use Rattle.packets_c.specs.Console.{
  phase_number,
  ce_numbers,
  pipeline_numbers,
  ce_told,
  pipeline_told,
  data_asked,
  sizes_fit,
  ce_fits,
  ce_numbered,
  ce_asked,
  pipeline_fits,
  pipeline_numbered,
  pipeline_asked,
  asked_wrote,
  asked_left,
}
use Rattle.packets_c.specs.Back.{ce_entries, pipeline_entries, ReadBack, WrittenAgain}
use Rattle.packets_c.proofs.Asked.{
  ce_as_read,
  pipeline_as_read,
}
use Rattle.packets_c.proofs.Numbered.{
  CeFit,
  ce_fit,
  PipelineFit,
  pipeline_fit,
  every_at,
  picked,
  pick,
  phase_back,
  phase_again,
  phase_small,
  flag_back,
  flag_again,
  tx_back,
  tx_again,
  tx_valid,
  state_back,
  state_again,
  piggyback_fit,
  piggyback_fits_lem,
  data_valid,
  data_again,
  data_room,
  sizes_fit_lem,
}

-- ---- an answer behind three tests that is no refusal: all three passed
all_three : {R : Type 0} (a b c : Bool) (x : Result R Refusal) (j k l : Refusal) (p : R)
    → either a (either b (either c x (Err j)) (Err k)) (Err l) ≡ Ok p → (a ≡ true) × (b ≡ true) × (c ≡ true) × (x ≡ Ok p)
all_three true true true x j k l p e = (refl, refl, refl, e)
all_three true true false x j k l p e = let z : ◌≡◌ {A = ℕ} 0 1 = cc in absurd (omega arith)
all_three true false c x j k l p e = let z : ◌≡◌ {A = ℕ} 0 1 = cc in absurd (omega arith)
all_three false b c x j k l p e = let z : ◌≡◌ {A = ℕ} 0 1 = cc in absurd (omega arith)

same_ok : {R : Type 0} {x y : R} → ◌≡◌ {A = Result R Refusal} (Ok x) (Ok y) → x ≡ y
same_ok e = cc

-- ---- a write that is taken
record Taken {P : Type 0} (within : P → Bool) (text : P → List ℕ) (r : Result P Refusal) (d : List ℕ) (at next : ℕ) : Type 0 where
  packet : P
  asked : r ≡ Ok packet
  room : at + length (text packet) ≤ length d
  next_is : next ≡ at + length (text packet)
  left : asked_left within text r d at ≡ written d at (text packet)

module _ {P : Type 0} (within : P → Bool) (text : P → List ℕ) (d : List ℕ) (at : ℕ) where
  take_it : (p : P) → within p ≡ true → at + length (text p) ≤ length d
      → (asked_wrote within text (Ok p) d at ≡ Ok (at + length (text p))) × (asked_left within text (Ok p) d at ≡ written d at (text p))
  unfolding asked_wrote asked_left wrote_of left_of
  take_it p f h = let q = le-leb (at + length (text p)) (length d) h in (rw (f, q), rw (f, q))

  taken : (r : Result P Refusal) (next : ℕ) → asked_wrote within text r d at ≡ Ok next → Taken within text r d at next
  unfolding asked_wrote wrote_of
  taken (Err k) next e = let z : ◌≡◌ {A = ℕ} 0 1 = cc in absurd (omega arith)
  taken (Ok p) next e = by (within p) refl (leb (at + length (text p)) (length d)) refl e
    where
      by : (b : Bool) → within p ≡ b → (c : Bool) → leb (at + length (text p)) (length d) ≡ c
          → either b (either c (Ok (at + length (text p))) (Err NoFit)) (Err BadPacket) ≡ Ok next
          → Taken within text (Ok p) d at next
      by true f true g h =
          let q = leb-true (at + length (text p)) (length d) g in
          let n : at + length (text p) ≡ next = same_ok h in
          record { packet = p; asked = refl; room = q; next_is = sym n; left = (take_it p f q).1 }
      by true f false g h = let z : ◌≡◌ {A = ℕ} 0 1 = cc in absurd (omega arith)
      by false f c g h = let z : ◌≡◌ {A = ℕ} 0 1 = cc in absurd (omega arith)

-- the text that was written stands where it was put
here : (d t : List ℕ) (at : ℕ) → at + length t ≤ length d → take (length t) (drop at (written d at t)) ≡ t
unfolding written
here d t at h =
    let r = drop (at + length t) d in
    rw append_assoc
    (ap (take (length t)) (drop_at (take at d) (t ++ r) at (length-take-le at d (omega arith)))
    ∙ take_at t r (length t) refl)

fits_here : (d t : List ℕ) (at : ℕ) → at + length t ≤ length d → length t ≤ length (drop at (written d at t))
fits_here d t at h = rw (length-drop, length_written d at t h) (omega arith)

-- so a reader that takes the text from there takes it from the buffer
reread : {P R : Type 0} (read : List ℕ → ℕ → R) {within : P → Bool} {text : P → List ℕ} {q : Result P Refusal} {d : List ℕ} {at next : ℕ} {r : R}
    → (w : Taken within text q d at next)
    → ((x : List ℕ) → length (text w.packet) ≤ length x → take (length (text w.packet)) x ≡ text w.packet → read x (length (text w.packet)) ≡ r)
    → read (drop at (asked_left within text q d at)) (next - at) ≡ r
reread read {text = text} {d = d} {at = at} w f =
    let t = text w.packet in
    ap₂ (λ (b : List ℕ) (j : ℕ). read (drop at b) (j - at)) w.left w.next_is
    ∙ (ap (read (drop at (written d at t))) (omega arith)
    ∙ f (drop at (written d at t)) (fits_here d t at w.room) (here d t at w.room))

-- ---- CeTwoPcPacket
record CeGiven (m bytes : List ℕ) : Type 0 where
  many : 5 ≤ length m
  enough : get_or m 2 0 ≤ length bytes
  fits : CeFit m
  is : ce_asked m bytes ≡ Ok (ce_numbered m (data_asked bytes (get_or m 2 0)))

module _ (m bytes : List ℕ) where
  ce_ask : 5 ≤ length m → get_or m 2 0 ≤ length bytes → ce_fits m ≡ true
      → ce_asked m bytes ≡ Ok (ce_numbered m (data_asked bytes (get_or m 2 0)))
  unfolding ce_asked
  ce_ask h k f = rw (le-leb 5 (length m) h, le-leb (get_or m 2 0) (length bytes) k, f)

  ce_given : (p : CeTwoPcPacket) → ce_asked m bytes ≡ Ok p → CeGiven m bytes
  unfolding ce_asked
  ce_given p h =
      let t = all_three (leb 5 (length m)) (leb (get_or m 2 0) (length bytes)) (ce_fits m) (Ok (ce_numbered m (data_asked bytes (get_or m 2 0)))) BadPacket NoFit NoFit p h in
      let p = leb-true 5 (length m) t.0 in
      let q = leb-true (get_or m 2 0) (length bytes) t.1 in
      record { many = p; enough = q; fits = ce_fit m t.2; is = ce_ask p q t.2 }

  module _ (w : Every (λ x. x < 2 ^ 64) m) (s : Every (λ x. x < 256) bytes) (g : CeGiven m bytes) where
    abbrev ce_packet : CeTwoPcPacket
    ce_packet = ce_numbered m (data_asked bytes (get_or m 2 0))

    ce_valid : ValidCe ce_packet
    ce_valid =
        record {
          term_fits = every_at m 0 (omega arith) w;
          bytes = data_valid bytes (get_or m 2 0) g.fits.sizes.small g.enough s;
          bitmap = record { at_most64 = g.fits.sizes.few; marks_lt = g.fits.sizes.known };
        }

    ce_same : ce_numbers ce_packet ≡ take 5 m
    unfolding ce_numbers picked
    ce_same = rw (phase_back (get_or m 1 0) g.fits.phase) (sym (pick 5 0 m g.many))

ce_read_lem : (text : List ℕ) (n k : ℕ) (p : CeTwoPcPacket) → 5 ≤ n → 32 ≤ k → ValidCe p
    → length (ce_text p) ≤ length text → take (length (ce_text p)) text ≡ ce_text p
    → ce_told text (length (ce_text p)) n k ≡ Ok p
unfolding ce_read
ce_read_lem text n k p h l v r e =
    sym (ce_as_read text (length (ce_text p)) n k h l)
    ∙ rw (le-leb (length (ce_text p)) (length text) r, e) (ce_promises.back p v)

pub ce_read_back : ReadBack ce_entries
ce_read_back m bytes d at n k next w s h l e =
    let t = taken (λ p. ce_within p) ce_text d at (ce_asked m bytes) next e in
    let p : CeTwoPcPacket = t.packet in
    let g = ce_given m bytes p t.asked in
    let q : p ≡ ce_numbered m (data_asked bytes (get_or m 2 0)) = same_ok (sym t.asked ∙ g.is) in
    let v : ValidCe p = rw q (ce_valid m bytes w s g) in
    record {
      packet = p;
      taken = reread (λ x j. ce_told x j n k) t (λ x y z. ce_read_lem x n k p h l v y z);
      same = ap ce_numbers q ∙ ce_same m bytes w s g;
      kept = ap (λ (x : CeTwoPcPacket). x.proposal_data.bytes) q;
    }

record CeGave (text : List ℕ) (len : ℕ) (p : CeTwoPcPacket) : Type 0 where
  within : len ≤ length text
  whole : take len text ≡ ce_text p
  valid : ValidCe p

module _ (text : List ℕ) (len n k : ℕ) where
  ce_gave : (p : CeTwoPcPacket) → ce_told text len n k ≡ Ok p → CeGave text len p
  unfolding ce_told ce_read
  ce_gave p h =
      let t = all_three (leb 5 n) (leb 32 k) (leb len (length text)) (ce_read_of (take len text)) NoFit NoFit NoFit p h in
      let g = ce_promises.given (take len text) p t.3 in
      record { within = leb-true len (length text) t.2; whole = g.0; valid = g.1 }

module _ (p : CeTwoPcPacket) (v : ValidCe p) where
  ce_numbers_fit : ce_fits (ce_numbers p) ≡ true
  unfolding ce_fits ce_numbers
  ce_numbers_fit =
      true_and (leb (phase_number p.phase) 2) _ (le-leb _ 2 (phase_small p.phase))
      (sizes_fit_lem v.bitmap v.bytes)

  ce_again : ce_asked (ce_numbers p) p.proposal_data.bytes ≡ Ok p
  unfolding ce_numbers
  ce_again =
      ce_ask (ce_numbers p) p.proposal_data.bytes (omega arith) (data_room p.proposal_data v.bytes)
      ce_numbers_fit
      ∙ rw (phase_again p.phase, data_again p.proposal_data v.bytes)

pub ce_written_again : WrittenAgain ce_entries
ce_written_again text len n k d at p e h =
    let g = ce_gave text len n k p e in
    let l : length (ce_text p) ≡ len = sym (ap length g.whole) ∙ length-take-le len text g.within in
    let w = take_it (λ p. ce_within p) ce_text d at p (ce_promises.fits p g.valid) (omega (arith, l)) in
    let o = ce_again p g.valid in
    (rw o (w.0 ∙ ap (λ (x : ℕ). Ok (at + x)) l), rw o (w.1 ∙ ap (written d at) (sym g.whole)))

-- ---- TwoPcPacket
record PipelineGiven (m bytes : List ℕ) : Type 0 where
  many : 12 ≤ length m
  enough : get_or m 6 0 ≤ length bytes
  fits : PipelineFit m
  is : pipeline_asked m bytes ≡ Ok (pipeline_numbered m (data_asked bytes (get_or m 6 0)))

module _ (m bytes : List ℕ) where
  pipeline_ask : 12 ≤ length m → get_or m 6 0 ≤ length bytes → pipeline_fits m ≡ true
      → pipeline_asked m bytes ≡ Ok (pipeline_numbered m (data_asked bytes (get_or m 6 0)))
  unfolding pipeline_asked
  pipeline_ask h k f = rw (le-leb 12 (length m) h, le-leb (get_or m 6 0) (length bytes) k, f)

  pipeline_given : (p : TwoPcPacket) → pipeline_asked m bytes ≡ Ok p → PipelineGiven m bytes
  unfolding pipeline_asked
  pipeline_given p h =
      let t = all_three (leb 12 (length m)) (leb (get_or m 6 0) (length bytes)) (pipeline_fits m) (Ok (pipeline_numbered m (data_asked bytes (get_or m 6 0)))) BadPacket NoFit NoFit p h in
      let p = leb-true 12 (length m) t.0 in
      let q = leb-true (get_or m 6 0) (length bytes) t.1 in
      record { many = p; enough = q; fits = pipeline_fit m t.2; is = pipeline_ask p q t.2 }

  module _ (w : Every (λ x. x < 2 ^ 64) m) (s : Every (λ x. x < 256) bytes) (g : PipelineGiven m bytes) where
    abbrev pipeline_packet : TwoPcPacket
    pipeline_packet = pipeline_numbered m (data_asked bytes (get_or m 6 0))

    pipeline_valid : ValidPipeline pipeline_packet
    pipeline_valid =
        record {
          id_fits = every_at m 0 (omega arith) w;
          nack_fits = every_at m 5 (omega arith) w;
          sender_fits = every_at m 7 (omega arith) w;
          tx_fits = tx_valid (get_or m 8 0) (get_or m 9 0) (every_at m 9 (omega arith) w);
          bytes = data_valid bytes (get_or m 6 0) g.fits.sizes.small g.enough s;
          bitmap = record { at_most64 = g.fits.sizes.few; marks_lt = g.fits.sizes.known };
        }

    pipeline_same : pipeline_numbers pipeline_packet ≡ take 12 m
    unfolding pipeline_numbers picked
    pipeline_same =
        let o = piggyback_fit (get_or m 8 0) (get_or m 9 0) (get_or m 10 0) (get_or m 11 0) g.fits.piggyback in
        let t = tx_back (get_or m 8 0) (get_or m 9 0) o.0 in
        let u = state_back (get_or m 10 0) (get_or m 11 0) o.1 o.2 in
        rw (
          phase_back (get_or m 1 0) g.fits.state,
          flag_back (get_or m 4 0) g.fits.abort,
          t.0,
          t.1,
          u.0,
          u.1,
        )
        (sym (pick 12 0 m g.many))

pipeline_read_lem : (text : List ℕ) (n k : ℕ) (p : TwoPcPacket) → 12 ≤ n → 32 ≤ k → ValidPipeline p
    → length (pipeline_text p) ≤ length text → take (length (pipeline_text p)) text ≡ pipeline_text p
    → pipeline_told text (length (pipeline_text p)) n k ≡ Ok p
unfolding pipeline_read
pipeline_read_lem text n k p h l v r e =
    sym (pipeline_as_read text (length (pipeline_text p)) n k h l)
    ∙ rw (le-leb (length (pipeline_text p)) (length text) r, e) (pipeline_promises.back p v)

pub pipeline_read_back : ReadBack pipeline_entries
pipeline_read_back m bytes d at n k next w s h l e =
    let t = taken (λ p. pipeline_within p) pipeline_text d at (pipeline_asked m bytes) next e in
    let p : TwoPcPacket = t.packet in
    let g = pipeline_given m bytes p t.asked in
    let q : p ≡ pipeline_numbered m (data_asked bytes (get_or m 6 0)) = same_ok (sym t.asked ∙ g.is) in
    let v : ValidPipeline p = rw q (pipeline_valid m bytes w s g) in
    record {
      packet = p;
      taken = reread (λ x j. pipeline_told x j n k) t (λ x y z. pipeline_read_lem x n k p h l v y z);
      same = ap pipeline_numbers q ∙ pipeline_same m bytes w s g;
      kept = ap (λ (x : TwoPcPacket). x.transaction_data.bytes) q;
    }

record PipelineGave (text : List ℕ) (len : ℕ) (p : TwoPcPacket) : Type 0 where
  within : len ≤ length text
  whole : take len text ≡ pipeline_text p
  valid : ValidPipeline p

module _ (text : List ℕ) (len n k : ℕ) where
  pipeline_gave : (p : TwoPcPacket) → pipeline_told text len n k ≡ Ok p → PipelineGave text len p
  unfolding pipeline_told pipeline_read
  pipeline_gave p h =
      let t = all_three (leb 12 n) (leb 32 k) (leb len (length text)) (pipeline_read_of (take len text)) NoFit NoFit NoFit p h in
      let g = pipeline_promises.given (take len text) p t.3 in
      record { within = leb-true len (length text) t.2; whole = g.0; valid = g.1 }

module _ (p : TwoPcPacket) (v : ValidPipeline p) where
  pipeline_numbers_fit : pipeline_fits (pipeline_numbers p) ≡ true
  unfolding pipeline_fits pipeline_numbers
  pipeline_numbers_fit =
      true_and (leb (phase_number p.state) 2) _ (le-leb _ 2 (phase_small p.state))
      (true_and (leb (bool_byte p.abort_flag) 1) _ (le-leb _ 1 (bit_le p.abort_flag))
      (true_and (sizes_fit p.flags_bitmap.len p.transaction_data.len p.flags_bitmap.marks) _
      (sizes_fit_lem v.bitmap v.bytes) (piggyback_fits_lem p.piggyback_tx p.piggyback_state)))

  pipeline_again : pipeline_asked (pipeline_numbers p) p.transaction_data.bytes ≡ Ok p
  unfolding pipeline_numbers
  pipeline_again =
      pipeline_ask (pipeline_numbers p) p.transaction_data.bytes (omega arith)
      (data_room p.transaction_data v.bytes)
      pipeline_numbers_fit
      ∙ rw (
        phase_again p.state,
        flag_again p.abort_flag,
        data_again p.transaction_data v.bytes,
        tx_again p.piggyback_tx,
        state_again p.piggyback_state,
      )

pub pipeline_written_again : WrittenAgain pipeline_entries
pipeline_written_again text len n k d at p e h =
    let g = pipeline_gave text len n k p e in
    let l : length (pipeline_text p) ≡ len = sym (ap length g.whole) ∙ length-take-le len text g.within in
    let w = take_it (λ p. pipeline_within p) pipeline_text d at p (pipeline_promises.fits p g.valid) (omega (arith, l)) in
    let o = pipeline_again p g.valid in
    (rw o (w.0 ∙ ap (λ (x : ℕ). Ok (at + x)) l), rw o (w.1 ∙ ap (written d at) (sym g.whole)))
