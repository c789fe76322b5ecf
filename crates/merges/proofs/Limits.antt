-- Merging and proposing stay within the limits, with nothing behind a length, so that what is held has a text and is read back from it.
-- Assumes nothing.
use Rattle.std.proofs.Common.{◌≡◌, ℕ, ◌+◌, ◌/◌, ◌%◌, ◌^◌, ◌<◌, ◌≤◌, max, Bool, true, false, ◌&&◌, ◌||◌, eqb, ltb, List, [], ◌∷◌, ◌++◌, length, take, drop, replicate, sym, refl, ap, ◌∙◌, lt_of_lt_of_le, arith, take_at, pow_pos, pow_mono, ltb-true, lt-ltb}
use Rattle.marks.specs.Marks.{has, marks}
use Rattle.marks.specs.Sets.{has_marks, marks_is, marks_lt}
use Rattle.texts.specs.Decimal.{digit, decimal, decimal_small, decimal_step, decimal_word, dec_ind}
use Rattle.texts.specs.ListLaws.{Every, none, more}
use Rattle.texts.specs.Put.{written}
use Rattle.packets.specs.Packets.{ValidBitmap, ValidData, ValidCe, proposal_text, proposal_data}
use Rattle.loops.specs.Wrap.{add64}
use Rattle.merges.specs.Merging.{Draft, entry, filled_of, marked_of, only_of, join_of, rank_of, with_state, ensure_of, decided_of, acknowledged_of, raised_of, blank, proposal_of}
use Rattle.merges.specs.Sound.{MergesValid, ProposesValid}
use Rattle.packets.specs.declared.TwoPcPhase.{TwoPcPhase}
use Rattle.packets.specs.declared.Bitmap.{Bitmap}
use Rattle.packets.specs.declared.CeTwoPcPacket.{CeTwoPcPacket}
use Rattle.merges.proofs.Bitmaps.{and_false}
use Rattle.merges.proofs.Kept.{merge_keeps, adopted_keeps}
use Rattle.merges.proofs.Safety.{either_cases}

-- ---- the word of a test that holds below len only
word_lt : (len : ℕ) (f : ℕ → Bool) → len ≤ 64 → marks 64 (λ j. ltb j len && f j) < 2 ^ len
word_lt len f h =
    rw (marks_is len f (marks 64 (λ j. ltb j len && f j)) h (marks_lt 64 (λ j. ltb j len && f j)) (λ j. has_marks 64 (λ i. ltb i len && f i) j ∙ inside j (ltb j len) refl))
    (marks_lt len f)
  where
    inside : (j : ℕ) (t : Bool) → ltb j len ≡ t → (ltb j 64 && (t && f j)) ≡ (t && f j)
    inside j true e = ap (λ (t : Bool). t && f j) (lt-ltb j 64 (omega (arith, ltb-true j len e)))
    inside j false e = and_false (ltb j 64)

module _ (n : ℕ) (at_most64 : n ≤ 64) where
  filled_valid : (b : Bitmap) → ValidBitmap b → ValidBitmap (filled_of n b)
  unfolding filled_of
  filled_valid b s = record {
    at_most64 = omega (arith, s.at_most64);
    marks_lt = lt_of_lt_of_le (word_lt b.len (λ j. has b.marks j) s.at_most64) (pow_mono (larger b.len n));
  }
    where
      larger : (a c : ℕ) → a ≤ max a c
      larger a c = omega arith

  marked_valid : (v : ℕ) (b : Bitmap) → ValidBitmap b → ValidBitmap (marked_of v b)
  unfolding marked_of
  marked_valid v b s = record { at_most64 = s.at_most64; marks_lt = word_lt b.len (λ j. has b.marks j || eqb j v) s.at_most64 }

  only_valid : (v : ℕ) → ValidBitmap (only_of n v)
  unfolding only_of
  only_valid v = record { at_most64 = at_most64; marks_lt = word_lt n (λ j. eqb j v) at_most64 }

  join_valid : (a b : Bitmap) → ValidBitmap a → ValidBitmap (join_of n a b)
  unfolding join_of
  join_valid a b s = record { at_most64 = s.at_most64; marks_lt = word_lt a.len (λ j. has a.marks j || (ltb j n && entry b j)) s.at_most64 }

  state_valid : (f : TwoPcPhase) (b : Bitmap) (p : CeTwoPcPacket) → ValidCe p → ValidBitmap b → ValidCe (with_state f b p)
  state_valid f b p s h = record { term_fits = s.term_fits; bytes = s.bytes; bitmap = h }

  ensure_valid : (p : CeTwoPcPacket) → ValidCe p → ValidCe (ensure_of n p)
  unfolding ensure_of
  ensure_valid p s = state_valid p.phase (filled_of n p.flags_bitmap) p s (filled_valid p.flags_bitmap s.bitmap)

  acknowledged_valid : (v : ℕ) (p : CeTwoPcPacket) → ValidCe p → ValidCe (acknowledged_of v p)
  unfolding acknowledged_of
  acknowledged_valid v p s = state_valid p.phase (marked_of v p.flags_bitmap) p s (marked_valid v p.flags_bitmap s.bitmap)

  decided_valid : (v : ℕ) (f : TwoPcPhase) (p : CeTwoPcPacket) → ValidCe p → ValidCe (decided_of f n v p)
  unfolding decided_of
  decided_valid v f p s = state_valid f (only_of n v) p s (only_valid v)

  raised_valid : (l r : CeTwoPcPacket) → ValidCe l → ValidCe r → ValidCe (raised_of n l r).packet
  unfolding raised_of
  raised_valid l r s q =
      either_cases (λ (d : Draft). ValidCe d.packet) (ltb (rank_of l.phase) (rank_of r.phase))
      (λ x. state_valid r.phase r.flags_bitmap l s q.bitmap)
      (λ x. either_cases (λ (d : Draft). ValidCe d.packet) (eqb (rank_of l.phase) (rank_of r.phase))
      (λ y. state_valid l.phase (join_of n l.flags_bitmap r.flags_bitmap) l s (join_valid l.flags_bitmap r.flags_bitmap s.bitmap))
      (λ y. s))

pub merges_valid : MergesValid
merges_valid nay n v l r h s q =
    merge_keeps ValidCe nay n v (ensure_valid n h) (acknowledged_valid n h v) (decided_valid n h v) (raised_valid n h) l r s q

-- ---- the data of a proposal
abbrev Byte : ℕ → Type 0
Byte x = x < 256

every_snoc : (l : List ℕ) (x : ℕ) → Every Byte l → x < 256 → Every Byte (l ++ (x ∷ []))
every_snoc [] x none h = more h none
every_snoc (y ∷ l) x (more k e) h = more k (every_snoc l x e h)

digits_small : (n : ℕ) → Every Byte (decimal n)
digits_small =
    dec_ind (λ n. Every Byte (decimal n)) (λ n h. rw (decimal_small n h) (more (small n) none)) (λ n h e. rw (decimal_step n h) (every_snoc (decimal (n / 10)) (digit n) e (small n)))
  where
    small : (n : ℕ) → digit n < 256
    small n = omega arith

text_back : (t : ℕ) → take (length (proposal_text t)) (written (replicate 32 0) 0 (proposal_text t)) ≡ proposal_text t
unfolding written
text_back t = take_at (proposal_text t) (drop (0 + length (proposal_text t)) (replicate 32 0)) (length (proposal_text t)) refl

data_valid : (t : ℕ) → t < 2 ^ 64 → ValidData (proposal_data t)
unfolding proposal_data
data_valid t h =
    record {
      at_most32 = omega (arith, decimal_word t h);
      small = rw (text_back t) (more {x = 116} (omega arith) (more {x = 120} (omega arith) (digits_small t)));
      zeros = ap (written (replicate 32 0) 0) (sym (text_back t));
    }

blank_valid : (n t : ℕ) → n ≤ 64 → t < 2 ^ 64 → ValidCe (blank n t)
blank_valid n t h k = record { term_fits = k; bytes = data_valid t k; bitmap = record { at_most64 = h; marks_lt = pow_pos n } }

pub proposes_valid : ProposesValid
unfolding proposal_of
proposes_valid nay n v t h =
    adopted_keeps ValidCe nay n v (ensure_valid n h) (acknowledged_valid n h v) (decided_valid n h v) (raised_valid n h) (blank n (add64 t 1))
    (blank_valid n (add64 t 1) h (rest (t + 1)))
  where
    rest : (x : ℕ) → x % 2 ^ 64 < 2 ^ 64
    rest x = omega arith
