-- Within a term and a phase a merge loses no mark.
-- Assumes nothing.
use Rattle.std.proofs.Common.{◌≡◌, ℕ, ◌<◌, ◌≤◌, max, Bool, true, ◌&&◌, ◌||◌, eqb, ltb, sym, refl, ap, ◌∙◌, le_antisymm, arith, ltb-true, lt-ltb}
use Rattle.marks.specs.Marks.{has, marks}
use Rattle.marks.specs.Sets.{and_true, true_and}
use Rattle.merges.specs.Merging.{Merged, Draft, Noes, entry, filled_of, marked_of, join_of, unanimous_of, rank_of, ensure_of, decided_of, acknowledged_of, voiced_of, settled_of, raised_of, own_of, same_term_of, outdated, heard_of, merged_by, merge_of}
use Rattle.merges.specs.Sound.{MarksStay}
use Rattle.packets.specs.declared.TwoPcPhase.{TwoPcPhase}
use Rattle.packets.specs.declared.TwoPcPhase.TheVariants.{Prepare, Committed, Aborted}
use Rattle.packets.specs.declared.Bitmap.{Bitmap}
use Rattle.packets.specs.declared.CeTwoPcPacket.{CeTwoPcPacket}
use Rattle.merges.specs.declared.merging.Held.{Held}
use Rattle.merges.specs.declared.merging.Held.TheVariants.{Empty, Unreadable, Packet}
use Rattle.merges.specs.declared.merging.Payload.{Payload}
use Rattle.merges.proofs.Bitmaps.{has_word}
use Rattle.merges.proofs.Safety.{either_cases}
use Rattle.merges.proofs.Growth.{Rose, rose_trans, settled_rose, ensure_rose, adopted_rose, raised_rose, own_rose}

-- ---- one bitmap
in_test : (len : ℕ) (f : ℕ → Bool) (i : ℕ) → i < 64 → i < len → f i ≡ true → (ltb i len && has (marks 64 f) i) ≡ true
in_test len f i h k e = true_and (ltb i len) (has (marks 64 f) i) (lt-ltb i len k) (has_word f i h ∙ e)

module _ (b : Bitmap) (i : ℕ) (h : i < 64) (e : entry b i ≡ true) where
  below : i < b.len
  below = ltb-true i b.len (and_true (ltb i b.len) (has b.marks i) e).0

  marked_here : has b.marks i ≡ true
  marked_here = (and_true (ltb i b.len) (has b.marks i) e).1

  filled_stays : (n : ℕ) → entry (filled_of n b) i ≡ true
  unfolding filled_of
  filled_stays n = let k = below in in_test (max b.len n) (λ j. ltb j b.len && has b.marks j) i h (omega arith) e

  or_stays : (y : Bool) → (has b.marks i || y) ≡ true
  or_stays y = ap (λ (x : Bool). x || y) marked_here

  marked_stays : (v : ℕ) → entry (marked_of v b) i ≡ true
  unfolding marked_of
  marked_stays v =
      in_test b.len (λ j. ltb j b.len && (has b.marks j || eqb j v)) i h below
      (true_and (ltb i b.len) (has b.marks i || eqb i v) (lt-ltb i b.len below) (or_stays (eqb i v)))

  join_stays : (n : ℕ) (c : Bitmap) → entry (join_of n b c) i ≡ true
  unfolding join_of
  join_stays n c =
      in_test b.len (λ j. ltb j b.len && (has b.marks j || (ltb j n && entry c j))) i h below
      (true_and (ltb i b.len) (has b.marks i || (ltb i n && entry c i)) (lt-ltb i b.len below) (or_stays (ltb i n && entry c i)))

-- ---- one packet after another: the marks are there still if the phase is
abbrev Stays : CeTwoPcPacket → CeTwoPcPacket → Type 0
Stays p q = q.phase ≡ p.phase → (i : ℕ) → i < 64 → entry p.flags_bitmap i ≡ true → entry q.flags_bitmap i ≡ true

same_rank : (f g : TwoPcPhase) → rank_of f ≡ rank_of g → f ≡ g
unfolding rank_of
same_rank Prepare Prepare e = refl
same_rank Prepare Committed e = absurd (omega arith)
same_rank Prepare Aborted e = absurd (omega arith)
same_rank Committed Prepare e = absurd (omega arith)
same_rank Committed Committed e = refl
same_rank Committed Aborted e = absurd (omega arith)
same_rank Aborted Prepare e = absurd (omega arith)
same_rank Aborted Committed e = absurd (omega arith)
same_rank Aborted Aborted e = refl

stays_trans : (p q r : CeTwoPcPacket) → Rose p q → Rose q r → Stays p q → Stays q r → Stays p r
stays_trans p q r a b s t e i h m =
    let k : rank_of q.phase ≤ rank_of p.phase = omega (arith, b.phase, ap rank_of e) in
    let g : q.phase ≡ p.phase = same_rank q.phase p.phase (le_antisymm k a.phase) in
    t (e ∙ sym g) i h (s g i h m)

module _ (nay : Noes) (n v : ℕ) where
  ensure_stays : (p : CeTwoPcPacket) → Stays p (ensure_of n p)
  unfolding ensure_of
  ensure_stays p = λ e i h m. filled_stays p.flags_bitmap i h m n

  acknowledged_stays : (p : CeTwoPcPacket) → Stays p (acknowledged_of v p)
  unfolding acknowledged_of
  acknowledged_stays p = λ e i h m. marked_stays p.flags_bitmap i h m v

  voiced_stays : (p : CeTwoPcPacket) (f : TwoPcPhase) → p.phase ≡ f → Stays p (voiced_of nay n v p f)
  unfolding voiced_of decided_of
  voiced_stays p Prepare k =
      either_cases (Stays p) (nay p.term v)
      (λ x e. let q : Aborted ≡ Prepare = e ∙ k in absurd (let z : ◌≡◌ {A = ℕ} 0 1 = cc in omega arith))
      (λ x. acknowledged_stays p)
  voiced_stays p Committed k = acknowledged_stays p
  voiced_stays p Aborted k = acknowledged_stays p

  settled_stays : (d : Draft) (f : TwoPcPhase) → d.packet.phase ≡ f → Stays d.packet (settled_of n v d f).packet
  unfolding settled_of decided_of
  settled_stays d Prepare k =
      either_cases (λ (c : Draft). Stays d.packet c.packet) (unanimous_of n d.packet.flags_bitmap)
      (λ x e. let q : Committed ≡ Prepare = e ∙ k in absurd (let z : ◌≡◌ {A = ℕ} 0 1 = cc in omega arith))
      (λ x e i h m. m)
  settled_stays d Committed k = λ e i h m. m
  settled_stays d Aborted k = λ e i h m. m

  raised_stays : (l r : CeTwoPcPacket) → Stays l (raised_of n l r).packet
  unfolding raised_of
  raised_stays l r =
      either_cases (λ (d : Draft). Stays l d.packet) (ltb (rank_of l.phase) (rank_of r.phase))
      (λ x e. absurd (omega (arith, ltb-true (rank_of l.phase) (rank_of r.phase) x, ap rank_of e)))
      (λ x. either_cases (λ (d : Draft). Stays l d.packet) (eqb (rank_of l.phase) (rank_of r.phase))
      (λ y e i h m. join_stays l.flags_bitmap i h m n r.flags_bitmap)
      (λ y e i h m. m))

  own_stays : (d : Draft) → Stays d.packet (own_of nay n v d).packet
  unfolding own_of
  own_stays d =
      either_cases (λ (c : Draft). Stays d.packet c.packet) (ltb v d.packet.flags_bitmap.len)
      (λ x. either_cases (λ (c : Draft). Stays d.packet c.packet) (has d.packet.flags_bitmap.marks v)
      (λ y e i h m. m)
      (λ y. voiced_stays d.packet d.packet.phase refl))
      (λ x e i h m. m)

  same_stays : (l r : CeTwoPcPacket) → Stays l (same_term_of nay n v l r).packet
  unfolding same_term_of
  same_stays l r =
      let a = ensure_of n l in
      let b = raised_of n a (ensure_of n r) in
      let c = own_of nay n v b in
      let d = settled_of n v c c.packet.phase in
      let ab = raised_rose nay n v a (ensure_of n r) in
      let bc = own_rose nay n v b in
      let cd = settled_rose nay n v c c.packet.phase refl in
      stays_trans l a d.packet (ensure_rose nay n v l) (rose_trans ab (rose_trans bc cd)) (ensure_stays l)
      (stays_trans a b.packet d.packet ab (rose_trans bc cd) (raised_stays a (ensure_of n r))
      (stays_trans b.packet c.packet d.packet bc cd (own_stays b) (settled_stays c c.packet.phase refl)))

  abbrev Kept : Payload → Merged → Type 0
  Kept l m = m.payload.packet.term ≡ l.packet.term → Stays l.packet m.payload.packet

  heard_stays : (l : Payload) (p : CeTwoPcPacket) (h : Held) → h ≡ Packet → Kept l (heard_of nay n v l p h)
  unfolding heard_of
  heard_stays l p Empty k = absurd (let z : ◌≡◌ {A = ℕ} 0 1 = cc in omega arith)
  heard_stays l p Unreadable k = λ t e i h m. m
  heard_stays l p Packet k =
      either_cases (Kept l) (ltb l.packet.term p.term)
      (λ x t. absurd (omega (arith, ltb-true l.packet.term p.term x, (adopted_rose nay n v p).term)))
      (λ x. either_cases (Kept l) (outdated p.term l.packet.term)
      (λ y t e i h m. m)
      (λ y. either_cases (Kept l) (same_term_of nay n v l.packet p).news (λ z t. same_stays l.packet p) (λ z t e i h m. m)))

  merged_stays : (l : Payload) (p : CeTwoPcPacket) (h : Held) → l.held ≡ Packet → Kept l (merged_by nay n v l p h)
  unfolding merged_by
  merged_stays l p Empty k = λ t e i h m. m
  merged_stays l p Unreadable k = λ t e i h m. m
  merged_stays l p Packet k = heard_stays l p l.held k

pub marks_stay : MarksStay
unfolding merge_of
marks_stay nay n v l r k t e = merged_stays nay n v l r.packet r.held k t e
