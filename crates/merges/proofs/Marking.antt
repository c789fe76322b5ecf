-- Where the marks of a merged packet come from, and that the own is among them.
-- Assumes nothing.
use Rattle.std.proofs.Common.{◌≡◌, ℕ, ◌<◌, ◌≤◌, Bool, true, false, ◌&&◌, ◌||◌, eqb, ltb, ◌⊎◌, refl, ◌∙◌, inl, inr, arith, lt-ltb, eq-eqb}
use Rattle.marks.specs.Marks.{has, marks}
use Rattle.marks.specs.Sets.{true_and}
use Rattle.merges.specs.Merging.{NewInfo, Merged, Draft, Noes, entry, filled_of, marked_of, only_of, join_of, unanimous_of, rank_of, ensure_of, decided_of, acknowledged_of, voiced_of, settled_of, adopted_of, raised_of, own_of, same_term_of, outdated, heard_of, merged_by, merge_of}
use Rattle.merges.specs.Sound.{MarksFrom, OwnMark}
use Rattle.packets.specs.declared.TwoPcPhase.{TwoPcPhase}
use Rattle.packets.specs.declared.TwoPcPhase.TheVariants.{Prepare, Committed, Aborted}
use Rattle.packets.specs.declared.CeTwoPcPacket.{CeTwoPcPacket}
use Rattle.merges.specs.declared.merging.Held.{Held}
use Rattle.merges.specs.declared.merging.Held.TheVariants.{Empty, Unreadable, Packet}
use Rattle.merges.specs.declared.merging.Payload.{Payload}
use Rattle.merges.proofs.Bitmaps.{has_word}
use Rattle.merges.proofs.Growth.{told_apart}
use Rattle.merges.proofs.Kept.{merge_keeps}
use Rattle.merges.proofs.Safety.{either_cases, filled_entry, marked_entry, only_entry, join_entry}

-- ---- a property P of positions that the own one has: packets whose marks all have it
module _ (P : ℕ → Type 0) (v : ℕ) (own : P v) (n : ℕ) where
  abbrev From : CeTwoPcPacket → Type 0
  From p = (i : ℕ) → entry p.flags_bitmap i ≡ true → P i

  ensure_from : (p : CeTwoPcPacket) → From p → From (ensure_of n p)
  unfolding ensure_of
  ensure_from p s = λ i h. s i (filled_entry n p.flags_bitmap i h)

  acknowledged_from : (p : CeTwoPcPacket) → From p → From (acknowledged_of v p)
  unfolding acknowledged_of
  acknowledged_from p s = λ i h. marked_entry v p.flags_bitmap i h (s i) (λ e. rw e own)

  decided_from : (f : TwoPcPhase) (p : CeTwoPcPacket) → From p → From (decided_of f n v p)
  unfolding decided_of
  decided_from f p s = λ i h. rw (only_entry n v i h) own

  raised_from : (l r : CeTwoPcPacket) → From l → From r → From (raised_of n l r).packet
  unfolding raised_of
  raised_from l r s q =
      either_cases (λ (d : Draft). From d.packet) (ltb (rank_of l.phase) (rank_of r.phase))
      (λ x. q)
      (λ x. either_cases (λ (d : Draft). From d.packet) (eqb (rank_of l.phase) (rank_of r.phase))
      (λ y i h. join_entry n l.flags_bitmap r.flags_bitmap i h (s i) (q i))
      (λ y. s))

pub marks_from : MarksFrom
marks_from nay n v l r k i h =
    let P : ℕ → Type 0 = λ j. (entry l.packet.flags_bitmap j ≡ true) ⊎ ((entry r.packet.flags_bitmap j ≡ true) ⊎ (j ≡ v)) in
    merge_keeps (From P v (inr (inr refl)) n) nay n v
    (ensure_from P v (inr (inr refl)) n)
    (acknowledged_from P v (inr (inr refl)) n)
    (decided_from P v (inr (inr refl)) n)
    (raised_from P v (inr (inr refl)) n)
    l r (λ e j x. inl x) (λ e j x. inr (inl x)) k i h

-- ---- the own mark
module _ (nay : Noes) (n v : ℕ) (inside : v < n) (at_most64 : n ≤ 64) where
  abbrev Own : CeTwoPcPacket → Type 0
  Own p = entry p.flags_bitmap v ≡ true

  abbrev Long : CeTwoPcPacket → Type 0
  Long p = n ≤ p.flags_bitmap.len

  ensure_long : (p : CeTwoPcPacket) → Long (ensure_of n p)
  unfolding ensure_of filled_of
  ensure_long p = omega arith

  acknowledged_own : (p : CeTwoPcPacket) → Long p → Own (acknowledged_of v p)
  unfolding acknowledged_of marked_of
  acknowledged_own p h =
      let b = p.flags_bitmap in
      let k : ltb v b.len ≡ true = lt-ltb v b.len (omega arith) in
      true_and (ltb v b.len) (has (marks 64 (λ j. ltb j b.len && (has b.marks j || eqb j v))) v) k
      (has_word (λ j. ltb j b.len && (has b.marks j || eqb j v)) v (omega arith)
      ∙ true_and (ltb v b.len) (has b.marks v || eqb v v) k (or_right (has b.marks v) (eqb v v) (eq-eqb v v refl)))
    where
      or_right : (x y : Bool) → y ≡ true → (x || y) ≡ true
      or_right true y e = refl
      or_right false y e = e

  decided_own : (f : TwoPcPhase) (p : CeTwoPcPacket) → Own (decided_of f n v p)
  unfolding decided_of only_of
  decided_own f p =
      let k : ltb v n ≡ true = lt-ltb v n inside in
      true_and (ltb v n) (has (marks 64 (λ j. ltb j n && eqb j v)) v) k
      (has_word (λ j. ltb j n && eqb j v) v (omega arith) ∙ true_and (ltb v n) (eqb v v) k (eq-eqb v v refl))

  voiced_own : (p : CeTwoPcPacket) (f : TwoPcPhase) → Long p → Own (voiced_of nay n v p f)
  unfolding voiced_of
  voiced_own p Prepare h = either_cases Own (nay p.term v) (λ x. decided_own Aborted p) (λ x. acknowledged_own p h)
  voiced_own p Committed h = acknowledged_own p h
  voiced_own p Aborted h = acknowledged_own p h

  settled_own : (d : Draft) (f : TwoPcPhase) → Own d.packet → Own (settled_of n v d f).packet
  unfolding settled_of
  settled_own d Prepare s = either_cases (λ (c : Draft). Own c.packet) (unanimous_of n d.packet.flags_bitmap) (λ x. decided_own Committed d.packet) (λ x. s)
  settled_own d Committed s = s
  settled_own d Aborted s = s

  adopted_own : (p : CeTwoPcPacket) → Own (adopted_of nay n v p)
  unfolding adopted_of
  adopted_own p =
      let d : Draft = record { packet = voiced_of nay n v (ensure_of n p) (ensure_of n p).phase; news = true } in
      settled_own d d.packet.phase (voiced_own (ensure_of n p) (ensure_of n p).phase (ensure_long p))

  raised_long : (l r : CeTwoPcPacket) → Long l → Long r → Long (raised_of n l r).packet
  unfolding raised_of join_of
  raised_long l r s q =
      either_cases (λ (d : Draft). Long d.packet) (ltb (rank_of l.phase) (rank_of r.phase))
      (λ x. q)
      (λ x. either_cases (λ (d : Draft). Long d.packet) (eqb (rank_of l.phase) (rank_of r.phase)) (λ y. s) (λ y. s))

  own_own : (d : Draft) → Long d.packet → Own (own_of nay n v d).packet
  unfolding own_of
  own_own d s =
      let k : ltb v d.packet.flags_bitmap.len ≡ true = lt-ltb v d.packet.flags_bitmap.len (omega arith) in
      rw k
      (either_cases (λ (c : Draft). Own c.packet) (has d.packet.flags_bitmap.marks v)
      (λ y. true_and (ltb v d.packet.flags_bitmap.len) (has d.packet.flags_bitmap.marks v) k y)
      (λ y. voiced_own d.packet d.packet.phase s))

  same_own : (l r : CeTwoPcPacket) → Own (same_term_of nay n v l r).packet
  unfolding same_term_of
  same_own l r =
      let m = raised_of n (ensure_of n l) (ensure_of n r) in
      let d = own_of nay n v m in
      settled_own d d.packet.phase (own_own m (raised_long (ensure_of n l) (ensure_of n r) (ensure_long l) (ensure_long r)))

  abbrev News : Merged → Type 0
  News m = m.result ≡ NewInfo → Own m.payload.packet

  heard_own : (l : Payload) (p : CeTwoPcPacket) (h : Held) → News (heard_of nay n v l p h)
  unfolding heard_of
  heard_own l p Empty = λ e. adopted_own p
  heard_own l p Unreadable = λ e. told_apart e
  heard_own l p Packet =
      either_cases News (ltb l.packet.term p.term)
      (λ x e. adopted_own p)
      (λ x. either_cases News (outdated p.term l.packet.term)
      (λ y e. told_apart e)
      (λ y. either_cases News (same_term_of nay n v l.packet p).news (λ z e. same_own l.packet p) (λ z e. told_apart e)))

  merged_own : (l : Payload) (p : CeTwoPcPacket) (h : Held) → News (merged_by nay n v l p h)
  unfolding merged_by
  merged_own l p Empty = λ e. told_apart e
  merged_own l p Unreadable = λ e. told_apart e
  merged_own l p Packet = heard_own l p l.held

pub own_mark : OwnMark
unfolding merge_of
own_mark nay n v l r h k e = merged_own nay n v h k l r.packet r.held e
