-- What each step of a merge keeps, the merge keeps.
-- Assumes nothing.
use Rattle.std.proofs.Common.{◌≡◌, ℕ, true, ltb, refl}
use Rattle.marks.specs.Marks.{has}
use Rattle.merges.specs.Merging.{
  Merged,
  Draft,
  Noes,
  unanimous_of,
  ensure_of,
  decided_of,
  acknowledged_of,
  voiced_of,
  settled_of,
  adopted_of,
  raised_of,
  own_of,
  same_term_of,
  outdated,
  heard_of,
  merged_by,
  merge_of,
}
use Rattle.packets.specs.declared.TwoPcPhase.{TwoPcPhase}
use Rattle.packets.specs.declared.TwoPcPhase.TheVariants.{Prepare, Committed, Aborted}
use Rattle.packets.specs.declared.CeTwoPcPacket.{CeTwoPcPacket}
use Rattle.merges.specs.declared.merging.Held.{Held}
use Rattle.merges.specs.declared.merging.Held.TheVariants.{Empty, Unreadable, Packet}
use Rattle.merges.specs.declared.merging.Payload.{Payload}
use Rattle.merges.proofs.Safety.{either_cases}

module _
    (P : CeTwoPcPacket → Type 0)
    (nay : Noes)
    (n v : ℕ)
    (ensured : (p : CeTwoPcPacket) → P p → P (ensure_of n p))
    (acknowledged : (p : CeTwoPcPacket) → P p → P (acknowledged_of v p))
    (decided : (f : TwoPcPhase) (p : CeTwoPcPacket) → P p → P (decided_of f n v p))
    (raised : (l r : CeTwoPcPacket) → P l → P r → P (raised_of n l r).packet) where
  voiced_keeps : (p : CeTwoPcPacket) (f : TwoPcPhase) → P p → P (voiced_of nay n v p f)
  unfolding voiced_of
  voiced_keeps p Prepare s = either_cases P (nay p.term v) (λ x. decided Aborted p s) (λ x. acknowledged p s)
  voiced_keeps p Committed s = acknowledged p s
  voiced_keeps p Aborted s = acknowledged p s

  settled_keeps : (d : Draft) (f : TwoPcPhase) → P d.packet → P (settled_of n v d f).packet
  unfolding settled_of
  settled_keeps d Prepare s =
      either_cases (λ (c : Draft). P c.packet) (unanimous_of n d.packet.flags_bitmap) (λ x. decided Committed d.packet s) (λ x. s)
  settled_keeps d Committed s = s
  settled_keeps d Aborted s = s

  pub adopted_keeps : (p : CeTwoPcPacket) → P p → P (adopted_of nay n v p)
  unfolding adopted_of
  adopted_keeps p s =
      let d : Draft = record { packet = voiced_of nay n v (ensure_of n p) (ensure_of n p).phase; news = true } in
      settled_keeps d d.packet.phase (voiced_keeps (ensure_of n p) (ensure_of n p).phase (ensured p s))

  own_keeps : (d : Draft) → P d.packet → P (own_of nay n v d).packet
  unfolding own_of
  own_keeps d s =
      either_cases (λ (c : Draft). P c.packet) (ltb v d.packet.flags_bitmap.len)
      (λ x. either_cases (λ (c : Draft). P c.packet) (has d.packet.flags_bitmap.marks v)
      (λ y. s)
      (λ y. voiced_keeps d.packet d.packet.phase s))
      (λ x. s)

  same_keeps : (l r : CeTwoPcPacket) → P l → P r → P (same_term_of nay n v l r).packet
  unfolding same_term_of
  same_keeps l r s q =
      let m = raised_of n (ensure_of n l) (ensure_of n r) in
      let d = own_of nay n v m in
      settled_keeps d d.packet.phase (own_keeps m (raised (ensure_of n l) (ensure_of n r) (ensured l s) (ensured r q)))

  abbrev Holds : Payload → Type 0
  Holds l = l.held ≡ Packet → P l.packet

  heard_keeps : (l : Payload) (p : CeTwoPcPacket) (h : Held) → l.held ≡ h → Holds l → P p → Holds (heard_of nay n v l p h).payload
  unfolding heard_of
  heard_keeps l p Empty e s q = λ k. adopted_keeps p q
  heard_keeps l p Unreadable e s q = s
  heard_keeps l p Packet e s q =
      either_cases (λ (m : Merged). Holds m.payload) (ltb l.packet.term p.term)
      (λ x k. adopted_keeps p q)
      (λ x. either_cases (λ (m : Merged). Holds m.payload) (outdated p.term l.packet.term)
      (λ y. s)
      (λ y. either_cases (λ (m : Merged). Holds m.payload) (same_term_of nay n v l.packet p).news
      (λ z k. same_keeps l.packet p (s e) q)
      (λ z. s)))

  merged_keeps : (l : Payload) (p : CeTwoPcPacket) (h : Held) → Holds l → (h ≡ Packet → P p) → Holds (merged_by nay n v l p h).payload
  unfolding merged_by
  merged_keeps l p Empty s q = s
  merged_keeps l p Unreadable s q = s
  merged_keeps l p Packet s q = heard_keeps l p l.held refl s (q refl)

  pub merge_keeps : (l r : Payload) → Holds l → Holds r → Holds (merge_of nay n v l r).payload
  unfolding merge_of
  merge_keeps l r s q = merged_keeps l r.packet r.held s q
