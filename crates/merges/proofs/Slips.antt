-- The steps of a merge on slips put together: where each step says what its rule says of the packets, so does the whole.
-- Assumes nothing.
use Rattle.std.proofs.Common.{◌≡◌, ℕ, Option, true, false, ltb, sym, refl, ap, ◌∙◌}
use Rattle.packets.specs.declared.Data.{Data}
use Rattle.packets.specs.declared.CeTwoPcPacket.{CeTwoPcPacket}
use Rattle.merges.specs.declared.merging.Held.TheVariants.{Packet}
use Rattle.merges.specs.declared.merging.Payload.{Payload}
use Rattle.merges.specs.declared.merging.Slip.{Slip}
use Rattle.merges.specs.Slips.{packet_of, whose, answered, HeardBy}
use Rattle.merges.specs.Merging.{
  Draft,
  Noes,
  ensure_of,
  voiced_of,
  settled,
  adopted_of,
  raised_of,
  own_of,
  same_term_of,
  concluded,
  outdated,
  heard_of,
}

module _ (nay : Noes) (n v : ℕ) where
  pub adopted_by : (p : CeTwoPcPacket) {q s : CeTwoPcPacket} {x : Draft} → q ≡ ensure_of n p → s ≡ voiced_of nay n v q q.phase
      → x ≡ settled n v (record { packet = s; news = true }) → x.packet ≡ adopted_of nay n v p
  unfolding adopted_of
  adopted_by p e f g = rw (g, f, e)

  pub same_term_by : (l r : CeTwoPcPacket) {p q : CeTwoPcPacket} {x y z : Draft} → p ≡ ensure_of n l → q ≡ ensure_of n r
      → x ≡ raised_of n p q → y ≡ own_of nay n v x → z ≡ settled n v y → z ≡ same_term_of nay n v l r
  unfolding same_term_of
  same_term_by l r e f g h k = rw (k, h, g, e, f)

  -- two packets of one term meet: whatever l is beside its packet, what is concluded is concluded of l
  pub heard_same : (l : Payload) (p q : CeTwoPcPacket) (x : Draft) → l.packet ≡ p → ltb p.term q.term ≡ false
      → outdated q.term p.term ≡ false → x ≡ same_term_of nay n v p q → heard_of nay n v l q Packet ≡ concluded l x
  unfolding heard_of
  heard_same l p q x e a b f =
      let higher : ltb l.packet.term q.term ≡ false = rw e a in
      let lower : outdated q.term l.packet.term ≡ false = rw e b in
      rw (higher, lower) (ap (concluded l) (ap (λ (s : CeTwoPcPacket). same_term_of nay n v s q) e ∙ sym f))

  -- the slips of two packets say what the packets say
  pub heard_packets : (l : Payload) (p : CeTwoPcPacket) (a b : Slip) (x : Option Slip)
      → ((d : ℕ → Data) → d 0 ≡ l.packet.proposal_data → packet_of d a ≡ l.packet)
      → ((d : ℕ → Data) → d 1 ≡ p.proposal_data → packet_of d b ≡ p)
      → HeardBy nay n v l.held a b x
      → heard_of nay n v l p l.held ≡ answered (whose l.packet.proposal_data p.proposal_data) l x
  heard_packets l p a b x e f h =
      let d : ℕ → Data = whose l.packet.proposal_data p.proposal_data in
      ap (λ (q : CeTwoPcPacket). heard_of nay n v l q l.held) (sym (f d refl)) ∙ h.merged d l refl (λ _. sym (e d refl))
