-- The data of a merge's answer are those of one of the two packets that met. Assumes nothing.
use Rattle.std.proofs.Common.{◌≡◌, ℕ, Option, Some, None, Bool, true, false, eqb, ltb, ◌⊎◌, [], sym, refl, ap, ◌∙◌, inl, inr, true≢false}
use Rattle.loops.specs.Pick.{either}
use Rattle.marks.specs.Marks.{has}
use Rattle.packets.specs.declared.Data.{Data}
use Rattle.packets.specs.declared.CeTwoPcPacket.{CeTwoPcPacket}
use Rattle.packets.specs.declared.TwoPcPhase.{TwoPcPhase}
use Rattle.packets.specs.declared.TwoPcPhase.TheVariants.{Prepare, Committed, Aborted}
use Rattle.merges.specs.declared.merging.Held.{Held}
use Rattle.merges.specs.declared.merging.Held.TheVariants.{Empty, Unreadable, Packet}
use Rattle.merges.specs.declared.merging.Payload.{Payload}
use Rattle.merges.specs.declared.merging.Slip.{Slip}
use Rattle.merges.specs.Slips.{packet_of, answered, HeardBy}
use Rattle.merges.specs.Merging.{MergeResult, Redundant, NewInfo, Merged, Draft, Noes, rank_of, ensure_of, decided_of, acknowledged_of, voiced_of, settled_of, adopted_of, raised_of, own_of, same_term_of, outdated, unanimous_of, heard_of}

abbrev data_of : CeTwoPcPacket → Data
data_of p = p.proposal_data

-- a choice of two packets with the same data
one_of : (b : Bool) (x y : CeTwoPcPacket) (d : Data) → data_of x ≡ d → data_of y ≡ d → data_of (either b x y) ≡ d
one_of true x y d e f = e
one_of false x y d e f = f

draft_of : (b : Bool) (x y : Draft) (d : Data) → data_of x.packet ≡ d → data_of y.packet ≡ d → data_of (either b x y).packet ≡ d
draft_of true x y d e f = e
draft_of false x y d e f = f

module _ (nay : Noes) (n v : ℕ) where
  voiced_data : (p : CeTwoPcPacket) (f : TwoPcPhase) → data_of (voiced_of nay n v p f) ≡ data_of p
  unfolding voiced_of decided_of acknowledged_of
  voiced_data p Prepare = one_of (nay p.term v) _ _ (data_of p) refl refl
  voiced_data p Committed = refl
  voiced_data p Aborted = refl

  settled_data : (x : Draft) (f : TwoPcPhase) → data_of (settled_of n v x f).packet ≡ data_of x.packet
  unfolding settled_of decided_of
  settled_data x Prepare = draft_of (unanimous_of n x.packet.flags_bitmap) _ _ (data_of x.packet) refl refl
  settled_data x Committed = refl
  settled_data x Aborted = refl

  adopted_data : (p : CeTwoPcPacket) → data_of (adopted_of nay n v p) ≡ data_of p
  unfolding adopted_of ensure_of
  adopted_data p = settled_data _ _ ∙ voiced_data _ _

  raised_data : (l r : CeTwoPcPacket) → data_of (raised_of n l r).packet ≡ data_of l
  unfolding raised_of
  raised_data l r =
      draft_of (ltb (rank_of l.phase) (rank_of r.phase)) _ _ (data_of l) refl
      (draft_of (eqb (rank_of l.phase) (rank_of r.phase)) _ _ (data_of l) refl refl)

  own_data : (x : Draft) → data_of (own_of nay n v x).packet ≡ data_of x.packet
  unfolding own_of
  own_data x =
      draft_of (ltb v x.packet.flags_bitmap.len) _ _ (data_of x.packet)
      (draft_of (has x.packet.flags_bitmap.marks v) _ _ (data_of x.packet) refl (voiced_data x.packet x.packet.phase)) refl

  same_data : (l r : CeTwoPcPacket) → data_of (same_term_of nay n v l r).packet ≡ data_of l
  unfolding same_term_of ensure_of
  same_data l r = settled_data _ _ ∙ own_data _ ∙ raised_data _ _

  -- of a choice of answers
  abbrev From : Payload → CeTwoPcPacket → Merged → Type 0
  From l p m = (data_of m.payload.packet ≡ data_of l.packet) ⊎ (data_of m.payload.packet ≡ data_of p)

  choice : (l : Payload) (p : CeTwoPcPacket) (b : Bool) (x y : Merged) → From l p x → From l p y → From l p (either b x y)
  choice l p true x y e f = e
  choice l p false x y e f = f

  heard_data : (l : Payload) (p : CeTwoPcPacket) (k : Held) → From l p (heard_of nay n v l p k)
  unfolding heard_of
  heard_data l p Empty = inr (adopted_data p)
  heard_data l p Unreadable = inl refl
  heard_data l p Packet =
      choice l p (ltb l.packet.term p.term) _ _ (inr (adopted_data p))
      (choice l p (outdated p.term l.packet.term) _ _ (inl refl)
      (choice l p (same_term_of nay n v l.packet p).news _ _ (inl (same_data l.packet p)) (inl refl)))

  -- data that tell whose they are
  abbrev labels : ℕ → Data
  labels k = record { len = k; bytes = [] }

  pub heard_source : (held : Held) (local received s : Slip) → HeardBy nay n v held local received (Some s)
      → (s.source ≡ local.source) ⊎ (s.source ≡ received.source)
  heard_source held local received s h = from (heard_data l (packet_of labels received) held)
    where
      l : Payload
      l = record { held = held; packet = packet_of labels local }

      label : s.source ≡ (heard_of nay n v l (packet_of labels received) held).payload.packet.proposal_data.len
      label = ap (λ (m : Merged). m.payload.packet.proposal_data.len) (sym (h.merged labels l refl (λ _. refl)))

      from : From l (packet_of labels received) (heard_of nay n v l (packet_of labels received) held) → (s.source ≡ local.source) ⊎ (s.source ≡ received.source)
      from (inl q) = inl (label ∙ ap (λ (d : Data). d.len) q)
      from (inr q) = inr (label ∙ ap (λ (d : Data). d.len) q)

  -- an answer is the only one
  pub heard_one : (held : Held) (local received : Slip) (r s : Option Slip) → HeardBy nay n v held local received r → HeardBy nay n v held local received s → r ≡ s
  heard_one held local received r s h k = by r s (sym (h.merged labels l refl (λ _. refl)) ∙ k.merged labels l refl (λ _. refl))
    where
      l : Payload
      l = record { held = held; packet = packet_of labels local }

      -- a slip by the packet that it stands for
      slip_of : CeTwoPcPacket → Slip
      slip_of p = record { term = p.term; phase = p.phase; source = p.proposal_data.len; flags_bitmap = p.flags_bitmap }

      new : Merged → Bool
      new m = is m.result
        where
          is : MergeResult → Bool
          is Redundant = false
          is NewInfo = true

      by : (r s : Option Slip) → answered labels l r ≡ answered labels l s → r ≡ s
      by (Some a) (Some b) e = ap (λ (m : Merged). Some (slip_of m.payload.packet)) e
      by (Some a) None e = absurd (true≢false (ap new e))
      by None (Some b) e = absurd (true≢false (sym (ap new e)))
      by None None e = refl
