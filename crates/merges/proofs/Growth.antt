-- What a merge keeps: the term or a higher one, within a term no lower phase, and on Redundant everything.
-- Assumes nothing.
use Rattle.std.proofs.Common.{◌≡◌, ℕ, ◌<◌, ◌≤◌, true, eqb, ltb, sym, refl, ◌∙◌, zero-le, arith, ltb-true}
use Rattle.marks.specs.Marks.{has}
use Rattle.loops.specs.Wrap.{add64}
use Rattle.merges.specs.Merging.{Redundant, NewInfo, Merged, Draft, Noes, unanimous_of, rank_of, ensure_of, decided_of, acknowledged_of, voiced_of, settled_of, adopted_of, raised_of, own_of, same_term_of, outdated, heard_of, merged_by, merge_of, blank, proposal_of}
use Rattle.merges.specs.Sound.{Grew, Grown, MergesGrow, MergesKeepTerm, EmptyAdopts, NothingHeard, RedundantKeeps, ProposalTerm}
use Rattle.packets.specs.declared.TwoPcPhase.{TwoPcPhase}
use Rattle.packets.specs.declared.TwoPcPhase.TheVariants.{Prepare, Committed, Aborted}
use Rattle.packets.specs.declared.CeTwoPcPacket.{CeTwoPcPacket}
use Rattle.merges.specs.declared.merging.Held.{Held}
use Rattle.merges.specs.declared.merging.Held.TheVariants.{Empty, Unreadable, Packet}
use Rattle.merges.specs.declared.merging.Payload.{Payload}
use Rattle.merges.proofs.Safety.{either_cases}

-- the same term, no lower phase
pub record Rose (p q : CeTwoPcPacket) : Type 0 where
  pub term : q.term ≡ p.term
  pub phase : rank_of p.phase ≤ rank_of q.phase

pub rose_refl : (p : CeTwoPcPacket) → Rose p p
rose_refl p = record { term = refl; phase = omega arith }

pub rose_trans : {p q r : CeTwoPcPacket} → Rose p q → Rose q r → Rose p r
rose_trans a b = record { term = b.term ∙ a.term; phase = omega arith }

rose_grew : {p q : CeTwoPcPacket} → Rose p q → Grew p q
rose_grew r = record { term = omega (arith, r.term); phase = λ e. r.phase }

prepare_least : (p q : CeTwoPcPacket) → p.phase ≡ Prepare → rank_of p.phase ≤ rank_of q.phase
unfolding rank_of
prepare_least p q e = rw e zero-le

module _ (nay : Noes) (n v : ℕ) where
  pub voiced_rose : (p : CeTwoPcPacket) (f : TwoPcPhase) → p.phase ≡ f → Rose p (voiced_of nay n v p f)
  unfolding voiced_of decided_of acknowledged_of
  voiced_rose p Prepare e =
      either_cases (Rose p) (nay p.term v)
      (λ x. record { term = refl; phase = prepare_least p (decided_of Aborted n v p) e })
      (λ x. record { term = refl; phase = omega arith })
  voiced_rose p Committed e = record { term = refl; phase = omega arith }
  voiced_rose p Aborted e = record { term = refl; phase = omega arith }

  pub settled_rose : (d : Draft) (f : TwoPcPhase) → d.packet.phase ≡ f → Rose d.packet (settled_of n v d f).packet
  unfolding settled_of decided_of
  settled_rose d Prepare e =
      either_cases (λ (c : Draft). Rose d.packet c.packet) (unanimous_of n d.packet.flags_bitmap)
      (λ x. record { term = refl; phase = prepare_least d.packet (decided_of Committed n v d.packet) e })
      (λ x. rose_refl d.packet)
  settled_rose d Committed e = rose_refl d.packet
  settled_rose d Aborted e = rose_refl d.packet

  pub ensure_rose : (p : CeTwoPcPacket) → Rose p (ensure_of n p)
  unfolding ensure_of
  ensure_rose p = record { term = refl; phase = omega arith }

  pub adopted_rose : (p : CeTwoPcPacket) → Rose p (adopted_of nay n v p)
  unfolding adopted_of
  adopted_rose p =
      let d : Draft = record { packet = voiced_of nay n v (ensure_of n p) (ensure_of n p).phase; news = true } in
      rose_trans (ensure_rose p) (rose_trans (voiced_rose (ensure_of n p) (ensure_of n p).phase refl) (settled_rose d d.packet.phase refl))

  pub raised_rose : (l r : CeTwoPcPacket) → Rose l (raised_of n l r).packet
  unfolding raised_of
  raised_rose l r =
      either_cases (λ (d : Draft). Rose l d.packet) (ltb (rank_of l.phase) (rank_of r.phase))
      (λ x. record { term = refl; phase = omega (arith, ltb-true (rank_of l.phase) (rank_of r.phase) x) })
      (λ x. either_cases (λ (d : Draft). Rose l d.packet) (eqb (rank_of l.phase) (rank_of r.phase))
      (λ y. record { term = refl; phase = omega arith })
      (λ y. rose_refl l))

  pub own_rose : (d : Draft) → Rose d.packet (own_of nay n v d).packet
  unfolding own_of
  own_rose d =
      either_cases (λ (c : Draft). Rose d.packet c.packet) (ltb v d.packet.flags_bitmap.len)
      (λ x. either_cases (λ (c : Draft). Rose d.packet c.packet) (has d.packet.flags_bitmap.marks v)
      (λ y. rose_refl d.packet)
      (λ y. voiced_rose d.packet d.packet.phase refl))
      (λ x. rose_refl d.packet)

  same_rose : (l r : CeTwoPcPacket) → Rose l (same_term_of nay n v l r).packet
  unfolding same_term_of
  same_rose l r =
      let m = raised_of n (ensure_of n l) (ensure_of n r) in
      let d = own_of nay n v m in
      rose_trans (ensure_rose l) (rose_trans (raised_rose (ensure_of n l) (ensure_of n r)) (rose_trans (own_rose m) (settled_rose d d.packet.phase refl)))

  heard_grown : (l : Payload) (p : CeTwoPcPacket) (h : Held) → h ≡ Packet → l.held ≡ Packet → Grown l (heard_of nay n v l p h).payload
  unfolding heard_of
  heard_grown l p Empty e k = absurd (let z : ◌≡◌ {A = ℕ} 0 1 = cc in omega arith)
  heard_grown l p Unreadable e k = absurd (let z : ◌≡◌ {A = ℕ} 0 1 = cc in omega arith)
  heard_grown l p Packet e k =
      let same : Grown l l = record { held = k; packet = rose_grew (rose_refl l.packet) } in
      either_cases (λ (m : Merged). Grown l m.payload) (ltb l.packet.term p.term)
      (λ x. record {
        held = refl;
        packet = higher l.packet (adopted_of nay n v p) (omega (arith, ltb-true l.packet.term p.term x, (adopted_rose p).term));
      })
      (λ x. either_cases (λ (m : Merged). Grown l m.payload) (outdated p.term l.packet.term)
      (λ y. same)
      (λ y. either_cases (λ (m : Merged). Grown l m.payload) (same_term_of nay n v l.packet p).news
      (λ z. record { held = refl; packet = rose_grew (same_rose l.packet p) })
      (λ z. same)))
    where
      higher : (a b : CeTwoPcPacket) → a.term < b.term → Grew a b
      higher a b h = record { term = omega arith; phase = λ q. absurd (omega arith) }

  merged_grown : (l : Payload) (p : CeTwoPcPacket) (h : Held) → l.held ≡ Packet → Grown l (merged_by nay n v l p h).payload
  unfolding merged_by
  merged_grown l p Empty k = record { held = k; packet = rose_grew (rose_refl l.packet) }
  merged_grown l p Unreadable k = record { held = k; packet = rose_grew (rose_refl l.packet) }
  merged_grown l p Packet k = heard_grown l p l.held k k

pub merges_grow : MergesGrow
unfolding merge_of
merges_grow nay n v l r k = merged_grown nay n v l r.packet r.held k

pub merges_keep_term : MergesKeepTerm
unfolding merge_of merged_by heard_of
merges_keep_term nay n v l r k h e =
    rw (h, k)
    (either_cases (λ (m : Merged). m.payload.packet.term ≡ l.packet.term) (ltb l.packet.term r.packet.term)
    (λ x. absurd (omega (arith, ltb-true l.packet.term r.packet.term x)))
    (λ x. either_cases (λ (m : Merged). m.payload.packet.term ≡ l.packet.term) (outdated r.packet.term l.packet.term)
    (λ y. refl)
    (λ y. either_cases (λ (m : Merged). m.payload.packet.term ≡ l.packet.term) (same_term_of nay n v l.packet r.packet).news
    (λ z. (same_rose nay n v l.packet r.packet).term)
    (λ z. refl))))

pub empty_adopts : EmptyAdopts
unfolding merge_of merged_by heard_of
empty_adopts nay n v l r k h = (rw (h, k), (adopted_rose nay n v r.packet).term)

pub nothing_heard : NothingHeard
unfolding merge_of merged_by
nothing_heard nay n v l r h = go r.held h
  where
    go : (k : Held) → (k ≡ Packet → ⊥) → (merged_by nay n v l r.packet k).payload ≡ l
    go Empty q = refl
    go Unreadable q = refl
    go Packet q = absurd (q refl)

-- Redundant is not NewInfo
pub told_apart : {A : Type 0} → Redundant ≡ NewInfo → A
told_apart e = absurd (let z : ◌≡◌ {A = ℕ} 0 1 = cc in omega arith)

abbrev Keeps : Payload → Merged → Type 0
Keeps l m = m.result ≡ Redundant → m.payload ≡ l

heard_keeps : (nay : Noes) (n v : ℕ) (l : Payload) (p : CeTwoPcPacket) (h : Held) → Keeps l (heard_of nay n v l p h)
unfolding heard_of
heard_keeps nay n v l p Empty = λ e. told_apart (sym e)
heard_keeps nay n v l p Unreadable = λ e. refl
heard_keeps nay n v l p Packet =
    either_cases (Keeps l) (ltb l.packet.term p.term)
    (λ x e. told_apart (sym e))
    (λ x. either_cases (Keeps l) (outdated p.term l.packet.term)
    (λ y e. refl)
    (λ y. either_cases (Keeps l) (same_term_of nay n v l.packet p).news (λ z e. told_apart (sym e)) (λ z e. refl)))

pub redundant_keeps : RedundantKeeps
unfolding merge_of merged_by
redundant_keeps nay n v l r = go r.held
  where
    go : (k : Held) → Keeps l (merged_by nay n v l r.packet k)
    go Empty e = refl
    go Unreadable e = refl
    go Packet e = heard_keeps nay n v l r.packet l.held e

pub proposal_term : ProposalTerm
unfolding proposal_of
proposal_term nay n v t = (adopted_rose nay n v (blank n (add64 t 1))).term
