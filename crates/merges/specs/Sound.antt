-- RULES 11.9. What a packet may claim of the votes of its term, and what merging keeps: the laws on which demand 3's
-- agreement rests. Assumes nothing: these are definitions and statements. They are proved in Safety, Growth, Marking,
-- Staying, Limits and Proposing of proofs/.
use Rattle.std.specs.Prelude.{◌≡◌, ℕ, ◌<◌, ◌≤◌, true, false, ◌⊎◌, ◌==◌, ◌≢◌}
use Rattle.limits.specs.Limits.{positions}
use Rattle.loops.specs.Pick.{either}
use Rattle.packets.specs.Packets.{ValidCe}
use Rattle.loops.specs.Wrap.{add64}
use Rattle.merges.specs.Merging.{Redundant, NewInfo, Noes, entry, only_of, rank_of, with_state, adopted_of, new_info, merge_of, blank, proposal_of}
use Rattle.packets.specs.declared.TwoPcPhase.{TwoPcPhase}
use Rattle.packets.specs.declared.TwoPcPhase.TheVariants.{Prepare, Committed, Aborted}
use Rattle.packets.specs.declared.Bitmap.{Bitmap}
use Rattle.packets.specs.declared.CeTwoPcPacket.{CeTwoPcPacket}
use Rattle.merges.specs.declared.merging.Held.{Held}
use Rattle.merges.specs.declared.merging.Held.TheVariants.{Empty, Unreadable, Packet}
use Rattle.merges.specs.declared.merging.Payload.{Payload}

-- all of the n positions vote yes in term t; one or more vote no
abbrev pub AllYes : Noes → ℕ → ℕ → Type 0
AllYes nay n t = (i : ℕ) → i < n → nay t i ≡ false

abbrev pub SomeNo : Noes → ℕ → ℕ → Type 0
SomeNo nay n t = (i : ℕ) × (i < n) × (nay t i ≡ true)

-- each marked position below n votes yes
abbrev pub Backed : Noes → ℕ → ℕ → Bitmap → Type 0
Backed nay n t b = (i : ℕ) → i < n → entry b i ≡ true → nay t i ≡ false

-- what each phase claims
abbrev pub Claim : Noes → ℕ → ℕ → TwoPcPhase → Bitmap → Type 0
Claim nay n t Prepare b = Backed nay n t b
Claim nay n t Committed b = AllYes nay n t
Claim nay n t Aborted b = SomeNo nay n t

abbrev pub Sound : Noes → ℕ → CeTwoPcPacket → Type 0
Sound nay n p = Claim nay n p.term p.phase p.flags_bitmap

-- a payload that is no packet claims nothing
abbrev pub SoundBy : Noes → ℕ → CeTwoPcPacket → Held → Type 0
SoundBy nay n p Empty = Unit {0}
SoundBy nay n p Unreadable = Unit {0}
SoundBy nay n p Packet = Sound nay n p

abbrev pub SoundHeld : Noes → ℕ → Payload → Type 0
SoundHeld nay n l = SoundBy nay n l.packet l.held

-- a sound local and a sound received payload, whoever held it and whenever, merge to a sound one
abbrev pub MergesSound : Type 0
MergesSound =
    (nay : Noes) (n v : ℕ) (l r : Payload) → v < n → SoundHeld nay n l → SoundHeld nay n r → SoundHeld nay n (merge_of nay n v l r).payload

abbrev pub ProposesSound : Type 0
ProposesSound = (nay : Noes) (n v t : ℕ) → v < n → Sound nay n (proposal_of nay n v t)

-- two sound packets of one term are never one Committed and one Aborted
abbrev pub NeverBoth : Type 0
NeverBoth =
    (nay : Noes) (n : ℕ) (p q : CeTwoPcPacket) → Sound nay n p → Sound nay n q → p.term ≡ q.term → p.phase ≡ Committed → q.phase ≢ Aborted

-- q stands where p stood: a higher term, or the same term and no lower phase
pub record Grew (p q : CeTwoPcPacket) : Type 0 where
  pub term : p.term ≤ q.term
  pub phase : q.term ≡ p.term → rank_of p.phase ≤ rank_of q.phase

-- what a position holds stays a packet, and grows
pub record Grown (l m : Payload) : Type 0 where
  pub held : m.held ≡ Packet
  pub packet : Grew l.packet m.packet

abbrev pub MergesGrow : Type 0
MergesGrow = (nay : Noes) (n v : ℕ) (l r : Payload) → l.held ≡ Packet → Grown l (merge_of nay n v l r).payload

-- the term after a merge is that of one of the two
abbrev pub MergesKeepTerm : Type 0
MergesKeepTerm = (nay : Noes) (n v : ℕ) (l r : Payload) → l.held ≡ Packet → r.held ≡ Packet → r.packet.term ≡ l.packet.term
    → (merge_of nay n v l r).payload.packet.term ≡ l.packet.term

-- whoever holds nothing adopts the packet that it hears, and so has its term (of its own mark `OwnMark` speaks)
abbrev pub EmptyAdopts : Type 0
EmptyAdopts = (nay : Noes) (n v : ℕ) (l r : Payload) → l.held ≡ Empty → r.held ≡ Packet
    → (merge_of nay n v l r ≡ new_info (adopted_of nay n v r.packet)) × ((adopted_of nay n v r.packet).term ≡ r.packet.term)

-- what is no packet changes nothing
abbrev pub NothingHeard : Type 0
NothingHeard = (nay : Noes) (n v : ℕ) (l r : Payload) → (r.held ≢ Packet) → (merge_of nay n v l r).payload ≡ l

-- Redundant leaves what is held as it was
abbrev pub RedundantKeeps : Type 0
RedundantKeeps = (nay : Noes) (n v : ℕ) (l r : Payload) → (merge_of nay n v l r).result ≡ Redundant → (merge_of nay n v l r).payload ≡ l

abbrev pub ProposalTerm : Type 0
ProposalTerm = (nay : Noes) (n v t : ℕ) → (proposal_of nay n v t).term ≡ add64 t 1

-- ---- marks

-- the packet that a merge leaves
abbrev pub leaves : Noes → ℕ → ℕ → Payload → Payload → CeTwoPcPacket
leaves nay n v l r = (merge_of nay n v l r).payload.packet

-- a merge invents no mark but the own: each stood in what was held or in what was received
abbrev pub MarksFrom : Type 0
MarksFrom =
    (nay : Noes) (n v : ℕ) (l r : Payload) → (merge_of nay n v l r).payload.held ≡ Packet → (i : ℕ) → entry (leaves nay n v l r).flags_bitmap i ≡ true
    → (entry l.packet.flags_bitmap i ≡ true) ⊎ ((entry r.packet.flags_bitmap i ≡ true) ⊎ (i ≡ v))

-- within a term and a phase no mark is lost
abbrev pub MarksStay : Type 0
MarksStay =
    (nay : Noes) (n v : ℕ) (l r : Payload) → l.held ≡ Packet → (leaves nay n v l r).term ≡ l.packet.term → (leaves nay n v l r).phase ≡ l.packet.phase
    → (i : ℕ) → i < 64 → entry l.packet.flags_bitmap i ≡ true → entry (leaves nay n v l r).flags_bitmap i ≡ true

-- what was news has the own mark
abbrev pub OwnMark : Type 0
OwnMark =
    (nay : Noes) (n v : ℕ) (l r : Payload) → v < n → n ≤ positions → (merge_of nay n v l r).result ≡ NewInfo
    → entry (leaves nay n v l r).flags_bitmap v ≡ true

-- ---- limits: what is within them, with nothing behind its lengths, merges to what is so too
abbrev pub ValidHeld : Payload → Type 0
ValidHeld l = l.held ≡ Packet → ValidCe l.packet

abbrev pub MergesValid : Type 0
MergesValid =
    (nay : Noes) (n v : ℕ) (l r : Payload) → n ≤ positions
    → ValidHeld l → ValidHeld r → ValidHeld (merge_of nay n v l r).payload

abbrev pub ProposesValid : Type 0
ProposesValid = (nay : Noes) (n v t : ℕ) → n ≤ positions → ValidCe (proposal_of nay n v t)

-- ---- what RULES 6.6 says of a proposal: a maker that votes no aborts, a lone one commits, any other waits for votes;
-- the one mark is the maker's
abbrev pub ProposalSays : Type 0
ProposalSays =
    (nay : Noes) (n v t : ℕ) → v < n
    → proposal_of nay n v t ≡ with_state (either (nay (add64 t 1) v) Aborted (either (n == 1) Committed Prepare)) (only_of n v) (blank n (add64 t 1))
