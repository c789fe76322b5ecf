-- Late frames, by RULES 11.13: lists of proposals and of deliveries, where a delivery may bring whatever packet was
-- held somewhere before. `LateFrames` is said for any votes, `LateInRoom` for those of a room.
-- Assumes nothing: these are definitions and statements, which proofs/Late.antt proves.
use Rattle.std.specs.Prelude.{◌≡◌, ℕ, not, ◌&&◌, List, [], ◌∷◌, get_or, replicate, ◌==◌, ◌≢◌, nat_lt, slice_index_or, slice_set}
use Rattle.limits.specs.Limits.{last_term}
use Rattle.loops.specs.Pick.{either}
use Rattle.merges.specs.Votes.{no_of}
use Rattle.merges.specs.Merging.{Noes, merge_of, proposal_of, no_payload}
use Rattle.packets.specs.declared.TwoPcPhase.TheVariants.{Committed, Aborted}
use Rattle.packets.specs.declared.CeTwoPcPacket.{CeTwoPcPacket}
use Rattle.merges.specs.declared.votes.Voting.{Voting}
use Rattle.merges.specs.declared.merging.Held.TheVariants.{Packet}
use Rattle.merges.specs.declared.merging.Payload.{Payload}

-- a moment: the term of the last proposal, and what each position holds
pub record Moment : Type 0 where
  pub term : ℕ
  pub held : List Payload

-- at first all are empty
abbrev pub opening : ℕ → ℕ → Moment
opening n t = record { term = t; held = replicate n no_payload }

-- `Deliver v m u`: position v hears what position u held m moments ago; if that was nothing, it hears nothing
pub data Event : Type 0 where
  Propose : ℕ → Event
  Deliver : ℕ → ℕ → ℕ → Event

-- all moments so far, the last one first
abbrev pub History : Type 0
History = List Moment

abbrev pub held_at : History → ℕ → ℕ → Payload
held_at h m u = slice_index_or (get_or h m (opening 0 0)).held u no_payload

-- one event. A position that is none of the n changes nothing, and where no term follows a proposal is refused (13).
unfoldable pub happened : Noes → ℕ → Event → History → Moment → Moment
happened nay n (Propose v) h a =
    either (nat_lt v n && not (a.term == last_term))
    (record { term = (proposal_of nay n v a.term).term; held = slice_set (replicate n no_payload) v (record { held = Packet; packet = proposal_of nay n v a.term }) })
    a
happened nay n (Deliver v m u) h a =
    either (nat_lt v n)
    (record { term = a.term; held = slice_set a.held v (merge_of nay n v (slice_index_or a.held v no_payload) (held_at h m u)).payload })
    a

-- the history after one event more, and after a list of them
unfoldable pub after : Noes → ℕ → Event → History → History
after nay n e [] = []
after nay n e (a ∷ h) = happened nay n e (a ∷ h) a ∷ a ∷ h

unfoldable pub history : Noes → ℕ → List Event → History → History
history nay n [] h = h
history nay n (e ∷ es) h = history nay n es (after nay n e h)

-- some position held the packet p at some moment
abbrev pub EverHeld : History → CeTwoPcPacket → Type 0
EverHeld h p = (m : ℕ) × (u : ℕ) × (held_at h m u ≡ record { held = Packet; packet = p })

-- Two packets that were held for one term, be it by others and long apart, are not one Committed and one Aborted: for
-- any votes, any n and any start term, from an empty room on ..
abbrev pub LateFrames : Type 0
LateFrames =
    (nay : Noes) (n t : ℕ) (es : List Event) (p q : CeTwoPcPacket)
    → EverHeld (history nay n es (opening n t ∷ [])) p → EverHeld (history nay n es (opening n t ∷ [])) q
    → p.term ≡ q.term → p.phase ≡ Committed → q.phase ≢ Aborted

-- .. and so in a room, where n, abort probability and seed are fixed, and the votes are those that they give
abbrev pub room_history : Voting → ℕ → List Event → History
room_history s t es = history (no_of s) s.n es (opening s.n t ∷ [])

abbrev pub LateInRoom : Type 0
LateInRoom =
    (s : Voting) (t : ℕ) (es : List Event) (p q : CeTwoPcPacket)
    → EverHeld (room_history s t es) p → EverHeld (room_history s t es) q
    → p.term ≡ q.term → p.phase ≡ Committed → q.phase ≢ Aborted
