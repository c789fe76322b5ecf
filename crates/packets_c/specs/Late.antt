-- Late frames on lent texts, by RULES 11.13: the lists of merges specs/Late, where each position is a buffer with the
-- stated length of its text, a proposal is a call of `ce_packet_propose`, and a delivery hands a copy of any earlier
-- text to `ce_packet_merge`.
-- Assumes nothing: these are definitions and a statement, which proofs/Late.antt proves.
use Rattle.std.specs.Prelude.{◌≡◌, Result, Ok, Err, List, [], ◌∷◌, map, ℕ, ◌+◌, take, get_or, set}
use Rattle.limits.specs.declared.refusals.Refusal.{Refusal}
use Rattle.merges.specs.Merging.{payload_of}
use Rattle.merges.specs.Late.{Event, Propose, Deliver}
use Rattle.packets_c.specs.Desk.{desk_of, proposed_of, proposed_left}
use Rattle.packets.specs.declared.TwoPcPhase.TheVariants.{Committed, Aborted}
use Rattle.packets.specs.declared.CeTwoPcPacket.{CeTwoPcPacket}
use Rattle.merges.specs.declared.votes.Voting.{Voting}
use Rattle.merges.specs.declared.merging.Held.TheVariants.{Packet}
use Rattle.merges.specs.declared.merging.Payload.{Payload}

-- a position: its buffer, of any size, and how many bytes of it are its text
pub record Place : Type 0 where
  pub buffer : List ℕ
  pub len : ℕ

abbrev pub emptied : List ℕ → Place
emptied b = record { buffer = b; len = 0 }

-- what a position that is none has
abbrev pub no_place : Place
no_place = emptied []

-- a moment: the term of the last proposal, and all positions
pub record Moment : Type 0 where
  pub term : ℕ
  pub places : List Place

-- at first all texts are empty, whatever bytes stand in the buffers
abbrev pub opening : ℕ → List (List ℕ) → Moment
opening t buffers = record { term = t; places = map emptied buffers }

-- all moments so far, the last one first
abbrev pub History : Type 0
History = List Moment

abbrev pub place_at : History → ℕ → ℕ → Place
place_at h m u = get_or (get_or h m (opening 0 [])).places u no_place

-- position v has proposed after the moment a: the text, so long, stands in its buffer, and all other positions are
-- empty
abbrev pub proposing : Voting → ℕ → Moment → ℕ → Moment
proposing s v a len =
    record {
      term = a.term + 1;
      places =
          set (map (λ (x : Place). emptied x.buffer) a.places) v
          (record { buffer = proposed_left s v a.term (get_or a.places v no_place).buffer; len = len });
    }

-- a refused proposal (2, 8, 10, 13) changes nothing
abbrev pub proposed : Voting → ℕ → Moment → Result ℕ Refusal → Moment
proposed s v a (Ok len) = proposing s v a len
proposed s v a (Err k) = a

-- position v after a call with a copy of the text of r; refused, it is as it was
abbrev pub merging : Voting → ℕ → Place → Place → Place
merging s v l r =
    record {
      buffer = (desk_of s v l.buffer l.len (take r.len r.buffer) r.len 0).text;
      len = (desk_of s v l.buffer l.len (take r.len r.buffer) r.len 0).len;
    }

-- one event. A refused merge (2, 8, 10) changes nothing.
unfoldable pub happened : Voting → Event → History → Moment → Moment
happened s (Propose v) h a = proposed s v a (proposed_of s v a.term (get_or a.places v no_place).buffer)
happened s (Deliver v m u) h a =
    record { term = a.term; places = set a.places v (merging s v (get_or a.places v no_place) (place_at h m u)) }

unfoldable pub history : Voting → List Event → History → History
history s [] h = h
history s (e ∷ es) [] = []
history s (e ∷ es) (a ∷ h) = history s es (happened s e (a ∷ h) a ∷ a ∷ h)

-- all moments of a list of events, from empty positions in term t on
abbrev pub desk_history : Voting → ℕ → List (List ℕ) → List Event → History
desk_history s t buffers es = history s es (opening t buffers ∷ [])

-- what the text of a position is read as
abbrev pub read_of : Place → Payload
read_of x = payload_of x.buffer x.len

-- the text of some position at some moment is read as the packet p
abbrev pub EverRead : History → CeTwoPcPacket → Type 0
EverRead h p = (m : ℕ) × (u : ℕ) × (read_of (place_at h m u) ≡ record { held = Packet; packet = p })

-- whatever the buffers and the list, no two texts ever held are packets of one term, one Committed and one Aborted
abbrev pub LateTexts : Type 0
LateTexts =
    (s : Voting) (t : ℕ) (buffers : List (List ℕ)) (es : List Event) (p q : CeTwoPcPacket)
    → EverRead (desk_history s t buffers es) p → EverRead (desk_history s t buffers es) q
    → p.term ≡ q.term → p.phase ≡ Committed → q.phase ≡ Aborted → ⊥
