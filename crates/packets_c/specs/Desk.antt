-- The merge on lent texts, by RULES 6.8, and refusals 2, 8 and 10 of RULES 15: the reader, the merge of packets and
-- the writer, in that order. Assumes nothing: these are definitions and statements. The statements are proved in Desks
-- and Texting of proofs/.
use Rattle.std.specs.Prelude.{◌≡◌, ⊤, Result, Ok, Err, ◌&&◌, List, ◌⊎◌, ℕ, ◌≤◌, leb, ltb, eqb, Float, length, take}
use Rattle.limits.specs.Limits.{positions, last_term}
use Rattle.limits.specs.Refusals.{bad_positions, no_position, no_fit, number_of, answer_of}
use Rattle.limits.specs.declared.refusals.Refusal.{Refusal}
use Rattle.limits.specs.declared.refusals.Refusal.TheVariants.{BadPositions, NoPosition, NoFit, NoTerm}
use Rattle.loops.specs.Pick.{either}
use Rattle.packets.specs.Packets.{ce_text, ce_within}
use Rattle.packets.specs.Writing.{wrote_of, left_of}
use Rattle.packets_c.specs.Console.{asked_wrote, asked_left}
use Rattle.merges.specs.Votes.{no_of}
use Rattle.merges.specs.Merging.{MergeResult, Redundant, NewInfo, Merged, merge_of, proposal_of, payload_of}
use Rattle.packets.specs.declared.CeTwoPcPacket.{CeTwoPcPacket}
use Rattle.merges.specs.declared.votes.Voting.{Voting}
use Rattle.merges.specs.declared.merging.Held.TheVariants.{Packet}

-- 2 for n outside 1 to 64, then 8 for a position that is none of them, then 10 for a stated length over its buffer
unfoldable pub refusal_of : ℕ → ℕ → ℕ → ℕ → ℕ → ℕ → Result ⊤ Refusal
refusal_of n v cap len rcap rlen =
    either (ltb 0 n && leb n positions)
    (either (ltb v n) (either (leb len cap) (either (leb rlen rcap) (Ok tt) (Err NoFit)) (Err NoFit)) (Err NoPosition))
    (Err BadPositions)

-- all that a call hands back: the refusal's number, 0 for none, and the local buffer, its stated length and the number that says whether
-- there was news, as they are afterwards
pub record Desk : Type 0 where
  pub refusal : ℕ
  pub text : List ℕ
  pub len : ℕ
  pub news : ℕ

-- what was news is written over the local text, and refused as the writer refuses it; 1 says so
abbrev pub rewriting : List ℕ → ℕ → ℕ → Result ℕ Refusal → Desk
rewriting local len was (Ok next) = record { refusal = 0; text = local; len = next; news = 1 }
rewriting local len was (Err k) = record { refusal = number_of k; text = local; len = len; news = was }

unfoldable pub rewritten : List ℕ → ℕ → ℕ → CeTwoPcPacket → Desk
rewritten local len was p =
    rewriting (left_of (ce_within p) (ce_text p) local 0) len was (wrote_of (ce_within p) (ce_text p) local 0)

-- Redundant leaves the text and its length; 0 says so
unfoldable pub answered : List ℕ → ℕ → ℕ → CeTwoPcPacket → MergeResult → Desk
answered local len was p Redundant = record { refusal = 0; text = local; len = len; news = 0 }
answered local len was p NewInfo = rewritten local len was p

abbrev pub answer : List ℕ → ℕ → ℕ → Merged → Desk
answer local len was m = answered local len was m.payload.packet m.result

abbrev pub voters : ℕ → Float → ℕ → Voting
voters n p seed = record { n = n; abort_probability = p; seed = seed }

-- a refused call leaves all as it was
abbrev pub desk_after : List ℕ → ℕ → ℕ → Merged → Result ⊤ Refusal → Desk
desk_after local len was m (Ok x) = answer local len was m
desk_after local len was m (Err k) = record { refusal = number_of k; text = local; len = len; news = was }

-- what the merge makes of two texts
abbrev pub met : Voting → ℕ → List ℕ → ℕ → List ℕ → ℕ → Merged
met s v local len received rlen = merge_of (no_of s) s.n v (payload_of local len) (payload_of received rlen)

-- the call: position v of s.n positions merges the text in `received` into that in `local`; `was` is the news number
-- before
unfoldable pub desk_of : Voting → ℕ → List ℕ → ℕ → List ℕ → ℕ → ℕ → Desk
desk_of s v local len received rlen was =
    desk_after local len was (met s v local len received rlen) (refusal_of s.n v (length local) len (length received) rlen)

-- ---- the proposal's text

-- 2 and 8 as above, then 13 where no term follows
unfoldable pub propose_refusal : ℕ → ℕ → ℕ → Result ⊤ Refusal
propose_refusal n v t =
    either (ltb 0 n && leb n positions) (either (ltb v n) (either (eqb t last_term) (Err NoTerm) (Ok tt)) (Err NoPosition)) (Err BadPositions)

-- the packet of the term after t, by position v
abbrev pub offered : CeTwoPcPacket → Result ⊤ Refusal → Result CeTwoPcPacket Refusal
offered p (Ok x) = Ok p
offered p (Err k) = Err k

abbrev pub offer_of : Voting → ℕ → ℕ → Result CeTwoPcPacket Refusal
offer_of s v t = offered (proposal_of (no_of s) s.n v t) (propose_refusal s.n v t)

-- as the writer answers at the start of a buffer, and what it leaves there
unfoldable pub proposed_of : Voting → ℕ → ℕ → List ℕ → Result ℕ Refusal
proposed_of s v t buf = asked_wrote (λ p. ce_within p) ce_text (offer_of s v t) buf 0

unfoldable pub proposed_left : Voting → ℕ → ℕ → List ℕ → List ℕ
proposed_left s v t buf = asked_left (λ p. ce_within p) ce_text (offer_of s v t) buf 0

-- ---- what the merge on texts promises

-- a refused call leaves all as it was
abbrev pub RefusedLeaves : Type 0
RefusedLeaves =
    (s : Voting) (v : ℕ) (local : List ℕ) (len : ℕ) (received : List ℕ) (rlen was : ℕ)
    → ((desk_of s v local len received rlen was).refusal ≡ 0 → ⊥)
    → ((desk_of s v local len received rlen was).text ≡ local)
    × ((desk_of s v local len received rlen was).len ≡ len)
    × ((desk_of s v local len received rlen was).news ≡ was)

-- what is read from the local buffer after a call that is not refused is what the merge of packets leaves of what was
-- read before
abbrev pub TextsFollow : Type 0
TextsFollow =
    (s : Voting) (v : ℕ) (local : List ℕ) (len : ℕ) (received : List ℕ) (rlen was : ℕ)
    → (desk_of s v local len received rlen was).refusal ≡ 0
    → payload_of (desk_of s v local len received rlen was).text (desk_of s v local len received rlen was).len
    ≡ (merge_of (no_of s) s.n v (payload_of local len) (payload_of received rlen)).payload

-- what is read after a proposal that is not refused is the proposal
abbrev pub ProposalFollows : Type 0
ProposalFollows =
    (s : Voting) (v t : ℕ) (buf : List ℕ) (len : ℕ) → proposed_of s v t buf ≡ Ok len
    → payload_of (proposed_left s v t buf) len
    ≡ record { held = Packet; packet = proposal_of (no_of s) s.n v t }

-- a copy of a text is read as the text
abbrev pub CopyReads : Type 0
CopyReads = (buf : List ℕ) (len : ℕ) → payload_of (take len buf) len ≡ payload_of buf len

-- a buffer of 596 bytes has room for every text: then a call is refused by what is tested before any text is read, and
-- by nothing else
abbrev pub AmpleMerges : Type 0
AmpleMerges =
    (s : Voting) (v : ℕ) (local : List ℕ) (len : ℕ) (received : List ℕ) (rlen was : ℕ) → 596 ≤ length local
    → (desk_of s v local len received rlen was).refusal ≡ answer_of (refusal_of s.n v (length local) len (length received) rlen)

abbrev pub AmpleProposes : Type 0
AmpleProposes =
    (s : Voting) (v t : ℕ) (buf : List ℕ) → 596 ≤ length buf → answer_of (proposed_of s v t buf) ≡ answer_of (propose_refusal s.n v t)

-- a call is refused as 2, 8 or 10, and as nothing else: inside a merge, 9 is no refusal
abbrev pub Refusals : Type 0
Refusals =
    (s : Voting) (v : ℕ) (local : List ℕ) (len : ℕ) (received : List ℕ) (rlen was : ℕ)
    → ((desk_of s v local len received rlen was).refusal ≡ 0)
    ⊎ (((desk_of s v local len received rlen was).refusal ≡ bad_positions)
    ⊎ (((desk_of s v local len received rlen was).refusal ≡ no_position) ⊎ ((desk_of s v local len received rlen was).refusal ≡ no_fit)))
