-- A merge on texts that is not refused answers by the merge of packets, and a refused one leaves all as it was.
-- Assumes nothing.
use Rattle.std.specs.Prelude.{⊤, Result, Ok, Err}
use Rattle.std.proofs.Common.{◌≡◌, refl, sym, ◌∙◌, ap, ℕ, ◌+◌, Bool, true, false, List, leb, length}
use Rattle.limits.specs.declared.refusals.Refusal.{Refusal}
use Rattle.limits.specs.declared.refusals.Refusal.TheVariants.{BadPacket, NoFit}
use Rattle.loops.specs.Pick.{either}
use Rattle.texts.specs.Put.{written}
use Rattle.packets.specs.Packets.{ce_text, ce_within}
use Rattle.packets.specs.Writing.{wrote_of, left_of}
use Rattle.packets_c.specs.Desk.{refusal_of, Desk, rewriting, rewritten, answered, desk_after, met, desk_of, RefusedLeaves}
use Rattle.packets.specs.declared.CeTwoPcPacket.{CeTwoPcPacket}
use Rattle.merges.specs.Votes.{no_of}
use Rattle.merges.specs.Merging.{MergeResult, Redundant, NewInfo, Merged, merge_of, payload_of}
use Rattle.merges.specs.declared.votes.Voting.{Voting}
use Rattle.merges.specs.declared.merging.Payload.{Payload}

-- a call that is not refused hands back what the merge makes of what the two texts are
module _ (s : Voting) (v : ℕ) (local : List ℕ) (len : ℕ) (received : List ℕ) (rlen was : ℕ) (k : Result ⊤ Refusal) (e : k ≡ refusal_of s.n v (length local) len (length received) rlen) where
  module _ (none : k ≡ Ok tt) (ours theirs : Payload) (f : ours ≡ payload_of local len) (g : theirs ≡ payload_of received rlen) (m : Merged) (d : m ≡ merge_of (no_of s) s.n v ours theirs) where
    merged_is : m ≡ merge_of (no_of s) s.n v (payload_of local len) (payload_of received rlen)
    merged_is = d ∙ ap (λ (x : Payload). merge_of (no_of s) s.n v x theirs) f ∙ ap (λ (x : Payload). merge_of (no_of s) s.n v (payload_of local len) x) g

    pub desk_done : desk_of s v local len received rlen was ≡ answered local len was m.payload.packet m.result
    unfolding desk_of
    desk_done = rw (← e, none) (ap (λ (x : Merged). answered local len was x.payload.packet x.result) (sym merged_is))

abbrev Leaves : List ℕ → ℕ → ℕ → Desk → Type 0
Leaves local len was d = (d.refusal ≡ 0 → ⊥) → (d.text ≡ local) × (d.len ≡ len) × (d.news ≡ was)

-- what the writer leaves of the buffer, by its tests
rewriting_leaves : (fine fits : Bool) (t local : List ℕ) (at len was : ℕ)
    → Leaves local len was (rewriting (either fine (either fits (written local at t) local) local) len was (either fine (either fits (Ok (at + length t)) (Err NoFit)) (Err BadPacket)))
rewriting_leaves true true t local at len was = λ h. absurd (h refl)
rewriting_leaves true false t local at len was = λ h. (refl, refl, refl)
rewriting_leaves false fits t local at len was = λ h. (refl, refl, refl)

rewritten_leaves : (local : List ℕ) (len was : ℕ) (p : CeTwoPcPacket) → Leaves local len was (rewritten local len was p)
unfolding rewritten wrote_of left_of
rewritten_leaves local len was p =
    rewriting_leaves (ce_within p) (leb (0 + length (ce_text p)) (length local)) (ce_text p) local 0 len was

answered_leaves : (local : List ℕ) (len was : ℕ) (p : CeTwoPcPacket) (r : MergeResult) → Leaves local len was (answered local len was p r)
unfolding answered
answered_leaves local len was p Redundant = λ h. absurd (h refl)
answered_leaves local len was p NewInfo = rewritten_leaves local len was p

after_leaves : (local : List ℕ) (len was : ℕ) (m : Merged) (r : Result ⊤ Refusal) → Leaves local len was (desk_after local len was m r)
after_leaves local len was m (Ok x) = answered_leaves local len was m.payload.packet m.result
after_leaves local len was m (Err k) = λ h. (refl, refl, refl)

pub refused_leaves : RefusedLeaves
unfolding desk_of
refused_leaves s v local len received rlen was =
    after_leaves local len was (met s v local len received rlen) (refusal_of s.n v (length local) len (length received) rlen)
