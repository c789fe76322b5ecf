-- The merge on texts follows the merge of packets, and is refused as 2, 8 or 10 alone; a proposal's text is read as the
-- proposal.
-- Assumes nothing.
use Rattle.std.specs.Prelude.{⊤, Result, Ok, Err}
use Rattle.packets_c.specs.Console.{asked_wrote, asked_left}
use mathlib.Core.Path.{◌≡◌, refl, sym, ap, ◌∙◌, subst}
use mathlib.Core.Bool.{Bool, true, false, ◌&&◌}
use mathlib.Core.List.{List}
use mathlib.Core.Logic.{◌⊎◌, inl, inr}
use Prim.Native.Nat.{ℕ, ◌+◌, ◌≤◌, ◌<◌}
use native.Mathlib.Omega.{arith}
use lib.Dec.{leb, ltb, eqb}
use lib.ListN.{length, take, length-take}
use lib.Seq.{take_all, take-take}
use borrow.Author.Tests.{le-leb, leb-true, leb-false, ltb-true, ne_eqb}
use Rattle.limits.specs.Limits.{last_term}
use Rattle.limits.specs.Refusals.{bad_positions, no_position, no_fit, number_of, answer_of}
use Rattle.limits.specs.declared.refusals.Refusal.{Refusal}
use Rattle.limits.specs.declared.refusals.Refusal.TheVariants.{BadLine, BadPositions, BadLinks, BadLoss, NoRepeats}
use Rattle.limits.specs.declared.refusals.Refusal.TheVariants.{NoInterval, ManyTransactions, NoPosition, BadPacket}
use Rattle.limits.specs.declared.refusals.Refusal.TheVariants.{NoFit, OtherKind, NoProposal, NoTerm, Stopped, TooLong}
use Rattle.limits.specs.declared.refusals.Refusal.TheVariants.{WordsShort, RowsShort}
use Rattle.loops.specs.Pick.{either}
use Rattle.marks.specs.Sets.{and_true}
use Rattle.texts.specs.Put.{written, length_written}
use Rattle.packets.specs.Packets.{ce_text, ce_within, ValidCe}
use Rattle.packets.specs.Reading.{ce_read, ce_read_of}
use Rattle.packets.specs.Writing.{wrote_of, left_of}
use Rattle.merges.specs.Votes.{no_of}
use Rattle.merges.specs.Merging.{MergeResult, Redundant, NewInfo, Merged, Noes, same_term_of, outdated, heard_of, merged_by, merge_of, read_as, payload_of, proposal_of}
use Rattle.merges.specs.Sound.{ValidHeld}
use Rattle.packets_c.specs.Desk.{refusal_of, Desk, rewriting, rewritten, answered, desk_after, desk_of, offered, propose_refusal, proposed_of, proposed_left, TextsFollow, ProposalFollows, CopyReads, AmpleMerges, AmpleProposes, Refusals}
use Rattle.packets.specs.declared.CeTwoPcPacket.{CeTwoPcPacket}
use Rattle.merges.specs.declared.votes.Voting.{Voting}
use Rattle.merges.specs.declared.merging.Held.{Held}
use Rattle.merges.specs.declared.merging.Held.TheVariants.{Empty, Unreadable, Packet}
use Rattle.merges.specs.declared.merging.Payload.{Payload}
use Rattle.packets.proofs.Promises.{ce_promises}
use Rattle.merges.proofs.Safety.{either_cases}
use Rattle.merges.proofs.Growth.{told_apart, redundant_keeps}
use Rattle.merges.proofs.Limits.{merges_valid, proposes_valid}
use Rattle.packets_c.proofs.Asked.{taken_back}

-- no refusal has the number 0
some_number : (k : Refusal) → number_of k ≡ 0 → ⊥
some_number BadLine h = omega arith
some_number BadPositions h = omega arith
some_number BadLinks h = omega arith
some_number BadLoss h = omega arith
some_number NoRepeats h = omega arith
some_number NoInterval h = omega arith
some_number ManyTransactions h = omega arith
some_number NoPosition h = omega arith
some_number BadPacket h = omega arith
some_number NoFit h = omega arith
some_number OtherKind h = omega arith
some_number NoProposal h = omega arith
some_number NoTerm h = omega arith
some_number Stopped h = omega arith
some_number TooLong h = omega arith
some_number WordsShort h = omega arith
some_number RowsShort h = omega arith

same_ok : {A : Type 0} {x y : A} → ◌≡◌ {A = Result A Refusal} (Ok x) (Ok y) → x ≡ y
same_ok e = cc

same_err : {A : Type 0} {x y : Refusal} → ◌≡◌ {A = Result A Refusal} (Err x) (Err y) → x ≡ y
same_err e = cc

never_ok : {A B : Type 0} {k : Refusal} {x : A} → ◌≡◌ {A = Result A Refusal} (Err k) (Ok x) → B
never_ok e = let z : ◌≡◌ {A = ℕ} 0 1 = cc in absurd (omega arith)

never_err : {A B : Type 0} {k : Refusal} {x : A} → ◌≡◌ {A = Result A Refusal} (Ok x) (Err k) → B
never_err e = let z : ◌≡◌ {A = ℕ} 0 1 = cc in absurd (omega arith)

-- ---- what is read is valid
given_valid : (s : List ℕ) (len : ℕ) (p : CeTwoPcPacket) → ce_read s len ≡ Ok p → ValidCe p
unfolding ce_read
given_valid s len p = by (leb len (length s))
  where
    by : (b : Bool) → either b (ce_read_of (take len s)) (Err NoFit) ≡ Ok p → ValidCe p
    by true e = (ce_promises.given (take len s) p e).1
    by false e = never_ok e

read_valid : (r : Result CeTwoPcPacket Refusal) → ((p : CeTwoPcPacket) → r ≡ Ok p → ValidCe p) → ValidHeld (read_as r)
read_valid (Ok p) h = λ e. h p refl
read_valid (Err k) h = λ e. absurd (let z : ◌≡◌ {A = ℕ} 0 1 = cc in omega arith)

payload_valid : (s : List ℕ) (len : ℕ) → ValidHeld (payload_of s len)
unfolding payload_of
payload_valid s len =
    either_cases ValidHeld (eqb len 0)
    (λ x e. absurd (let z : ◌≡◌ {A = ℕ} 0 1 = cc in omega arith))
    (λ x. read_valid (ce_read s len) (given_valid s len))

-- ---- what is news is a packet
abbrev NewsHeld : Merged → Type 0
NewsHeld m = m.result ≡ NewInfo → m.payload.held ≡ Packet

heard_held : (nay : Noes) (n v : ℕ) (l : Payload) (p : CeTwoPcPacket) (h : Held) → NewsHeld (heard_of nay n v l p h)
unfolding heard_of
heard_held nay n v l p Empty = λ e. refl
heard_held nay n v l p Unreadable = λ e. told_apart e
heard_held nay n v l p Packet =
    either_cases NewsHeld (ltb l.packet.term p.term)
    (λ x e. refl)
    (λ x. either_cases NewsHeld (outdated p.term l.packet.term)
    (λ y e. told_apart e)
    (λ y. either_cases NewsHeld (same_term_of nay n v l.packet p).news (λ z e. refl) (λ z e. told_apart e)))

merged_held : (nay : Noes) (n v : ℕ) (l : Payload) (p : CeTwoPcPacket) (h : Held) → NewsHeld (merged_by nay n v l p h)
unfolding merged_by
merged_held nay n v l p Empty = λ e. told_apart e
merged_held nay n v l p Unreadable = λ e. told_apart e
merged_held nay n v l p Packet = heard_held nay n v l p l.held

pub news_held : (nay : Noes) (n v : ℕ) (l r : Payload) → NewsHeld (merge_of nay n v l r)
unfolding merge_of
news_held nay n v l r = merged_held nay n v l r.packet r.held

-- ---- a valid packet that is written at the start of a buffer is read from there
some_text : (p : CeTwoPcPacket) → length (ce_text p) ≡ 0 → ⊥
unfolding ce_text
some_text p e = omega arith

zero_sum : (x : ℕ) → 0 + x ≡ x
zero_sum x = omega arith

reread : (p : CeTwoPcPacket) → ValidCe p → (d : List ℕ) → 0 + length (ce_text p) ≤ length d
    → payload_of (written d 0 (ce_text p)) (0 + length (ce_text p)) ≡ record { held = Packet; packet = p }
unfolding payload_of ce_read
reread p s d h =
    let t = ce_text p in
    let k : length t ≤ length (written d 0 t) = omega (arith, length_written d 0 t h) in
    rw (zero_sum (length t), ne_eqb (length t) 0 (some_text p), le-leb (length t) (length (written d 0 t)) k, taken_back d t, ce_promises.back p s)

-- ---- the call
module _ (p : CeTwoPcPacket) (s : ValidCe p) (local : List ℕ) (len was : ℕ) where
  abbrev Follows : Desk → Type 0
  Follows d = d.refusal ≡ 0 → payload_of d.text d.len ≡ record { held = Packet; packet = p }

  abbrev Ends : Desk → Type 0
  Ends d = (d.refusal ≡ 0) ⊎ ((d.refusal ≡ bad_positions) ⊎ ((d.refusal ≡ no_position) ⊎ (d.refusal ≡ no_fit)))

  -- the writer's answer, by whether the text fits
  abbrev Made : Bool → Desk
  Made b = rewriting (either b (written local 0 (ce_text p)) local) len was (either b (Ok (0 + length (ce_text p))) (Err NoFit))

  rewritten_made : rewritten local len was p ≡ Made (leb (0 + length (ce_text p)) (length local))
  unfolding rewritten wrote_of left_of
  rewritten_made = rw (ce_promises.fits p s)

  made_follows : (b : Bool) → leb (0 + length (ce_text p)) (length local) ≡ b → Follows (Made b)
  made_follows true e = λ k. reread p s local (leb-true (0 + length (ce_text p)) (length local) e)
  made_follows false e = λ k. absurd (some_number NoFit k)

  made_ends : (b : Bool) → Ends (Made b)
  made_ends true = inl refl
  made_ends false = inr (inr (inr refl))

  rewritten_follows : Follows (rewritten local len was p)
  rewritten_follows = subst Follows (sym rewritten_made) (made_follows (leb (0 + length (ce_text p)) (length local)) refl)

  rewritten_ends : Ends (rewritten local len was p)
  rewritten_ends = subst Ends (sym rewritten_made) (made_ends (leb (0 + length (ce_text p)) (length local)))

-- the refusal by its four tests
abbrev tested : Bool → Bool → Bool → Bool → Result ⊤ Refusal
tested a b c d = either a (either b (either c (either d (Ok tt) (Err NoFit)) (Err NoFit)) (Err NoPosition)) (Err BadPositions)

-- an allowed call is made for one of at most 64 positions
allowed : (n v cap len rcap rlen : ℕ) (x : ⊤) → refusal_of n v cap len rcap rlen ≡ Ok x → (n ≤ 64) × (v < n)
unfolding refusal_of
allowed n v cap len rcap rlen x = go (ltb 0 n && leb n 64) (ltb v n) refl refl
  where
    go : (a b : Bool) → (ltb 0 n && leb n 64) ≡ a → ltb v n ≡ b → tested a b (leb len cap) (leb rlen rcap) ≡ Ok x → (n ≤ 64) × (v < n)
    go true true e f k = (leb-true n 64 (and_true (ltb 0 n) (leb n 64) e).1, ltb-true v n f)
    go true false e f k = never_ok k
    go false b e f k = never_ok k

module _ (s : Voting) (v : ℕ) (local : List ℕ) (len : ℕ) (received : List ℕ) (rlen was : ℕ) where
  abbrev merged : Merged
  merged = merge_of (no_of s) s.n v (payload_of local len) (payload_of received rlen)

  valid_news : s.n ≤ 64 → merged.result ≡ NewInfo → ValidCe merged.payload.packet
  valid_news h e = merges_valid (no_of s) s.n v (payload_of local len) (payload_of received rlen) h (payload_valid local len) (payload_valid received rlen) (news_held (no_of s) s.n v (payload_of local len) (payload_of received rlen) e)

  answered_follows : s.n ≤ 64 → (r : MergeResult) → merged.result ≡ r → (answered local len was merged.payload.packet r).refusal ≡ 0
      → payload_of (answered local len was merged.payload.packet r).text (answered local len was merged.payload.packet r).len ≡ merged.payload
  unfolding answered
  answered_follows h Redundant e k = sym (redundant_keeps (no_of s) s.n v (payload_of local len) (payload_of received rlen) e)
  answered_follows h NewInfo e k =
      rewritten_follows merged.payload.packet (valid_news h e) local len was k
      ∙ ap (λ (x : Held). record { held = x; packet = merged.payload.packet }) (sym (news_held (no_of s) s.n v (payload_of local len) (payload_of received rlen) e))

  answered_ends : s.n ≤ 64 → (r : MergeResult) → merged.result ≡ r
      → ((answered local len was merged.payload.packet r).refusal ≡ 0)
      ⊎ (((answered local len was merged.payload.packet r).refusal ≡ bad_positions)
      ⊎ (((answered local len was merged.payload.packet r).refusal ≡ no_position) ⊎ ((answered local len was merged.payload.packet r).refusal ≡ no_fit)))
  unfolding answered
  answered_ends h Redundant e = inl refl
  answered_ends h NewInfo e = rewritten_ends merged.payload.packet (valid_news h e) local len was

pub texts_follow : TextsFollow
unfolding desk_of
texts_follow s v local len received rlen was = by (refusal_of s.n v (length local) len (length received) rlen) refl
  where
    by : (r : Result ⊤ Refusal) → refusal_of s.n v (length local) len (length received) rlen ≡ r
        → (desk_after local len was (merged s v local len received rlen was) r).refusal ≡ 0
        → payload_of (desk_after local len was (merged s v local len received rlen was) r).text (desk_after local len was (merged s v local len received rlen was) r).len
        ≡ (merged s v local len received rlen was).payload
    by (Ok x) e = answered_follows s v local len received rlen was (allowed s.n v (length local) len (length received) rlen x e).0 (merged s v local len received rlen was).result refl
    by (Err k) e = λ h. absurd (some_number k h)

-- of a call that is not refused: for which position it was made
pub accepted_merge : (s : Voting) (v : ℕ) (local : List ℕ) (len : ℕ) (received : List ℕ) (rlen was : ℕ)
    → (desk_of s v local len received rlen was).refusal ≡ 0 → v < s.n
unfolding desk_of
accepted_merge s v local len received rlen was = by (refusal_of s.n v (length local) len (length received) rlen) refl
  where
    by : (r : Result ⊤ Refusal) → refusal_of s.n v (length local) len (length received) rlen ≡ r
        → (desk_after local len was (merged s v local len received rlen was) r).refusal ≡ 0 → v < s.n
    by (Ok x) e = λ h. (allowed s.n v (length local) len (length received) rlen x e).1
    by (Err k) e = λ h. absurd (some_number k h)

refusal_ends : (n v cap len rcap rlen : ℕ) (k : Refusal) → refusal_of n v cap len rcap rlen ≡ Err k
    → (number_of k ≡ bad_positions) ⊎ ((number_of k ≡ no_position) ⊎ (number_of k ≡ no_fit))
unfolding refusal_of
refusal_ends n v cap len rcap rlen k = go (ltb 0 n && leb n 64) (ltb v n) (leb len cap) (leb rlen rcap)
  where
    go : (a b c d : Bool) → tested a b c d ≡ Err k → (number_of k ≡ bad_positions) ⊎ ((number_of k ≡ no_position) ⊎ (number_of k ≡ no_fit))
    go false b c d e = inl (ap number_of (sym (same_err e)))
    go true false c d e = inr (inl (ap number_of (sym (same_err e))))
    go true true false d e = inr (inr (ap number_of (sym (same_err e))))
    go true true true false e = inr (inr (ap number_of (sym (same_err e))))
    go true true true true e = never_err e

pub refusals : Refusals
unfolding desk_of
refusals s v local len received rlen was = by (refusal_of s.n v (length local) len (length received) rlen) refl
  where
    by : (r : Result ⊤ Refusal) → refusal_of s.n v (length local) len (length received) rlen ≡ r
        → ((desk_after local len was (merged s v local len received rlen was) r).refusal ≡ 0)
        ⊎ (((desk_after local len was (merged s v local len received rlen was) r).refusal ≡ bad_positions)
        ⊎ (((desk_after local len was (merged s v local len received rlen was) r).refusal ≡ no_position)
        ⊎ ((desk_after local len was (merged s v local len received rlen was) r).refusal ≡ no_fit)))
    by (Ok x) e = answered_ends s v local len received rlen was (allowed s.n v (length local) len (length received) rlen x e).0 (merged s v local len received rlen was).result refl
    by (Err k) e = inr (refusal_ends s.n v (length local) len (length received) rlen k e)

-- ---- the proposal
-- by its three tests
abbrev may : Bool → Bool → Bool → Result ⊤ Refusal
may a b c = either a (either b (either c (Err NoTerm) (Ok tt)) (Err NoPosition)) (Err BadPositions)

-- an allowed proposal is made by one of at most 64 positions
pub may_propose : (n v t : ℕ) (x : ⊤) → propose_refusal n v t ≡ Ok x → (n ≤ 64) × (v < n)
unfolding propose_refusal
may_propose n v t x = go (ltb 0 n && leb n 64) (ltb v n) (eqb t last_term) refl refl
  where
    go : (a b c : Bool) → (ltb 0 n && leb n 64) ≡ a → ltb v n ≡ b → may a b c ≡ Ok x → (n ≤ 64) × (v < n)
    go true true c e f k = (leb-true n 64 (and_true (ltb 0 n) (leb n 64) e).1, ltb-true v n f)
    go true false c e f k = never_ok k
    go false b c e f k = never_ok k

module _ (p : CeTwoPcPacket) (s : ValidCe p) (buf : List ℕ) where
  written_follows : (len : ℕ) → wrote_of (ce_within p) (ce_text p) buf 0 ≡ Ok len
      → payload_of (left_of (ce_within p) (ce_text p) buf 0) len ≡ record { held = Packet; packet = p }
  unfolding wrote_of left_of
  written_follows len = rw (ce_promises.fits p s) (by (leb (0 + length (ce_text p)) (length buf)) refl)
    where
      by : (b : Bool) → leb (0 + length (ce_text p)) (length buf) ≡ b → either b (Ok (0 + length (ce_text p))) (Err NoFit) ≡ Ok len
          → payload_of (either b (written buf 0 (ce_text p)) buf) len ≡ record { held = Packet; packet = p }
      by true e k =
          let l : len ≡ 0 + length (ce_text p) = sym (same_ok k) in
          rw l (reread p s buf (leb-true (0 + length (ce_text p)) (length buf) e))
      by false e k = never_ok k

-- of an accepted proposal: that it was allowed
pub accepted_proposal : (s : Voting) (v t : ℕ) (buf : List ℕ) (len : ℕ) → proposed_of s v t buf ≡ Ok len → propose_refusal s.n v t ≡ Ok tt
unfolding proposed_of asked_wrote
accepted_proposal s v t buf len = by (propose_refusal s.n v t)
  where
    by : (r : Result ⊤ Refusal) → asked_wrote (λ p. ce_within p) ce_text (offered (proposal_of (no_of s) s.n v t) r) buf 0 ≡ Ok len → r ≡ Ok tt
    by (Ok x) e = refl
    by (Err k) e = never_ok e

pub proposal_follows : ProposalFollows
unfolding proposed_of proposed_left asked_wrote asked_left
proposal_follows s v t buf len = by (propose_refusal s.n v t) refl
  where
    by : (r : Result ⊤ Refusal) → propose_refusal s.n v t ≡ r
        → asked_wrote (λ p. ce_within p) ce_text (offered (proposal_of (no_of s) s.n v t) r) buf 0 ≡ Ok len
        → payload_of (asked_left (λ p. ce_within p) ce_text (offered (proposal_of (no_of s) s.n v t) r) buf 0) len
        ≡ record { held = Packet; packet = proposal_of (no_of s) s.n v t }
    by (Ok x) e = written_follows (proposal_of (no_of s) s.n v t) (proposes_valid (no_of s) s.n v t (may_propose s.n v t x e).0) buf len
    by (Err k) e = λ h. never_ok h

-- ---- a buffer with room for every text
room_enough : (p : CeTwoPcPacket) → ValidCe p → (d : List ℕ) → 596 ≤ length d → leb (0 + length (ce_text p)) (length d) ≡ true
room_enough p s d h = le-leb (0 + length (ce_text p)) (length d) (omega (arith, ce_promises.short p s))

module _ (s : Voting) (v : ℕ) (local : List ℕ) (len : ℕ) (received : List ℕ) (rlen was : ℕ) where
  answered_ample : s.n ≤ 64 → 596 ≤ length local → (r : MergeResult) → (merged s v local len received rlen was).result ≡ r
      → (answered local len was (merged s v local len received rlen was).payload.packet r).refusal ≡ 0
  unfolding answered
  answered_ample h k Redundant e = refl
  answered_ample h k NewInfo e =
      let p = (merged s v local len received rlen was).payload.packet in
      let q = valid_news s v local len received rlen was h e in
      ap (λ (d : Desk). d.refusal) (rewritten_made p q local len was ∙ ap (Made p q local len was) (room_enough p q local k))

pub ample_merges : AmpleMerges
unfolding desk_of
ample_merges s v local len received rlen was h = by (refusal_of s.n v (length local) len (length received) rlen) refl
  where
    by : (r : Result ⊤ Refusal) → refusal_of s.n v (length local) len (length received) rlen ≡ r
        → (desk_after local len was (merged s v local len received rlen was) r).refusal ≡ answer_of r
    by (Ok x) e = answered_ample s v local len received rlen was (allowed s.n v (length local) len (length received) rlen x e).0 h (merged s v local len received rlen was).result refl
    by (Err k) e = refl

pub ample_proposes : AmpleProposes
unfolding proposed_of asked_wrote wrote_of
ample_proposes s v t buf h = by (propose_refusal s.n v t) refl
  where
    by : (r : Result ⊤ Refusal) → propose_refusal s.n v t ≡ r
        → answer_of (asked_wrote (λ p. ce_within p) ce_text (offered (proposal_of (no_of s) s.n v t) r) buf 0) ≡ answer_of r
    by (Ok x) e =
        let q = proposes_valid (no_of s) s.n v t (may_propose s.n v t x e).0 in
        rw (ce_promises.fits (proposal_of (no_of s) s.n v t) q, room_enough (proposal_of (no_of s) s.n v t) q buf h)
    by (Err k) e = refl

-- ---- a copy
copy_read : (s : List ℕ) (len : ℕ) → ce_read (take len s) len ≡ ce_read s len
unfolding ce_read
copy_read s len = by (leb len (length s)) refl
  where
    by : (b : Bool) → leb len (length s) ≡ b → either (leb len (length (take len s))) (ce_read_of (take len (take len s))) (Err NoFit) ≡ either b (ce_read_of (take len s)) (Err NoFit)
    by true e = rw (le-leb len (length (take len s)) (omega (arith, length-take len s, leb-true len (length s) e)), take-take len len s (omega arith))
    by false e = rw (take_all len s (omega (arith, leb-false len (length s) e)), e)

pub copy_reads : CopyReads
unfolding payload_of
copy_reads s len = rw (copy_read s len)
