-- A proposal is what RULES 6.6 says of it.
-- Assumes nothing.
use Rattle.std.proofs.Common.{◌≡◌, ℕ, ◌<◌, max, Bool, true, false, ◌&&◌, ◌||◌, eqb, ltb, sym, refl, ap, ◌∙◌, ap₂, arith, lt-ltb, eq-eqb, ne_eqb, eqb-true, le-leb}
use borrow.Author.Tests.{eqb-false}
use Rattle.loops.specs.Pick.{either}
use Rattle.marks.specs.Marks.{has, marks, all_of}
use Rattle.marks.specs.Laws.{has_none}
use Rattle.marks.specs.Sets.{marks_is, marks_ext, has_marks, true_and, all_found, all_left}
use Rattle.loops.specs.Wrap.{add64}
use Rattle.merges.specs.Merging.{filled_of, marked_of, only_of, unanimous_of, with_state, ensure_of, decided_of, acknowledged_of, voiced_of, settled_of, settled, adopted_of, blank, proposal_of}
use Rattle.merges.specs.Sound.{ProposalSays}
use Rattle.packets.specs.declared.TwoPcPhase.TheVariants.{Prepare, Committed, Aborted}
use Rattle.packets.specs.declared.CeTwoPcPacket.{CeTwoPcPacket}
use Rattle.merges.proofs.Bitmaps.{and_false, has_word}

-- an empty bitmap of n is filled already
no_marks : (n : ℕ) → marks 64 (λ j. ltb j n && has 0 j) ≡ 0
no_marks n =
    sym (marks_is 64 (λ j. ltb j n && has 0 j) 0 (omega arith) (omega arith)
    (λ j. has_none j ∙ sym (ap (λ (t : Bool). ltb j 64 && (ltb j n && t)) (has_none j) ∙ ap (λ (t : Bool). ltb j 64 && t) (and_false (ltb j n)) ∙ and_false (ltb j 64))))

same_max : (n : ℕ) → max n n ≡ n
same_max n = omega arith

ensure_blank : (n t : ℕ) → ensure_of n (blank n t) ≡ blank n t
unfolding ensure_of filled_of
ensure_blank n t = ap₂ (λ (x y : ℕ). with_state Prepare (record { len = x; marks = y }) (blank n t)) (same_max n) (no_marks n)

acknowledge_blank : (n v t : ℕ) → acknowledged_of v (blank n t) ≡ with_state Prepare (only_of n v) (blank n t)
unfolding acknowledged_of marked_of only_of
acknowledge_blank n v t =
    ap (λ (y : ℕ). with_state Prepare (record { len = n; marks = y }) (blank n t))
    (marks_ext 64 (λ j. ltb j n && (has 0 j || eqb j v)) (λ j. ltb j n && eqb j v) (λ j l. ap (λ (x : Bool). ltb j n && (x || eqb j v)) (has_none j)))

-- one mark is all of them where there is one position
module _ (n v : ℕ) (inside : v < n) where
  alone : n ≡ 1 → all_of n (λ j. has (marks 64 (λ i. ltb i n && eqb i v)) j) ≡ true
  alone e =
      all_found n (λ j. has (marks 64 (λ i. ltb i n && eqb i v)) j)
      (λ j l. has_word (λ i. ltb i n && eqb i v) j (omega arith) ∙ true_and (ltb j n) (eqb j v) (lt-ltb j n l) (eq-eqb j v (omega arith)))

  other_unmarked : (j : ℕ) → j < n → (j ≡ v → ⊥) → all_of n (λ j. has (marks 64 (λ i. ltb i n && eqb i v)) j) ≡ false
  other_unmarked j l h =
      all_left (λ j. has (marks 64 (λ i. ltb i n && eqb i v)) j) j n l
      (has_marks 64 (λ i. ltb i n && eqb i v) j ∙ ap (λ (x : Bool). ltb j 64 && (ltb j n && x)) (ne_eqb j v h) ∙ ap (λ (x : Bool). ltb j 64 && x) (and_false (ltb j n)) ∙ and_false (ltb j 64))

  more_than_one : (n ≡ 1 → ⊥) → (b : Bool) → eqb v 0 ≡ b → all_of n (λ j. has (marks 64 (λ i. ltb i n && eqb i v)) j) ≡ false
  more_than_one h true e = let z : v ≡ 0 = eqb-true v 0 e in other_unmarked 1 (omega arith) (λ q. omega arith)
  more_than_one h false e = let z : v ≡ 0 → ⊥ = eqb-false v 0 e in other_unmarked 0 (omega arith) (λ q. z (sym q))

  only_unanimous : unanimous_of n (only_of n v) ≡ eqb n 1
  unfolding unanimous_of only_of
  only_unanimous = rw (le-leb n n (omega arith)) (go (eqb n 1) refl)
    where
      go : (b : Bool) → eqb n 1 ≡ b → all_of n (λ j. has (marks 64 (λ i. ltb i n && eqb i v)) j) ≡ eqb n 1
      go true e = alone (eqb-true n 1 e) ∙ sym e
      go false e = more_than_one (eqb-false n 1 e) (eqb v 0) refl ∙ sym e

-- what the own vote makes of a new packet, and unanimity of that
settled_no : (n v t : ℕ) → (settled n v (record { packet = decided_of Aborted n v (blank n t); news = true })).packet ≡ with_state Aborted (only_of n v) (blank n t)
unfolding settled_of decided_of
settled_no n v t = refl

settled_yes : (n v t : ℕ) (c : Bool) → unanimous_of n (only_of n v) ≡ c
    → (settled_of n v (record { packet = with_state Prepare (only_of n v) (blank n t); news = true }) Prepare).packet ≡ with_state (either c Committed Prepare) (only_of n v) (blank n t)
unfolding settled_of decided_of
settled_yes n v t true e = rw e
settled_yes n v t false e = rw e

pub proposal_says : ProposalSays
unfolding proposal_of adopted_of voiced_of
proposal_says nay n v t h =
    ap (λ (q : CeTwoPcPacket). (settled n v (record { packet = voiced_of nay n v q q.phase; news = true })).packet) (ensure_blank n (add64 t 1))
    ∙ ap (λ (q : CeTwoPcPacket). (settled n v (record { packet = either (nay (add64 t 1) v) (decided_of Aborted n v (blank n (add64 t 1))) q; news = true })).packet)
    (acknowledge_blank n v (add64 t 1))
    ∙ go (nay (add64 t 1) v)
  where
    go : (b : Bool)
        → (settled n v (record { packet = either b (decided_of Aborted n v (blank n (add64 t 1))) (with_state Prepare (only_of n v) (blank n (add64 t 1))); news = true })).packet
        ≡ with_state (either b Aborted (either (eqb n 1) Committed Prepare)) (only_of n v) (blank n (add64 t 1))
    go true = settled_no n v (add64 t 1)
    go false = settled_yes n v (add64 t 1) (eqb n 1) (only_unanimous n v h)
