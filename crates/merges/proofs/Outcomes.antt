-- What each outcome says of the positions, and that with its deadlines taken for aborts it is the original program's.
-- Assumes nothing.
use Rattle.std.proofs.Common.{◌≡◌, ℕ, ◌+◌, ◌<◌, ◌≤◌, Bool, true, false, ◌&&◌, ◌||◌, eqb, ltb, leb, List, get_or, sym, refl, ◌∙◌, arith, ltb-true, lt-ltb, eq-eqb, eqb-true, le-leb}
use Rattle.loops.specs.Pick.{either}
use Rattle.marks.specs.Marks.{any_of, all_of}
use Rattle.marks.specs.Sets.{and_true, any_at, any_found, all_at, all_found}
use Rattle.packets.specs.declared.TwoPcPhase.{TwoPcPhase}
use Rattle.packets.specs.declared.TwoPcPhase.TheVariants as phases
use Rattle.merges.specs.Merging.{rank_of, standing_by, standing_of, goal_of, no_payload, all_hold, any_holds, outcome_of}
use Rattle.merges.specs.Outcomes.{InPhase, OutcomeSays, OutcomesSay, original_outcome, mapped, MapsToOriginal}
use Rattle.merges.specs.declared.merging.ProposalOutcome.{ProposalOutcome}
use Rattle.merges.specs.declared.merging.ProposalOutcome.TheVariants.{Committed, Aborted, TimedOut}
use Rattle.merges.specs.declared.merging.Held.{Held}
use Rattle.merges.specs.declared.merging.Held.TheVariants.{Empty, Unreadable, Packet}
use Rattle.merges.specs.declared.merging.Payload.{Payload}

-- a decision is Committed or Aborted
pub goal_by_phases : (l : Payload) → goal_of l ≡ (eqb (standing_of l) 2 || eqb (standing_of l) 3)
unfolding goal_of standing_by rank_of
goal_by_phases l = by l.packet.phase l.held
  where
    by : (f : TwoPcPhase) (h : Held) → ltb 1 (standing_by f h) ≡ (eqb (standing_by f h) 2 || eqb (standing_by f h) 3)
    by f Empty = refl
    by f Unreadable = refl
    by phases.Prepare Packet = refl
    by phases.Committed Packet = refl
    by phases.Aborted Packet = refl

-- ---- a standing and what is held

stands_committed : (f : TwoPcPhase) (h : Held) → standing_by f h ≡ 2 → (h ≡ Packet) × (f ≡ phases.Committed)
unfolding standing_by rank_of
stands_committed f Empty e = absurd (omega arith)
stands_committed f Unreadable e = absurd (omega arith)
stands_committed phases.Prepare Packet e = absurd (omega arith)
stands_committed phases.Committed Packet e = (refl, refl)
stands_committed phases.Aborted Packet e = absurd (omega arith)

stands_aborted : (f : TwoPcPhase) (h : Held) → standing_by f h ≡ 3 → (h ≡ Packet) × (f ≡ phases.Aborted)
unfolding standing_by rank_of
stands_aborted f Empty e = absurd (omega arith)
stands_aborted f Unreadable e = absurd (omega arith)
stands_aborted phases.Prepare Packet e = absurd (omega arith)
stands_aborted phases.Committed Packet e = absurd (omega arith)
stands_aborted phases.Aborted Packet e = (refl, refl)

module _ (n : ℕ) (ls : List Payload) where
  -- what position i is tested for
  abbrev at : ℕ → ℕ → Bool
  at k i = eqb (standing_of (get_or ls i no_payload)) k

  in_phase : (k : ℕ) (f : TwoPcPhase) (i : ℕ) → InPhase f ls i → rank_of f + 1 ≡ k → at k i ≡ true
  unfolding standing_by
  in_phase k f i h e = rw (h.held, h.phase) (eq-eqb _ k e)

  -- ---- what the two tests say of the positions

  all_committed : all_hold n 2 ls ≡ true → (0 < n) × ((i : ℕ) → i < n → InPhase phases.Committed ls i)
  unfolding all_hold
  all_committed e =
      let s = and_true (ltb 0 n && leb n 64) (all_of n (at 2)) e in (
        ltb-true 0 n (and_true (ltb 0 n) (leb n 64) s.0).0,
        λ i h.
            let l = get_or ls i no_payload in
            let q = stands_committed l.packet.phase l.held (eqb-true (standing_of l) 2 (all_at n (at 2) s.1 i h)) in
            record { held = q.0; phase = q.1 },
      )

  one_aborted : any_holds n 3 ls ≡ true → (i : ℕ) × (i < n) × InPhase phases.Aborted ls i
  unfolding any_holds
  one_aborted e =
      let s = any_found n (at 3) (and_true (leb n 64) (any_of n (at 3)) e).1 in
      let l = get_or ls s.0 no_payload in
      let q = stands_aborted l.packet.phase l.held (eqb-true (standing_of l) 3 s.2) in
      (s.0, s.1, record { held = q.0; phase = q.1 })

  -- they exclude each other
  not_both : any_holds n 3 ls ≡ true → all_hold n 2 ls ≡ true → ⊥
  not_both a b =
      let q = one_aborted a in
      let c = ((all_committed b).1 q.0 q.1).phase in
      let z : ◌≡◌ {A = ℕ} 0 1 = cc (c, q.2.phase) in
      omega arith

  any_holds_lem : n ≤ 64 → (i : ℕ) → i < n → InPhase phases.Aborted ls i → any_holds n 3 ls ≡ true
  unfolding any_holds rank_of
  any_holds_lem h i l p = rw (le-leb n 64 h, any_at n (at 3) i l (in_phase 3 phases.Aborted i p refl))

  all_hold_lem : n ≤ 64 → 0 < n → ((i : ℕ) → i < n → InPhase phases.Committed ls i) → all_hold n 2 ls ≡ true
  unfolding all_hold rank_of
  all_hold_lem h l p = rw (lt-ltb 0 n l, le-leb n 64 h) (all_found n (at 2) (λ i m. in_phase 2 phases.Committed i (p i m) refl))

  -- ---- the outcome, by both tests

  abbrev answer : Bool → Bool → ProposalOutcome
  answer a b = either a Aborted (either b Committed TimedOut)

  by_tests : (a b : Bool) → any_holds n 3 ls ≡ a → all_hold n 2 ls ≡ b → outcome_of n ls ≡ answer a b
  unfolding outcome_of
  by_tests a b p q = rw (p, q)

  aborted_by : (a b : Bool) → answer a b ≡ Aborted → a ≡ true
  aborted_by true b e = refl
  aborted_by false true e = absurd (let z : ◌≡◌ {A = ℕ} 0 1 = cc in omega arith)
  aborted_by false false e = absurd (let z : ◌≡◌ {A = ℕ} 0 1 = cc in omega arith)

  committed_by : (a b : Bool) → answer a b ≡ Committed → b ≡ true
  committed_by true b e = absurd (let z : ◌≡◌ {A = ℕ} 0 1 = cc in omega arith)
  committed_by false true e = refl
  committed_by false false e = absurd (let z : ◌≡◌ {A = ℕ} 0 1 = cc in omega arith)

  none_aborted : (a : Bool) → any_holds n 3 ls ≡ a → all_hold n 2 ls ≡ true → a ≡ false
  none_aborted true p q = absurd (not_both p q)
  none_aborted false p q = refl

  says : n ≤ 64 → OutcomeSays n ls
  says h =
      let now = by_tests (any_holds n 3 ls) (all_hold n 2 ls) refl refl in
      record {
        somebody = λ e. one_aborted (aborted_by (any_holds n 3 ls) (all_hold n 2 ls) (sym now ∙ e));
        aborts = λ i l p. by_tests true (all_hold n 2 ls) (any_holds_lem h i l p) refl;
        everybody = λ e. all_committed (committed_by (any_holds n 3 ls) (all_hold n 2 ls) (sym now ∙ e));
        commits = λ l p.
            let q = all_hold_lem h l p in
            by_tests false true (none_aborted (any_holds n 3 ls) refl q) q;
      }

  maps : n ≤ 64 → mapped (outcome_of n ls) ≡ original_outcome n ls
  unfolding outcome_of any_holds all_hold original_outcome mapped
  maps h = rw (le-leb n 64 h) (go (any_of n (at 3)) (ltb 0 n) (all_of n (at 2)))
    where
      go : (a z b : Bool)
          → mapped (either a Aborted (either ((z && true) && b) Committed TimedOut)) ≡ either a Aborted (either (b && z) Committed Aborted)
      go true z b = refl
      go false true true = refl
      go false true false = refl
      go false false true = refl
      go false false false = refl

pub outcomes_say : OutcomesSay
outcomes_say n ls h = says n ls h

pub maps_to_original : MapsToOriginal
maps_to_original n ls h = maps n ls h
