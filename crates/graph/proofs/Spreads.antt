-- A wave's steps: where a front leads, and what it has seen. Assumes nothing.
use mathlib.Core.Path.{◌≡◌, refl, sym, ap, ◌∙◌, subst}
use mathlib.Core.Bool.{Bool, true, false, not, ◌||◌, ◌&&◌}
use mathlib.Core.List.{List}
use mathlib.Core.Logic.{◌⊎◌, inl, inr}
use Prim.Native.Nat.{ℕ, zero, suc, ◌+◌, ◌≤◌, ◌<◌, ◌^◌}
use native.Mathlib.Nat.{add-zero, add-suc, lt_of_lt_of_le}
use lib.Pow.{pow_mono}
use native.Mathlib.Numerals.{add-one}
use native.Mathlib.Omega.{arith}
use lib.Dec.{eqb, ltb}
use lib.ListN.{get_or}
use borrow.Author.Tests.{eq-eqb, eqb-true, lt-ltb, ltb-true, not-true}
use Rattle.marks.specs.Marks.{has, marks, any_of, Without}
use Rattle.marks.specs.Laws.{has_none, same}
use Rattle.marks.specs.Sets.{iff, and_true, true_and, any_at, any_found, none_zero, or_false, marks_lt, has_marks, marks_is, marks_whole}
use Rattle.graph.specs.declared.network.NetworkGraph.{NetworkGraph}
use Rattle.graph.specs.declared.network.Wave.{Wave}
use Rattle.graph.specs.Links.{linked}
use Rattle.graph.specs.Paths.{reached, farthest}
use Rattle.graph.specs.Waves.{leads, start_of, moved_to, step_of, wave_of}
use Rattle.graph.proofs.Distance.{no_both, or_cases, or_left, or_right, linked_parts, reached_lt, has_start, has_next, reached_below, reached_more}

-- What follows from x, and never holds without x, is x.
no_more : (y x : Bool) → (x ≡ true → y ≡ true) → (y && not x) ≡ false → y ≡ x
no_more true true f p = refl
no_more true false f p = p
no_more false true f p = f refl
no_more false false f p = refl

-- The loop of `spread`: what is out, and what the marks that are left lead to, is what the front leads to.
module _ (adj : List ℕ) where
  pub leads_none : (j : ℕ) → leads adj 0 j ≡ false
  leads_none j = go (leads adj 0 j) refl
    where
      go : (t : Bool) → leads adj 0 j ≡ t → t ≡ false
      go true e =
          let f = any_found 64 (λ i. has 0 i && has (get_or adj i 0) j) e in
          no_both (has 0 f.0) (and_true (has 0 f.0) (has (get_or adj f.0 0) j) f.2).0 (has_none f.0)
      go false e = refl

  pub spread_done : (out left front : ℕ) → left ≡ 0 → (j : ℕ) → (has out j || leads adj left j) ≡ leads adj front j → has out j ≡ leads adj front j
  spread_done out left front e j h = sym (ap (λ (x : ℕ). has out j || leads adj x j) e ∙ ap (λ (t : Bool). has out j || t) (leads_none j) ∙ or_false (has out j)) ∙ h

  module _ (out out' left left' i : ℕ) (step : Without left i left') (joined : (j : ℕ) → has out' j ≡ (has out j || has (get_or adj i 0) j)) where
    pub spread_turn : (j : ℕ) → (has out' j || leads adj left' j) ≡ (has out j || leads adj left j)
    spread_turn j = iff (has out' j || leads adj left' j) (has out j || leads adj left j) down up
      where
        down : (has out' j || leads adj left' j) ≡ true → (has out j || leads adj left j) ≡ true
        down e = go (or_cases (has out' j) (leads adj left' j) e)
          where
            from_row : (has out j ≡ true) ⊎ (has (get_or adj i 0) j ≡ true) → (has out j || leads adj left j) ≡ true
            from_row (inl p) = or_left (has out j) (leads adj left j) p
            from_row (inr p) = or_right (has out j) (leads adj left j) (any_at 64 (λ h. has left h && has (get_or adj h 0) j) i step.low (true_and (has left i) (has (get_or adj i 0) j) step.there p))

            go : (has out' j ≡ true) ⊎ (leads adj left' j ≡ true) → (has out j || leads adj left j) ≡ true
            go (inl p) = from_row (or_cases (has out j) (has (get_or adj i 0) j) (sym (joined j) ∙ p))
            go (inr p) =
                let f = any_found 64 (λ h. has left' h && has (get_or adj h 0) j) p in
                let b = and_true (has left' f.0) (has (get_or adj f.0 0) j) f.2 in
                let l = and_true (has left f.0) (not (eqb f.0 i)) (sym (step.rest f.0) ∙ b.0) in
                or_right (has out j) (leads adj left j) (any_at 64 (λ h. has left h && has (get_or adj h 0) j) f.0 f.1 (true_and (has left f.0) (has (get_or adj f.0 0) j) l.0 b.1))

        up : (has out j || leads adj left j) ≡ true → (has out' j || leads adj left' j) ≡ true
        up e = go (or_cases (has out j) (leads adj left j) e)
          where
            from_mark : (h : ℕ) → h < 64 → has left h ≡ true → has (get_or adj h 0) j ≡ true → (t : Bool) → eqb h i ≡ t → (has out' j || leads adj left' j) ≡ true
            from_mark h l p q true x = or_left (has out' j) (leads adj left' j) (joined j ∙ or_right (has out j) (has (get_or adj i 0) j) (subst (λ (z : ℕ). has (get_or adj z 0) j ≡ true) (eqb-true h i x) q))
            from_mark h l p q false x = or_right (has out' j) (leads adj left' j) (any_at 64 (λ z. has left' z && has (get_or adj z 0) j) h l (true_and (has left' h) (has (get_or adj h 0) j) (step.rest h ∙ true_and (has left h) (not (eqb h i)) p (ap not x)) q))

            go : (has out j ≡ true) ⊎ (leads adj left j ≡ true) → (has out' j || leads adj left' j) ≡ true
            go (inl p) = or_left (has out' j) (leads adj left' j) (joined j ∙ or_left (has out j) (has (get_or adj i 0) j) p)
            go (inr p) =
                let f = any_found 64 (λ h. has left h && has (get_or adj h 0) j) p in
                let b = and_true (has left f.0) (has (get_or adj f.0 0) j) f.2 in
                from_mark f.0 f.1 b.0 b.1 (eqb f.0 i) refl

-- what was reached a step before
unfoldable pub earlier : NetworkGraph → ℕ → ℕ → ℕ
earlier g i zero = 0
earlier g i (suc k) = reached g i k

-- A wave under way: its front is what step k reached for the first time, unseen is what k links do not reach, and the
-- last arrival was at the farthest position within k links.
pub record Going (g : NetworkGraph) (i k : ℕ) (w : Wave) : Type 0 where
  pub front : (j : ℕ) → has w.front j ≡ (has (reached g i k) j && not (has (earlier g i k) j))
  pub unseen : (j : ℕ) → has w.unseen j ≡ (ltb j g.n && not (has (reached g i k) j))
  pub links : w.links ≡ farthest g i k

-- ---- one step

-- what has its parts is the wave at that front
pub moved_is : (w : Wave) (k f u l : ℕ) → u ≡ (moved_to w k f).unseen → l ≡ (moved_to w k f).links → ◌≡◌ {A = Wave} (record { front = f; unseen = u; links = l }) (moved_to w k f)
unfolding moved_to
moved_is w k f u l eu el = rw (eu, el)

module _ (adj : List ℕ) (k : ℕ) (w : Wave) where
  front_lt : (step_of adj k w).front < 2 ^ 64
  unfolding step_of moved_to
  front_lt = marks_lt 64 _

  -- behind an empty front nothing changes
  pub step_over : w.unseen < 2 ^ 64 → w.front ≡ 0 → step_of adj k w ≡ w
  unfolding step_of moved_to
  step_over small e =
      sym (moved_is w k w.front w.unseen w.links (marks_whole _ w.unseen small (λ j h. rw (e, has_none j) (kept (has w.unseen j)))) (rw e) ∙ ap (moved_to w k) nobody)
    where
      nobody : w.front ≡ marks 64 (λ j. leads adj w.front j && has w.unseen j)
      nobody = marks_whole _ w.front (omega (arith, e)) (λ j h. rw (e, has_none j, leads_none adj j))

      kept : (t : Bool) → t ≡ (t && true)
      kept true = refl
      kept false = refl

-- what has the parts of a start is the start
pub start_is : (g : NetworkGraph) (i f u : ℕ) → g.n ≤ 64 → f < 2 ^ 64 → u < 2 ^ 64 → ((j : ℕ) → has f j ≡ (has 0 j || (ltb j 64 && eqb j i))) → ((j : ℕ) → has u j ≡ ((ltb j g.n && ltb j 64) && not (eqb j i))) → ◌≡◌ {A = Wave} (record { front = f; unseen = u; links = 0 }) (wave_of g i 0)
unfolding wave_of start_of
start_is g i f u size hf hu ef eu =
    let front : f ≡ marks 64 (λ j. eqb j i) = marks_is 64 (λ j. eqb j i) f (omega arith) hf (λ j. ef j ∙ rw (has_none j)) in
    let unseen : u ≡ marks g.n (λ j. not (eqb j i)) = marks_is g.n (λ j. not (eqb j i)) u size hu (λ j. eu j ∙ by j (ltb j g.n) refl) in
    rw (front, unseen)
  where
    by : (j : ℕ) (t : Bool) → ltb j g.n ≡ t → ((t && ltb j 64) && not (eqb j i)) ≡ (t && not (eqb j i))
    by j true x = rw (lt-ltb j 64 (omega (arith, ltb-true j g.n x)))
    by j false x = refl

module _ (g : NetworkGraph) (i : ℕ) (size : g.n ≤ 64) (inside : i < g.n) where
  going_start : Going g i 0 (start_of g i)
  unfolding start_of earlier farthest
  going_start = record { front = front; unseen = unseen; links = refl }
    where
      front : (j : ℕ) → has (marks 64 (λ j. eqb j i)) j ≡ (has (reached g i 0) j && not (has 0 j))
      front j = has_marks 64 (λ j. eqb j i) j ∙ rw (has_none j, has_start g i j) (by (eqb j i) refl)
        where
          by : (t : Bool) → eqb j i ≡ t → (ltb j 64 && t) ≡ ((ltb j g.n && t) && true)
          by true x = rw (lt-ltb j 64 (omega (arith, eqb-true j i x)), lt-ltb j g.n (omega (arith, eqb-true j i x)))
          by false x = no (ltb j 64) (ltb j g.n)
            where
              no : (a b : Bool) → (a && false) ≡ ((b && false) && true)
              no true true = refl
              no true false = refl
              no false true = refl
              no false false = refl

      unseen : (j : ℕ) → has (marks g.n (λ j. not (eqb j i))) j ≡ (ltb j g.n && not (has (reached g i 0) j))
      unseen j = has_marks g.n (λ j. not (eqb j i)) j ∙ rw (has_start g i j) (by (ltb j g.n) (eqb j i))
        where
          by : (a b : Bool) → (a && not b) ≡ (a && not (a && b))
          by true b = refl
          by false b = refl

  module _ (k : ℕ) (w : Wave) (at : Going g i k w) where
    -- somebody whom an earlier step had reached leads nowhere new
    not_earlier : (h j : ℕ) → has (reached g i k) j ≡ false → linked g h j ≡ true → has (earlier g i k) h ≡ false
    unfolding earlier
    not_earlier h j no-j e = go k (has (earlier g i k) h) refl no-j
      where
        go : (k : ℕ) (t : Bool) → has (earlier g i k) h ≡ t → has (reached g i k) j ≡ false → t ≡ false
        go zero t p q = sym p ∙ has_none h
        go (suc m) true p q =
            no_both (has (reached g i (suc m)) j)
            (has_next g i m j ∙ true_and (ltb j g.n) (has (reached g i m) j || any_of g.n (λ x. has (reached g i m) x && linked g x j)) (lt-ltb j g.n (linked_parts g h j e).1) (or_right (has (reached g i m) j) (any_of g.n (λ x. has (reached g i m) x && linked g x j)) (any_at g.n (λ x. has (reached g i m) x && linked g x j) h (linked_parts g h j e).0 (true_and (has (reached g i m) h) (linked g h j) p e)))) q
        go (suc m) false p q = refl

    link_row : (h j : ℕ) → h < g.n → j < g.n → has (get_or g.adj h 0) j ≡ true → linked g h j ≡ true
    unfolding linked
    link_row h j a b e = rw (lt-ltb h g.n a, lt-ltb j g.n b) e

    row_link : (h j : ℕ) → linked g h j ≡ true → has (get_or g.adj h 0) j ≡ true
    unfolding linked
    row_link h j e = (and_true (ltb h g.n && ltb j g.n) (has (get_or g.adj h 0) j) e).1

    next_front : (j : ℕ) → has (step_of g.adj k w).front j ≡ (has (reached g i (suc k)) j && not (has (reached g i k) j))
    unfolding step_of moved_to
    next_front j = has_marks 64 _ j ∙ iff (ltb j 64 && (leads g.adj w.front j && has w.unseen j)) (has (reached g i (suc k)) j && not (has (reached g i k) j)) down up
      where
        fresh : has w.unseen j ≡ true → (j < g.n) × (has (reached g i k) j ≡ false)
        fresh e =
            let p = and_true (ltb j g.n) (not (has (reached g i k) j)) (sym (at.unseen j) ∙ e) in
            (ltb-true j g.n p.0, not-true (has (reached g i k) j) p.1)

        down : (ltb j 64 && (leads g.adj w.front j && has w.unseen j)) ≡ true → (has (reached g i (suc k)) j && not (has (reached g i k) j)) ≡ true
        down e =
            let p = and_true (leads g.adj w.front j) (has w.unseen j) (and_true (ltb j 64) (leads g.adj w.front j && has w.unseen j) e).1 in
            let u = fresh p.1 in
            let f = any_found 64 (λ h. has w.front h && has (get_or g.adj h 0) j) p.0 in
            let b = and_true (has w.front f.0) (has (get_or g.adj f.0 0) j) f.2 in
            let c = and_true (has (reached g i k) f.0) (not (has (earlier g i k) f.0)) (sym (at.front f.0) ∙ b.0) in
            let l = link_row f.0 j (reached_below g i k f.0 c.0) u.0 b.1 in
            true_and (has (reached g i (suc k)) j) (not (has (reached g i k) j))
            (has_next g i k j ∙ true_and (ltb j g.n) (has (reached g i k) j || any_of g.n (λ x. has (reached g i k) x && linked g x j)) (lt-ltb j g.n u.0) (or_right (has (reached g i k) j) (any_of g.n (λ x. has (reached g i k) x && linked g x j)) (any_at g.n (λ x. has (reached g i k) x && linked g x j) f.0 (reached_below g i k f.0 c.0) (true_and (has (reached g i k) f.0) (linked g f.0 j) c.0 l))))
            (ap not u.1)

        up : (has (reached g i (suc k)) j && not (has (reached g i k) j)) ≡ true → (ltb j 64 && (leads g.adj w.front j && has w.unseen j)) ≡ true
        up e =
            let p = and_true (has (reached g i (suc k)) j) (not (has (reached g i k) j)) e in
            let q = not-true (has (reached g i k) j) p.1 in
            let a = and_true (ltb j g.n) (has (reached g i k) j || any_of g.n (λ x. has (reached g i k) x && linked g x j)) (sym (has_next g i k j) ∙ p.0) in
            true_and (ltb j 64) (leads g.adj w.front j && has w.unseen j) (lt-ltb j 64 (omega (arith, ltb-true j g.n a.0))) (go q a.0 (or_cases (has (reached g i k) j) (any_of g.n (λ x. has (reached g i k) x && linked g x j)) a.1))
          where
            go : has (reached g i k) j ≡ false → ltb j g.n ≡ true → (has (reached g i k) j ≡ true) ⊎ (any_of g.n (λ x. has (reached g i k) x && linked g x j) ≡ true) → (leads g.adj w.front j && has w.unseen j) ≡ true
            go q a (inl x) = no_both (has (reached g i k) j) x q
            go q a (inr x) =
                let f = any_found g.n (λ x. has (reached g i k) x && linked g x j) x in
                let b = and_true (has (reached g i k) f.0) (linked g f.0 j) f.2 in
                let front : has w.front f.0 ≡ true = at.front f.0 ∙ true_and (has (reached g i k) f.0) (not (has (earlier g i k) f.0)) b.0 (ap not (not_earlier f.0 j q b.1)) in
                true_and (leads g.adj w.front j) (has w.unseen j)
                (any_at 64 (λ h. has w.front h && has (get_or g.adj h 0) j) f.0 (omega (arith, f.1)) (true_and (has w.front f.0) (has (get_or g.adj f.0 0) j) front (row_link f.0 j b.1)))
                (at.unseen j ∙ true_and (ltb j g.n) (not (has (reached g i k) j)) a (ap not q))

    next_unseen : (j : ℕ) → has (step_of g.adj k w).unseen j ≡ (ltb j g.n && not (has (reached g i (suc k)) j))
    unfolding step_of moved_to
    next_unseen j = has_marks 64 _ j ∙ rw (at.unseen j, next_front j) (near (ltb j g.n) refl ∙ by (ltb j g.n) (has (reached g i k) j) (has (reached g i (suc k)) j) (reached_more g i k j))
      where
        near : (a : Bool) → ltb j g.n ≡ a → (ltb j 64 && ((a && not (has (reached g i k) j)) && not (has (reached g i (suc k)) j && not (has (reached g i k) j)))) ≡ ((a && not (has (reached g i k) j)) && not (has (reached g i (suc k)) j && not (has (reached g i k) j)))
        near true x = rw (lt-ltb j 64 (omega (arith, ltb-true j g.n x)))
        near false x = none (ltb j 64)
          where
            none : (t : Bool) → (t && false) ≡ false
            none true = refl
            none false = refl

        by : (a x y : Bool) → (x ≡ true → y ≡ true) → ((a && not x) && not (y && not x)) ≡ (a && not y)
        by true true y f = ap not (sym (f refl))
        by true false true f = refl
        by true false false f = refl
        by false x y f = refl

    -- the front is empty just if the step changed nothing
    same_test : eqb (step_of g.adj k w).front 0 ≡ eqb (reached g i (suc k)) (reached g i k)
    same_test = iff (eqb (step_of g.adj k w).front 0) (eqb (reached g i (suc k)) (reached g i k)) down up
      where
        agree : (step_of g.adj k w).front ≡ 0 → (j : ℕ) → has (reached g i (suc k)) j ≡ has (reached g i k) j
        agree e j = no_more (has (reached g i (suc k)) j) (has (reached g i k) j) (reached_more g i k j) (sym (next_front j) ∙ ap (λ (x : ℕ). has x j) e ∙ has_none j)

        down : eqb (step_of g.adj k w).front 0 ≡ true → eqb (reached g i (suc k)) (reached g i k) ≡ true
        down e = eq-eqb (reached g i (suc k)) (reached g i k) (same g.n (reached g i (suc k)) (reached g i k) (reached_lt g i (suc k)) (reached_lt g i k) (λ j l. agree (eqb-true (step_of g.adj k w).front 0 e) j))

        up : eqb (reached g i (suc k)) (reached g i k) ≡ true → eqb (step_of g.adj k w).front 0 ≡ true
        up e = eq-eqb (step_of g.adj k w).front 0 (none_zero (step_of g.adj k w).front (front_lt g.adj k w) (λ j l. next_front j ∙ rw (eqb-true (reached g i (suc k)) (reached g i k) e) (none (has (reached g i k) j))))
          where
            none : (t : Bool) → (t && not t) ≡ false
            none true = refl
            none false = refl

    going_step : Going g i (suc k) (step_of g.adj k w)
    unfolding farthest earlier step_of moved_to
    going_step = record { front = next_front; unseen = next_unseen; links = rw (same_test, at.links, add-one k) }

  pub going : (k : ℕ) → Going g i k (wave_of g i k)
  unfolding wave_of
  going zero = going_start
  going (suc k) = going_step k (wave_of g i k) (going k)

  pub front_small : (k : ℕ) → (wave_of g i k).front < 2 ^ 64
  unfolding wave_of start_of
  front_small zero = marks_lt 64 (λ j. eqb j i)
  front_small (suc k) = front_lt g.adj k (wave_of g i k)

  pub unseen_small : (k : ℕ) → (wave_of g i k).unseen < 2 ^ 64
  unfolding wave_of start_of step_of moved_to
  unseen_small zero = lt_of_lt_of_le (marks_lt g.n (λ j. not (eqb j i))) (pow_mono size)
  unseen_small (suc k) = marks_lt 64 (λ j. has (wave_of g i k).unseen j && not (has (step_of g.adj k (wave_of g i k)).front j))

  -- A wave whose front is empty has seen all that it will.
  pub wave_over : (k : ℕ) → (wave_of g i k).front ≡ 0 → (m : ℕ) → wave_of g i (k + m) ≡ wave_of g i k
  unfolding wave_of
  wave_over k e zero = rw (add-zero k)
  wave_over k e (suc m) = rw (add-suc k m) (next (k + m) (wave_over k e m))
    where
      next : (l : ℕ) → wave_of g i l ≡ wave_of g i k → wave_of g i (suc l) ≡ wave_of g i k
      next l p = ap (step_of g.adj l) p ∙ step_over g.adj l (wave_of g i k) (unseen_small k) e

-- what a wave has not seen at its end is not reached
module _ (g : NetworkGraph) (i j : ℕ) (size : g.n ≤ 64) (inside : i < g.n) (there : j < g.n) where
  pub unseen_reached : not (has (wave_of g i g.n).unseen j) ≡ has (reached g i g.n) j
  unseen_reached = rw ((going g i size inside g.n).unseen j, lt-ltb j g.n there) (by (has (reached g i g.n) j))
    where
      by : (t : Bool) → not (not t) ≡ t
      by true = refl
      by false = refl
