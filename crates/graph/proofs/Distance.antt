-- The diameter as it computes is the longest of the shortest paths. Assumes nothing.
use mathlib.Core.Path.{◌≡◌, refl, sym, ap, ◌∙◌, subst}
use mathlib.Core.Bool.{Bool, true, false, not, ◌||◌, ◌&&◌}
use mathlib.Core.Logic.{◌⊎◌, inl, inr}
use Prim.Native.Nat.{ℕ, zero, suc, ◌+◌, ◌-◌, ◌≤◌, ◌<◌, ◌^◌}
use native.Mathlib.Nat.{le_antisymm, add-zero, add-suc}
use native.Mathlib.Decide.{dec_le}
use native.Mathlib.Omega.{arith}
use lib.Dec.{eqb, ltb}
use borrow.Author.Tests.{eq-eqb, eqb-true, eqb-false, lt-ltb, ltb-true}
use Rattle.loops.specs.Pick.{either}
use Rattle.loops.specs.Highest.{highest, highest_bound, highest_met}
use Rattle.marks.specs.Marks.{has, any_of, count_of}
use Rattle.marks.specs.Laws.{has_out, same}
use Rattle.marks.specs.Sets.{and_true, true_and, any_at, any_found, marks_lt, has_marks, count_le, count_grows}
use Rattle.graph.specs.declared.network.NetworkGraph.{NetworkGraph}
use Rattle.graph.specs.Links.{linked}
use Rattle.graph.specs.Paths.{Path, here, onward, Shortest, Longest, spread_once, reached, farthest, diameter_of}

-- a truth value is not both
pub no_both : {A : Type 0} (t : Bool) → t ≡ true → t ≡ false → A
no_both t e f = absurd (let z : ◌≡◌ {A = ℕ} 0 1 = cc in omega arith)

pub or_cases : (a b : Bool) → (a || b) ≡ true → (a ≡ true) ⊎ (b ≡ true)
or_cases true b e = inl refl
or_cases false b e = inr e

pub or_left : (a b : Bool) → a ≡ true → (a || b) ≡ true
or_left a b e = rw e

pub or_right : (a b : Bool) → b ≡ true → (a || b) ≡ true
or_right true b e = refl
or_right false b e = e

module _ (g : NetworkGraph) where
  pub linked_parts : (i j : ℕ) → linked g i j ≡ true → (i < g.n) × (j < g.n)
  unfolding linked
  linked_parts i j e =
      let p = and_true (ltb i g.n && ltb j g.n) (has (lib.ListN.get_or g.adj i 0) j) e in
      let q = and_true (ltb i g.n) (ltb j g.n) p.0 in
      (ltb-true i g.n q.0, ltb-true j g.n q.1)

  path_start : {i j k : ℕ} → Path g i j k → i < g.n
  path_start (here h) = h
  path_start (onward p e) = path_start p

  -- the sets that are reached
  pub reached_lt : (i k : ℕ) → reached g i k < 2 ^ g.n
  unfolding reached
  reached_lt i zero = marks_lt g.n (λ j. eqb j i)
  reached_lt i (suc k) = marks_lt g.n (λ j. has (reached g i k) j || any_of g.n (λ h. has (reached g i k) h && linked g h j))

  pub has_start : (i j : ℕ) → has (reached g i 0) j ≡ (ltb j g.n && eqb j i)
  unfolding reached
  has_start i j = has_marks g.n (λ j. eqb j i) j

  pub has_next : (i k j : ℕ) → has (reached g i (suc k)) j ≡ (ltb j g.n && (has (reached g i k) j || any_of g.n (λ h. has (reached g i k) h && linked g h j)))
  unfolding reached
  has_next i k j = has_marks g.n (λ j. has (reached g i k) j || any_of g.n (λ h. has (reached g i k) h && linked g h j)) j

  pub reached_below : (i k j : ℕ) → has (reached g i k) j ≡ true → j < g.n
  reached_below i k j e = go (native.Mathlib.Decide.dec_lt j g.n)
    where
      go : Dec (j < g.n) → j < g.n
      go (yes l) = l
      go (no l) = no_both (has (reached g i k) j) e (has_out g.n (reached g i k) j (reached_lt i k) (omega arith))

  pub reached_more : (i k j : ℕ) → has (reached g i k) j ≡ true → has (reached g i (suc k)) j ≡ true
  reached_more i k j e =
      has_next i k j
      ∙ true_and (ltb j g.n) (has (reached g i k) j || any_of g.n (λ h. has (reached g i k) h && linked g h j)) (lt-ltb j g.n (reached_below i k j e)) (or_left (has (reached g i k) j) (any_of g.n (λ h. has (reached g i k) h && linked g h j)) e)

  -- What is reached within k links is what a path of at most k links leads to.
  pub reached_path : (i k j : ℕ) → has (reached g i k) j ≡ true → (l : ℕ) × (l ≤ k) × Path g i j l
  reached_path i zero j e =
      let p = and_true (ltb j g.n) (eqb j i) (sym (has_start i j) ∙ e) in
      let same_place : j ≡ i = eqb-true j i p.1 in
      let there : j < g.n = ltb-true j g.n p.0 in
      (0, omega arith, subst (λ (x : ℕ). Path g i x 0) (sym same_place) (here (subst (λ (x : ℕ). x < g.n) same_place there)))
  reached_path i (suc k) j e = go (λ h q. reached_path i k h q) (or_cases (has (reached g i k) j) (any_of g.n (λ h. has (reached g i k) h && linked g h j)) (and_true (ltb j g.n) (has (reached g i k) j || any_of g.n (λ h. has (reached g i k) h && linked g h j)) (sym (has_next i k j) ∙ e)).1)
    where
      go : ((h : ℕ) → has (reached g i k) h ≡ true → (l : ℕ) × (l ≤ k) × Path g i h l) → (has (reached g i k) j ≡ true) ⊎ (any_of g.n (λ h. has (reached g i k) h && linked g h j) ≡ true) → (l : ℕ) × (l ≤ suc k) × Path g i j l
      go ih (inl q) = let r = ih j q in (r.0, omega (arith, r.1), r.2)
      go ih (inr q) =
          let f = any_found g.n (λ h. has (reached g i k) h && linked g h j) q in
          let b = and_true (has (reached g i k) f.0) (linked g f.0 j) f.2 in
          let r = ih f.0 b.0 in
          (suc r.0, omega (arith, r.1), onward r.2 b.1)

  pub from_start : (i k : ℕ) → i < g.n → has (reached g i k) i ≡ true
  from_start i zero h = has_start i i ∙ true_and (ltb i g.n) (eqb i i) (lt-ltb i g.n h) (eq-eqb i i refl)
  from_start i (suc k) h = reached_more i k i (from_start i k h)

  pub path_reached : {i j l : ℕ} → Path g i j l → (k : ℕ) → l ≤ k → has (reached g i k) j ≡ true
  path_reached {i} (here h) k m = from_start i k h
  path_reached (onward p e) zero m = absurd (omega arith)
  path_reached {i} (onward {h} {j} {k = l} p e) (suc k) m =
      has_next i k j
      ∙ true_and (ltb j g.n) (has (reached g i k) j || any_of g.n (λ x. has (reached g i k) x && linked g x j)) (lt-ltb j g.n (linked_parts h j e).1)
      (or_right (has (reached g i k) j) (any_of g.n (λ x. has (reached g i k) x && linked g x j)) (any_at g.n (λ x. has (reached g i k) x && linked g x j) h (linked_parts h j e).0 (true_and (has (reached g i k) h) (linked g h j) (path_reached p k (omega arith)) e)))

  -- A position is reached for the first time at step k just if the shortest path to it has k links.
  pub shortest_start : (i : ℕ) → i < g.n → Shortest g i i 0
  shortest_start i h = record { path = here h; least = λ l p. omega arith }

  pub shortest_first : (i j k : ℕ) → Shortest g i j (suc k) → (has (reached g i (suc k)) j ≡ true) × (has (reached g i k) j ≡ false)
  shortest_first i j k s = (path_reached s.path (suc k) (omega arith), go (has (reached g i k) j) refl)
    where
      go : (t : Bool) → has (reached g i k) j ≡ t → t ≡ false
      go true e = let r = reached_path i k j e in absurd (omega (arith, r.1, s.least r.0 r.2))
      go false e = refl

  pub first_shortest : (i j k : ℕ) → has (reached g i (suc k)) j ≡ true → has (reached g i k) j ≡ false → Shortest g i j (suc k)
  first_shortest i j k e f = record { path = by (reached_path i (suc k) j e); least = least }
    where
      least : (l : ℕ) → Path g i j l → suc k ≤ l
      least l p = go (dec_le l k)
        where
          go : Dec (l ≤ k) → suc k ≤ l
          go (yes h) = no_both (has (reached g i k) j) (path_reached p k h) f
          go (no h) = omega arith

      by : (l : ℕ) × (l ≤ suc k) × Path g i j l → Path g i j (suc k)
      by r = subst (λ (x : ℕ). Path g i j x) (le_antisymm r.1 (least r.0 r.2)) r.2

  -- A step that changes the set reaches somebody new.
  step_new : (i k : ℕ) → (reached g i (suc k) ≡ reached g i k → ⊥) → (j : ℕ) × (j < g.n) × (has (reached g i (suc k)) j ≡ true) × (has (reached g i k) j ≡ false)
  step_new i k ne = go (any_of g.n (λ j. has (reached g i (suc k)) j && not (has (reached g i k) j))) refl
    where
      split : (j : ℕ) → (has (reached g i (suc k)) j && not (has (reached g i k) j)) ≡ true → (has (reached g i (suc k)) j ≡ true) × (has (reached g i k) j ≡ false)
      split j e = let p = and_true (has (reached g i (suc k)) j) (not (has (reached g i k) j)) e in (p.0, borrow.Author.Tests.not-true (has (reached g i k) j) p.1)

      agree : any_of g.n (λ j. has (reached g i (suc k)) j && not (has (reached g i k) j)) ≡ false → (j : ℕ) → j < g.n → has (reached g i (suc k)) j ≡ has (reached g i k) j
      agree none j h = by (has (reached g i (suc k)) j) (has (reached g i k) j) refl refl
        where
          by : (a b : Bool) → has (reached g i (suc k)) j ≡ a → has (reached g i k) j ≡ b → a ≡ b
          by true true p q = refl
          by true false p q = no_both (any_of g.n (λ j. has (reached g i (suc k)) j && not (has (reached g i k) j))) (any_at g.n (λ j. has (reached g i (suc k)) j && not (has (reached g i k) j)) j h (rw (p, q))) none
          by false true p q = no_both (has (reached g i (suc k)) j) (reached_more i k j q) p
          by false false p q = refl

      go : (t : Bool) → any_of g.n (λ j. has (reached g i (suc k)) j && not (has (reached g i k) j)) ≡ t → (j : ℕ) × (j < g.n) × (has (reached g i (suc k)) j ≡ true) × (has (reached g i k) j ≡ false)
      go true e =
          let f = any_found g.n (λ j. has (reached g i (suc k)) j && not (has (reached g i k) j)) e in
          let s = split f.0 f.2 in
          (f.0, f.1, s.0, s.1)
      go false e = absurd (ne (same g.n (reached g i (suc k)) (reached g i k) (reached_lt i (suc k)) (reached_lt i k) (agree e)))

  -- Once a step changes nothing, no later one does.
  pub still : (i k : ℕ) → reached g i (suc k) ≡ reached g i k → reached g i (suc (suc k)) ≡ reached g i (suc k)
  unfolding reached
  still i k e = ap (spread_once g) e

  -- Each step that changes something reaches one position more, so that after n steps nothing changes.
  grows : (i : ℕ) → i < g.n → (k : ℕ) → (suc k ≤ count_of (reached g i k) g.n) ⊎ (reached g i (suc k) ≡ reached g i k)
  grows i h zero = inl (some (count_grows 0 (reached g i 0) g.n i h (Rattle.marks.specs.Laws.has_none i) (from_start i 0 h) (λ j l e. no_both (has 0 j) e (Rattle.marks.specs.Laws.has_none j))))
    where
      some : count_of 0 g.n < count_of (reached g i 0) g.n → 1 ≤ count_of (reached g i 0) g.n
      some q = omega arith
  grows i h (suc k) = go (eqb (reached g i (suc k)) (reached g i k)) refl (grows i h k)
    where
      go : (t : Bool) → eqb (reached g i (suc k)) (reached g i k) ≡ t → (suc k ≤ count_of (reached g i k) g.n) ⊎ (reached g i (suc k) ≡ reached g i k) → (suc (suc k) ≤ count_of (reached g i (suc k)) g.n) ⊎ (reached g i (suc (suc k)) ≡ reached g i (suc k))
      go true e ih = inr (still i k (eqb-true (reached g i (suc k)) (reached g i k) e))
      go false e (inr q) = inr (still i k q)
      go false e (inl q) =
          let s = step_new i k (eqb-false (reached g i (suc k)) (reached g i k) e) in
          inl (omega (arith, q, count_grows (reached g i k) (reached g i (suc k)) g.n s.0 s.1 s.3 s.2 (λ j l p. reached_more i k j p)))

  -- .. and already the last of n steps changes nothing: the start is one of the n.
  pub settled : (i m : ℕ) → i < g.n → g.n ≡ suc m → reached g i (suc m) ≡ reached g i m
  settled i m h n = go (grows i h m)
    where
      full : suc m ≤ count_of (reached g i m) g.n → (t : Bool) → eqb (reached g i (suc m)) (reached g i m) ≡ t → reached g i (suc m) ≡ reached g i m
      full q true e = eqb-true (reached g i (suc m)) (reached g i m) e
      full q false e =
          let s = step_new i m (eqb-false (reached g i (suc m)) (reached g i m) e) in
          absurd (omega (arith, q, n, count_grows (reached g i m) (reached g i (suc m)) g.n s.0 s.1 s.3 s.2 (λ j l p. reached_more i m j p), count_le (reached g i (suc m)) g.n))

      go : (suc m ≤ count_of (reached g i m) g.n) ⊎ (reached g i (suc m) ≡ reached g i m) → reached g i (suc m) ≡ reached g i m
      go (inl q) = full q (eqb (reached g i (suc m)) (reached g i m)) refl
      go (inr q) = q

  stable : (i : ℕ) → i < g.n → reached g i (suc g.n) ≡ reached g i g.n
  stable i h =
      let n : g.n ≡ suc (g.n - 1) = omega arith in
      subst (λ (x : ℕ). reached g i (suc x) ≡ reached g i x) (sym n) (still i (g.n - 1) (settled i (g.n - 1) h n))

  stays : (i : ℕ) → i < g.n → (m : ℕ) → reached g i (suc (g.n + m)) ≡ reached g i (g.n + m)
  stays i h zero = rw (add-zero g.n) (stable i h)
  stays i h (suc m) = rw (add-suc g.n m) (still i (g.n + m) (stays i h m))

  -- No shortest path has more than n links.
  pub shortest_le : (i j k : ℕ) → Shortest g i j k → k ≤ g.n
  shortest_le i j zero s = omega arith
  shortest_le i j (suc k) s = go (dec_le (suc k) g.n)
    where
      at_end : (m : ℕ) → k ≡ g.n + m → suc k ≤ g.n
      at_end m e =
          let p = shortest_first i j k s in
          let q : reached g i (suc k) ≡ reached g i k = subst (λ (x : ℕ). reached g i (suc x) ≡ reached g i x) (sym e) (stays i (path_start s.path) m) in
          no_both (has (reached g i (suc k)) j) p.0 (ap (λ (w : ℕ). has w j) q ∙ p.1)

      go : Dec (suc k ≤ g.n) → suc k ≤ g.n
      go (yes l) = l
      go (no l) = at_end (k - g.n) (omega arith)

  -- Some path leads from i to j just if j is reached within n links.
  pub reaches_path : (i j l : ℕ) → Path g i j l → has (reached g i g.n) j ≡ true
  reaches_path i j l p = go (dec_le l g.n)
    where
      back : (m : ℕ) → has (reached g i (g.n + m)) j ≡ true → has (reached g i g.n) j ≡ true
      back zero e = subst (λ (x : ℕ). has (reached g i x) j ≡ true) (add-zero g.n) e
      back (suc m) e = back m (ap (λ (w : ℕ). has w j) (sym (stays i (path_start p) m)) ∙ subst (λ (x : ℕ). has (reached g i x) j ≡ true) (add-suc g.n m) e)

      far : (m : ℕ) → l ≡ g.n + m → has (reached g i g.n) j ≡ true
      far m e = back m (subst (λ (x : ℕ). has (reached g i x) j ≡ true) e (path_reached p l (omega arith)))

      go : Dec (l ≤ g.n) → has (reached g i g.n) j ≡ true
      go (yes h) = path_reached p g.n h
      go (no h) = far (l - g.n) (omega arith)

  -- The farthest position from i.
  farthest_bound : (i j k : ℕ) → Shortest g i j k → (m : ℕ) → k ≤ m → k ≤ farthest g i m
  unfolding farthest
  farthest_bound i j zero s m h = omega arith
  farthest_bound i j (suc k) s zero h = absurd (omega arith)
  farthest_bound i j (suc k) s (suc m) h = go (eqb (reached g i (suc m)) (reached g i m)) refl (λ l. farthest_bound i j (suc k) s m l)
    where
      last : reached g i (suc m) ≡ reached g i m → k ≡ m → suc k ≤ farthest g i m
      last e q =
          let p = shortest_first i j k s in
          no_both (has (reached g i (suc k)) j) p.0 (ap (λ (w : ℕ). has w j) (subst (λ (x : ℕ). reached g i (suc x) ≡ reached g i x) (sym q) e) ∙ p.1)

      go : (t : Bool) → eqb (reached g i (suc m)) (reached g i m) ≡ t → (suc k ≤ m → suc k ≤ farthest g i m) → suc k ≤ either t (farthest g i m) (suc m)
      go true e ih = by (dec_le (suc k) m)
        where
          by : Dec (suc k ≤ m) → suc k ≤ farthest g i m
          by (yes l) = ih l
          by (no l) = last (eqb-true (reached g i (suc m)) (reached g i m) e) (omega arith)
      go false e ih = h

  farthest_met : (i : ℕ) → i < g.n → (m : ℕ) → (j : ℕ) × Shortest g i j (farthest g i m)
  unfolding farthest
  farthest_met i h zero = (i, shortest_start i h)
  farthest_met i h (suc m) = go (eqb (reached g i (suc m)) (reached g i m)) refl (farthest_met i h m)
    where
      go : (t : Bool) → eqb (reached g i (suc m)) (reached g i m) ≡ t → (j : ℕ) × Shortest g i j (farthest g i m) → (j : ℕ) × Shortest g i j (either t (farthest g i m) (suc m))
      go true e ih = ih
      go false e ih =
          let s = step_new i m (eqb-false (reached g i (suc m)) (reached g i m) e) in
          (s.0, first_shortest i s.0 m s.2 s.3)

  -- The diameter that is computed is the longest of the shortest paths, in a graph of at least one position.
  pub diameter_longest : 0 < g.n → Longest g (diameter_of g)
  unfolding diameter_of
  diameter_longest h = record { bound = bound; met = met (highest_met g.n (λ i. farthest g i g.n)) }
    where
      bound : (i j k : ℕ) → Shortest g i j k → k ≤ highest g.n (λ i. farthest g i g.n)
      bound i j k s =
          omega (arith, farthest_bound i j k s g.n (shortest_le i j k s), highest_bound g.n (λ i. farthest g i g.n) i (path_start s.path))

      met : (highest g.n (λ i. farthest g i g.n) ≡ 0) ⊎ ((i : ℕ) × (i < g.n) × (highest g.n (λ i. farthest g i g.n) ≡ farthest g i g.n)) → (i : ℕ) × (j : ℕ) × Shortest g i j (highest g.n (λ i. farthest g i g.n))
      met (inl e) = (0, 0, subst (λ (x : ℕ). Shortest g 0 0 x) (sym e) (shortest_start 0 h))
      met (inr r) =
          let f = farthest_met r.0 r.1 g.n in
          (r.0, f.0, subst (λ (x : ℕ). Shortest g r.0 f.0 x) (sym r.2) f.1)

-- only one number is that
pub longest_unique : (g : NetworkGraph) (d e : ℕ) → Longest g d → Longest g e → d ≡ e
longest_unique g d e p q =
    le_antisymm (q.bound p.met.0 p.met.1 d p.met.2) (p.bound q.met.0 q.met.1 e q.met.2)
