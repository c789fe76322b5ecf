-- After k steps the front of a wave holds those whose shortest path has k links, and nobody else. Assumes nothing.
use mathlib.Core.Path.{◌≡◌, refl, sym, ap, ◌∙◌, subst}
use mathlib.Core.Bool.{Bool, true, false, not, ◌&&◌}
use Prim.Native.Nat.{ℕ, zero, suc, ◌-◌, ◌≤◌, ◌<◌}
use native.Mathlib.Omega.{arith}
use lib.Dec.{eqb, ltb}
use borrow.Author.Tests.{eqb-true, not-true}
use Rattle.marks.specs.Marks.{has}
use Rattle.marks.specs.Laws.{has_none}
use Rattle.marks.specs.Sets.{and_true, true_and, none_zero}
use Rattle.graph.specs.declared.network.NetworkGraph.{NetworkGraph}
use Rattle.graph.specs.Paths.{Shortest, reached}
use Rattle.graph.specs.Waves.{wave_of, Frontiers}
use Rattle.graph.proofs.Distance.{has_start, shortest_start, shortest_first, first_shortest, path_reached, settled}
use Rattle.graph.proofs.Spreads.{earlier, going, front_small, wave_over}

module _ (g : NetworkGraph) (i : ℕ) (size : g.n ≤ 64) (inside : i < g.n) where
  -- the front after k steps, as what step k reached for the first time
  first : (k j : ℕ) → has (wave_of g i k).front j ≡ true → (has (reached g i k) j ≡ true) × (has (earlier g i k) j ≡ false)
  first k j e =
      let p = and_true (has (reached g i k) j) (not (has (earlier g i k) j)) (sym ((going g i size inside k).front j) ∙ e) in
      (p.0, not-true (has (earlier g i k) j) p.1)

  there : (k j : ℕ) → has (reached g i k) j ≡ true → has (earlier g i k) j ≡ false → has (wave_of g i k).front j ≡ true
  there k j a b = (going g i size inside k).front j ∙ true_and (has (reached g i k) j) (not (has (earlier g i k) j)) a (ap not b)

  only : (k j : ℕ) → has (wave_of g i k).front j ≡ true → Shortest g i j k
  unfolding earlier
  only zero j e =
      let same_place = eqb-true j i (and_true (ltb j g.n) (eqb j i) (sym (has_start g i j) ∙ (first 0 j e).0)).1 in
      subst (λ (x : ℕ). Shortest g i x 0) (sym same_place) (shortest_start g i inside)
  only (suc k) j e = let p = first (suc k) j e in first_shortest g i j k p.0 p.1

  all : (k j : ℕ) → Shortest g i j k → has (wave_of g i k).front j ≡ true
  unfolding earlier
  all zero j s = there 0 j (path_reached g s.path 0 (omega arith)) (has_none j)
  all (suc k) j s = let p = shortest_first g i j k s in there (suc k) j p.0 p.1

  -- the last of n steps comes to nobody new
  empty : (m : ℕ) → g.n ≡ suc m → (wave_of g i (suc m)).front ≡ 0
  unfolding earlier
  empty m n =
      none_zero (wave_of g i (suc m)).front (front_small g i size inside (suc m)) (λ j h. (going g i size inside (suc m)).front j ∙ rw (settled g i m inside n) (none (has (reached g i m) j)))
    where
      none : (t : Bool) → (t && not t) ≡ false
      none true = refl
      none false = refl

  ends : (wave_of g i g.n).front ≡ 0
  ends =
      let n : g.n ≡ suc (g.n - 1) = omega arith in
      subst (λ (x : ℕ). (wave_of g i x).front ≡ 0) (sym n) (empty (g.n - 1) n)

pub frontiers : Frontiers
frontiers g i size inside =
    record { only = only g i size inside; all = all g i size inside; over = wave_over g i size inside; ends = ends g i size inside }
