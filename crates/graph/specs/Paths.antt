-- RULES 2.3: the diameter, said by paths, and the same as a number that computes. Assumes nothing.
use Rattle.std.specs.Prelude.{Bool, true, Result, Ok, ◌||◌, ◌&&◌, ◌≡◌, ℕ, zero, suc, ◌≤◌, ◌<◌, max, eqb}
use Rattle.std.specs.Result.{result_and}
use Rattle.limits.specs.declared.refusals.Refusal.{Refusal}
use Rattle.loops.specs.Pick.{either}
use Rattle.loops.specs.Upto.{upto}
use Rattle.marks.specs.Marks.{has, marks, any_of}
use Rattle.graph.specs.declared.network.NetworkGraph.{NetworkGraph}
use Rattle.graph.specs.Links.{linked, graph_test, pair_test}

-- A path from i to j of k links: from a position to itself by no link, and onward by one link more.
pub data Path (g : NetworkGraph) (i : ℕ) : ℕ → ℕ → Type 0 where
  here : i < g.n → Path g i i 0
  onward : {h j k : ℕ} → Path g i h k → linked g h j ≡ true → Path g i j (suc k)

-- Some path from i to j has k links, and none has fewer.
pub record Shortest (g : NetworkGraph) (i j k : ℕ) : Type 0 where
  pub path : Path g i j k
  pub least : (l : ℕ) → Path g i j l → k ≤ l

-- The longest of the shortest paths over all ordered pairs that a path joins. A position reaches itself by no link, so
-- where no two others are joined it is 0.
pub record Longest (g : NetworkGraph) (d : ℕ) : Type 0 where
  pub bound : (i j k : ℕ) → Shortest g i j k → k ≤ d
  pub met : (i : ℕ) × (j : ℕ) × Shortest g i j d

-- The same, computed. One link more: the positions of w, and those that a link from one of them leads to.
unfoldable pub spread_once : NetworkGraph → ℕ → ℕ
unfolding linked
spread_once g w = marks g.n (λ j. has w j || any_of g.n (λ h. has w h && linked g h j))

-- the positions that at most k links lead to from i
unfoldable pub reached : NetworkGraph → ℕ → ℕ → ℕ
unfolding spread_once
reached g i zero = marks g.n (λ j. eqb j i)
reached g i (suc k) = spread_once g (reached g i k)

-- the last of the first k steps at which a position is reached for the first time
unfoldable pub farthest : NetworkGraph → ℕ → ℕ → ℕ
unfolding reached
farthest g i zero = 0
farthest g i (suc k) = either (eqb (reached g i (suc k)) (reached g i k)) (farthest g i k) (suc k)

unfoldable pub diameter_of : NetworkGraph → ℕ
unfolding farthest upto
diameter_of g = upto g.n (λ i d. max d (farthest g i g.n)) 0

-- or the refusal of the graph
abbrev pub length_of : NetworkGraph → Result ℕ Refusal
length_of g = result_and (graph_test g) (Ok (diameter_of g))

-- Some path leads from i to j: it is found within n links, if there is one.
abbrev pub reaches_of : NetworkGraph → ℕ → ℕ → Result Bool Refusal
reaches_of g i j = result_and (pair_test g i j) (Ok (has (reached g i g.n) j))

abbrev pub has_link_of : NetworkGraph → ℕ → ℕ → Result Bool Refusal
has_link_of g i j = result_and (pair_test g i j) (Ok (linked g i j))
