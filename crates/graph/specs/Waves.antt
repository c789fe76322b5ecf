-- RULES 2.3. A wave goes out from one position, a link a step. No list of waiting positions is needed: the front is one
-- set of marks. `Frontier` says which positions it holds after each step. Assumes nothing: these are definitions and a
-- statement, which proofs/Frontier.antt proves.
use Rattle.std.specs.Prelude.{Bool, true, not, ◌&&◌, List, ◌≡◌, ℕ, zero, suc, ◌+◌, ◌≤◌, ◌<◌, get_or, eqb}
use Rattle.limits.specs.Limits.{positions}
use Rattle.loops.specs.Pick.{either}
use Rattle.marks.specs.Marks.{has, marks, any_of}
use Rattle.graph.specs.declared.network.NetworkGraph.{NetworkGraph}
use Rattle.graph.specs.declared.network.Wave.{Wave}
use Rattle.graph.specs.Paths.{Shortest}

-- whether a link from a position of w leads to j
abbrev pub leads : List ℕ → ℕ → ℕ → Bool
leads adj w j = any_of 64 (λ i. has w i && has (get_or adj i 0) j)

-- before the first step: at i alone, and nobody else was seen
unfoldable pub start_of : NetworkGraph → ℕ → Wave
start_of g i = record { front = marks 64 (λ j. eqb j i); unseen = marks g.n (λ j. not (eqb j i)); links = 0 }

-- the wave stands at a new front: these are seen now, and step k + 1 was the last that came to somebody, if there is
-- one
unfoldable pub moved_to : Wave → ℕ → ℕ → Wave
moved_to w k front =
    record {
      front = front;
      unseen = marks 64 (λ j. has w.unseen j && not (has front j));
      links = either (eqb front 0) w.links (k + 1);
    }

-- step k + 1: to those unseen that a link from the front leads to
unfoldable pub step_of : List ℕ → ℕ → Wave → Wave
step_of adj k w = moved_to w k (marks 64 (λ j. leads adj w.front j && has w.unseen j))

-- the wave from i after k steps
unfoldable pub wave_of : NetworkGraph → ℕ → ℕ → Wave
wave_of g i zero = start_of g i
wave_of g i (suc k) = step_of g.adj k (wave_of g i k)

-- After k steps, from 0 on, the front holds a position if its shortest path from i has k links, and only then. No front
-- behind an empty one holds anybody, since the wave does not change any more: so a walk may end there.
pub record Frontier (g : NetworkGraph) (i : ℕ) : Type 0 where
  pub only : (k j : ℕ) → has (wave_of g i k).front j ≡ true → Shortest g i j k
  pub all : (k j : ℕ) → Shortest g i j k → has (wave_of g i k).front j ≡ true
  pub over : (k : ℕ) → (wave_of g i k).front ≡ 0 → (m : ℕ) → wave_of g i (k + m) ≡ wave_of g i k
  pub ends : (wave_of g i g.n).front ≡ 0

-- of every graph of 1 to 64 positions and each of them, whatever its links
abbrev pub Frontiers : Type 0
Frontiers = (g : NetworkGraph) (i : ℕ) → g.n ≤ positions → i < g.n → Frontier g i
