-- The rules computed: some of the Rust's answers, and what RULES 2.2 says of small rings. Assumes nothing.
use Rattle.std.specs.Prelude.{Ok}
use mathlib.Core.Path.{◌≡◌, refl}
use mathlib.Core.Bool.{Bool, true, false, not, ◌&&◌, ◌||◌}
use mathlib.Core.List.{List, [], ◌∷◌}
use Prim.Native.Nat.{ℕ, ◌<◌}
use lib.Dec.{ltb}
use lib.ListN.{get_or, take}
use borrow.Author.Tests.{ltb-true}
use Rattle.loops.specs.Table.{filled, tabulate, filled_at}
use Rattle.marks.specs.Marks.{has, marks, any_of}
use Rattle.marks.specs.Sets.{all_found, has_marks}
use Rattle.graph.specs.declared.network.Topology.TheVariants.{FullMesh, Line, Ring, Grid, Tree}
use Rattle.graph.specs.Links.{is_size, graph_by, inside, size_test, all_inside, graph_test, linked, link_of, ahead_of, mesh_rule, next_rule, ring_rule, grid_rule, tree_rule}
use Rattle.graph.specs.declared.network.NetworkGraph.{NetworkGraph}
use Rattle.graph.specs.Paths.{diameter_of}
use Rattle.graph.specs.Waves.{start_of, moved_to, step_of, wave_of}

-- A graph that is built by a rule has just the links of the rule.
pub built_links : (n : ℕ) (link : ℕ → ℕ → Bool) (i j : ℕ) → linked (graph_by n link) i j ≡ ((ltb i n && ltb j n) && link i j)
unfolding linked graph_by
built_links n link i j = go (ltb i n) refl
  where
    and_self : (a b : Bool) → (a && (a && b)) ≡ (a && b)
    and_self true b = refl
    and_self false b = refl

    go : (t : Bool) → ltb i n ≡ t → ((t && ltb j n) && has (get_or (filled 0 64 n (λ k. marks n (link k))) i 0) j) ≡ ((t && ltb j n) && link i j)
    go true e = rw (filled_at 0 64 n (λ k. marks n (link k)) i 0 (ltb-true i n e), has_marks n (link i) j) (and_self (ltb j n) (link i j))
    go false e = refl

-- .. and is refused by no call and no opening.
below : (a b : Bool) → (not (a && b) || a) ≡ true
below true true = refl
below true false = refl
below false b = refl

marks_inside : (n : ℕ) (f : ℕ → Bool) → inside n (marks n f) ≡ true
unfolding inside
marks_inside n f =
    all_found 64 (λ j. not (has (marks n f) j) || ltb j n) (λ j h. rw (has_marks n f j) (below (ltb j n) (f j)))

pub built_accepted : (n : ℕ) (link : ℕ → ℕ → Bool) → is_size n ≡ true → graph_test (graph_by n link) ≡ Ok tt
unfolding graph_by graph_test size_test all_inside
built_accepted n link e =
    let rows = filled 0 64 n (λ i. marks n (link i)) in
    let fit : (i : ℕ) → i < n → inside n (get_or rows i 0) ≡ true =
    λ i h. rw (filled_at 0 64 n (λ k. marks n (link k)) i 0 h) (marks_inside n (link i)) in
    rw (e, all_found n (λ i. inside n (get_or rows i 0)) fit)

-- A ring of one and of two are lines.
pub small_rings : (graph_by 1 (link_of Ring 1) ≡ graph_by 1 (link_of Line 1)) × (graph_by 2 (link_of Ring 2) ≡ graph_by 2 (link_of Line 2))
unfolding graph_by filled tabulate marks link_of ahead_of next_rule ring_rule
small_rings = (refl, refl)

-- diameters of a mesh of 2, a line of 3, a ring of 4, a grid of two rows of three, a tree of 4 with one child each,
-- and 3 without links
pub diameters : (diameter_of (graph_by 2 (link_of FullMesh 2)) ≡ 1) × (diameter_of (graph_by 3 (link_of Line 3)) ≡ 2) × (diameter_of (graph_by 4 (link_of Ring 4)) ≡ 2) × (diameter_of (graph_by 6 (link_of (Grid 3) 6)) ≡ 3) × (diameter_of (graph_by 4 (link_of (Tree 1) 4)) ≡ 3) × (diameter_of (graph_by 3 (link_of (Tree 0) 3)) ≡ 0)
unfolding diameter_of graph_by filled tabulate marks any_of link_of ahead_of mesh_rule next_rule ring_rule grid_rule tree_rule
diameters = (refl, refl, refl, refl, refl, refl)

-- fronts of a wave: in a line of 4 from position 1, where the second step is the last that comes to anybody; and in 3
-- positions with one-way links 0 to 1 and 1 to 2 of which 1 also hears itself, from 0 and from 2
abbrev pub line_of4 : NetworkGraph
line_of4 = graph_by 4 (link_of Line 4)

abbrev pub one_way : NetworkGraph
one_way = record { n = 3; adj = 2 ∷ 6 ∷ [] }

abbrev pub fronts_of : NetworkGraph → ℕ → List ℕ
fronts_of g i =
    (wave_of g i 0).front ∷ (wave_of g i 1).front ∷ (wave_of g i 2).front ∷ (wave_of g i 3).front ∷ (wave_of g i 4).front ∷ []

pub fronts : (fronts_of line_of4 1 ≡ 2 ∷ 5 ∷ 8 ∷ 0 ∷ 0 ∷ []) × ((wave_of line_of4 1 4).links ≡ 2) × (fronts_of one_way 0 ≡ 1 ∷ 2 ∷ 4 ∷ 0 ∷ 0 ∷ []) × (fronts_of one_way 2 ≡ 4 ∷ 0 ∷ 0 ∷ 0 ∷ 0 ∷ [])
unfolding wave_of start_of step_of moved_to graph_by filled tabulate marks any_of link_of ahead_of next_rule
fronts = (refl, refl, refl, refl)

-- the rows of a grid of two rows of three, and of a tree of 4 with one child each
pub rows_of : (take 6 (graph_by 6 (link_of (Grid 3) 6)).adj ≡ 10 ∷ 21 ∷ 34 ∷ 17 ∷ 42 ∷ 20 ∷ []) × (take 4 (graph_by 4 (link_of (Tree 1) 4)).adj ≡ 2 ∷ 5 ∷ 10 ∷ 4 ∷ [])
unfolding graph_by filled tabulate marks link_of ahead_of next_rule grid_rule tree_rule
rows_of = (refl, refl)
