-- RULES 2.1, 2.2 and 2.4, and refusals 2, 3 and 8 of RULES 15: what a graph of links is, and which links each builder
-- makes. A link from i to j says that j hears i. Assumes nothing.
use Rattle.std.specs.Prelude.{Bool, not, Result, Ok, Err, ◌||◌, ◌&&◌, List, ℕ, ◌+◌, ◌*◌, ◌/◌, ◌%◌, length, get_or, replicate, eqb, ltb, leb}
use Rattle.std.specs.Result.{result_and}
use Rattle.std.proofs.lemmas.List.Edits.{sets}
use Rattle.limits.specs.Limits.{positions}
use Rattle.limits.specs.Refusals.{Tested, holds_or}
use Rattle.limits.specs.declared.refusals.Refusal.{Refusal}
use Rattle.limits.specs.declared.refusals.Refusal.TheVariants.{BadPositions, BadLinks, NoPosition}
use Rattle.loops.specs.Pick.{either}
use Rattle.loops.specs.Table.{filled}
use Rattle.marks.specs.Marks.{has, marks, all_of, members}
use Rattle.graph.specs.declared.network.NetworkGraph.{NetworkGraph}
use Rattle.graph.specs.declared.network.NeighborList.{NeighborList}
use Rattle.graph.specs.declared.network.Topology.{Topology}
use Rattle.graph.specs.declared.network.Topology.TheVariants.{FullMesh, Line, Ring, Grid, Tree}

-- the graph of n positions in which i has a link to j just if the rule says so of (i, j)
unfoldable pub graph_by : ℕ → (ℕ → ℕ → Bool) → NetworkGraph
graph_by n link = record { n = n; adj = filled 0 64 n (λ i. marks n (link i)) }

-- a graph of no positions
abbrev pub no_graph : NetworkGraph
no_graph = record { n = 0; adj = replicate 64 0 }

-- Refusal 2: there are 1 to 64 positions.
abbrev pub is_size : ℕ → Bool
is_size n = ltb 0 n && leb n positions

unfoldable pub size_test : ℕ → Tested
size_test n = holds_or (is_size n) BadPositions

abbrev pub built_of : ℕ → (ℕ → ℕ → Bool) → Result NetworkGraph Refusal
built_of n link = result_and (size_test n) (Ok (graph_by n link))

-- The rules of the five builders, each for one direction of a link; a builder links both ways.
-- Full mesh: each with each other.
unfoldable pub mesh_rule : ℕ → ℕ → Bool
mesh_rule i j = not (eqb i j)

-- Line: each with the one behind it.
unfoldable pub next_rule : ℕ → ℕ → Bool
next_rule i j = eqb j (i + 1)

-- Ring: a line whose last is linked with its first, where there are more than two. (A ring of two is a line of two.)
unfoldable pub ring_rule : ℕ → ℕ → ℕ → Bool
unfolding next_rule
ring_rule n i j = next_rule i j || (ltb 2 n && (eqb n (i + 1) && eqb j 0))

-- Grid, filled row by row: each with the one below it, and with the one behind it in the same row.
unfoldable pub grid_rule : ℕ → ℕ → ℕ → Bool
unfolding next_rule
grid_rule cols i j = eqb j (i + cols) || (next_rule i j && eqb (i / cols) (j / cols))

-- Tree: i with i × b + 1 up to i × b + b.
unfoldable pub tree_rule : ℕ → ℕ → ℕ → Bool
tree_rule b i j = ltb (i * b) j && leb j (i * b + b)

unfoldable pub ahead_of : Topology → ℕ → ℕ → ℕ → Bool
ahead_of FullMesh n i j = mesh_rule i j
ahead_of Line n i j = next_rule i j
ahead_of Ring n i j = ring_rule n i j
ahead_of (Grid cols) n i j = grid_rule cols i j
ahead_of (Tree b) n i j = tree_rule b i j

-- both ways
unfoldable pub link_of : Topology → ℕ → ℕ → ℕ → Bool
link_of t n i j = ahead_of t n i j || ahead_of t n j i

-- Refusal 3 of a grid: its rows divide the positions.
abbrev pub divides : ℕ → ℕ → Bool
divides rows n = not (eqb rows 0) && eqb (n % rows) 0

abbrev pub grid_of : ℕ → ℕ → Result NetworkGraph Refusal
grid_of n rows =
    result_and (size_test n) (result_and (holds_or (divides rows n) BadLinks) (built_of n (link_of (Grid (n / rows)) n)))

-- The numbers of the topologies (RULES 2.2), as a frame gives them: 1 mesh, 2 line, 3 ring, each with argument 0; 4
-- grid, by its rows; 5 tree, by its branching. Refusal 3: any other number, or a wrong argument; refusal 2 comes
-- first.
abbrev pub plain_of : Topology → ℕ → ℕ → Result NetworkGraph Refusal
plain_of t n argument = result_and (holds_or (eqb argument 0) BadLinks) (built_of n (link_of t n))

unfoldable pub topology_of : ℕ → ℕ → ℕ → Result NetworkGraph Refusal
topology_of topology n argument =
    result_and (size_test n)
    (either (eqb topology 1) (plain_of FullMesh n argument)
    (either (eqb topology 2) (plain_of Line n argument)
    (either (eqb topology 3) (plain_of Ring n argument)
    (either (eqb topology 4) (grid_of n argument)
    (either (eqb topology 5) (built_of n (link_of (Tree argument) n))
    (Err BadLinks))))))

-- Refusal 3 of rows: no mark at n or above.
unfoldable pub inside : ℕ → ℕ → Bool
inside n row = all_of 64 (λ j. not (has row j) || ltb j n)

unfoldable pub all_inside : ℕ → List ℕ → Tested
all_inside n rows = holds_or (all_of n (λ i. inside n (get_or rows i 0))) BadLinks

-- the graph that has these rows, one for each position
unfoldable pub rows_of : List ℕ → Result NetworkGraph Refusal
rows_of rows =
    let n = length rows in
    result_and (size_test n)
    (result_and (all_inside n rows) (Ok (record { n = n; adj = filled 0 64 n (λ i. get_or rows i 0) })))

-- Refusals 2 and 3 of a graph whose numbers may be any.
unfoldable pub graph_test : NetworkGraph → Tested
graph_test g = result_and (size_test g.n) (all_inside g.n g.adj)

-- Refusals 2 and 8 of a call on position i of n.
unfoldable pub position_test : ℕ → ℕ → Tested
position_test n i = result_and (size_test n) (holds_or (ltb i n) NoPosition)

-- Refusals 2, 3 and 8 of a call on one position of a graph, whose numbers may be any, and of a call on two.
unfoldable pub node_test : NetworkGraph → ℕ → Tested
node_test g i = result_and (graph_test g) (holds_or (ltb i g.n) NoPosition)

abbrev pub pair_test : NetworkGraph → ℕ → ℕ → Tested
pair_test g i j = result_and (node_test g i) (node_test g j)

-- the row of a position
abbrev pub row_of : NetworkGraph → ℕ → Result ℕ Refusal
row_of g i = result_and (node_test g i) (Ok (get_or g.adj i 0))

-- the neighbours of a position in rising order, how many there are, and zeros behind them
unfoldable pub list_of : ℕ → ℕ → NeighborList
list_of m n = record { count = length (members m n); at = sets (replicate 64 0) 0 (members m n) }

abbrev pub neighbors_of : NetworkGraph → ℕ → Result NeighborList Refusal
neighbors_of g i = result_and (node_test g i) (Ok (list_of (get_or g.adj i 0) 64))

-- Position i has a link to position j: both are positions of the graph, and i's row has j's mark.
unfoldable pub linked : NetworkGraph → ℕ → ℕ → Bool
linked g i j = (ltb i g.n && ltb j g.n) && has (get_or g.adj i 0) j
