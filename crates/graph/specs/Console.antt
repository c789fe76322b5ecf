-- RULES 17. How a call for C answers: a refusal number, and what was lent. Assumes nothing.
use Rattle.std.specs.Prelude.{Bool, true, false, ℕ, List, eqb, leb, Result, Ok}
use Rattle.std.specs.Result.{result_and}
use Rattle.limits.specs.Limits.{positions}
use Rattle.limits.specs.Refusals.{Tested, holds_or, and_then}
use Rattle.limits.specs.declared.refusals.Refusal.{Refusal}
use Rattle.limits.specs.declared.refusals.Refusal.TheVariants.{NoFit}
use Rattle.loops.specs.Pick.{either}
use Rattle.graph.specs.declared.network.NetworkGraph.{NetworkGraph}
use Rattle.graph.specs.declared.network.NeighborList.{NeighborList}
use Rattle.graph.specs.Links.{topology_of, rows_of, neighbors_of}
use Rattle.graph.specs.Paths.{has_link_of, reaches_of, length_of}

-- Refusal 10: a buffer that is to take 64 numbers, one for each position that there may be, is shorter.
abbrev pub room64 : ℕ → Tested
room64 n = holds_or (leb positions n) NoFit

-- the answer to a call that needs such a buffer, of so many numbers
abbrev pub with_room : {A : Type 0} → ℕ → Result A Refusal → Result A Refusal
with_room n told = and_then told (λ a. result_and (room64 n) (Ok a))

-- what is lent holds its new contents, unless the call is refused
unfoldable pub unless : {A : Type 0} → ℕ → A → A → A
unless k new old = either (eqb k 0) new old

-- a yes as 1, a no as 0
abbrev pub flag : Bool → ℕ
flag true = 1
flag false = 0

-- what the entries tell: the graph is made of rows, and then asked
abbrev pub built_told : ℕ → ℕ → ℕ → ℕ → Result NetworkGraph Refusal
built_told topology n argument room = with_room room (topology_of topology n argument)

abbrev pub neighbors_told : List ℕ → ℕ → ℕ → Result NeighborList Refusal
neighbors_told rows i room = with_room room (and_then (rows_of rows) (λ g. neighbors_of g i))

abbrev pub diameter_told : List ℕ → Result ℕ Refusal
diameter_told rows = and_then (rows_of rows) length_of

abbrev pub link_told : List ℕ → ℕ → ℕ → Result Bool Refusal
link_told rows i j = and_then (rows_of rows) (λ g. has_link_of g i j)

abbrev pub path_told : List ℕ → ℕ → ℕ → Result Bool Refusal
path_told rows i j = and_then (rows_of rows) (λ g. reaches_of g i j)
