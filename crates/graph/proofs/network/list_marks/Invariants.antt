use mathlib.Core.Path.{◌≡◌}
use Rattle.graph.specs.Links.{list_of}
use Rattle.graph.proofs.network.list_marks.Given as goal

abbrev pub invariant-loop-j : goal.invariant-loop-j
invariant-loop-j l = l.list ≡ list_of l.m l.j
