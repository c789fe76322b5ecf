use mathlib.Core.Path.{◌≡◌, ap, sym, ◌∙◌}
use mathlib.Core.Bool.{Bool, not}
use Rattle.std.specs.Prelude.{Ok}
use Prim.Native.Nat.{ℕ, ◌≤◌, ◌<◌}
use Rattle.marks.specs.Marks.{has}
use Rattle.graph.specs.declared.network.NetworkGraph.{NetworkGraph}
use Rattle.graph.specs.declared.network.Wave.{Wave}
use Rattle.limits.proofs.Tests.{first_held, second_held}
use Rattle.graph.specs.Links.{node_test}
use Rattle.graph.specs.Paths.{reached}
use Rattle.graph.proofs.Rules.{node_parts}
use Rattle.graph.specs.Waves.{wave_of}
use Rattle.graph.proofs.Spreads.{unseen_reached}
use Rattle.graph.proofs.network.NetworkGraph.reaches.Goals as goal

-- who is not unseen is reached
seen : (g : NetworkGraph) (i j : ℕ) (w : Wave) → g.n ≤ 64 → i < g.n → j < g.n → w ≡ wave_of g i g.n → not (has w.unseen j) ≡ has (reached g i g.n) j
seen g i j w size a b e = ap (λ (x : Wave). not (has x.unseen j)) e ∙ unseen_reached g i j size a b

pub returns : goal.returns
returns c =
    let first = node_parts c.args.self.now c.args.i (first_held (node_test c.args.self.now c.args.i) (node_test c.args.self.now c.args.j) tt (sym c.check_pair.ensures ∙ c.in_ok-check_pair.was)) in
    let second = node_parts c.args.self.now c.args.j (second_held (node_test c.args.self.now c.args.i) (node_test c.args.self.now c.args.j) tt (sym c.check_pair.ensures ∙ c.in_ok-check_pair.was)) in
    rw (sym c.check_pair.ensures ∙ c.in_ok-check_pair.was) (ap (λ (t : Bool). Ok t) (ap not c.is_marked.ensures ∙ seen c.args.self.now _ _ _ first.0 first.1 second.1 c.wave_from.ensures))
