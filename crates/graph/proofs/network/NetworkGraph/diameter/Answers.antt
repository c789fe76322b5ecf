use mathlib.Core.Path.{ap, ◌∙◌, sym, subst}
use Prim.Native.Nat.{max}
use native.Mathlib.Omega.{arith}
use Rattle.std.specs.Prelude.{Ok}
use Rattle.loops.specs.Upto.{upto_none, upto_turn, upto_all}
use Rattle.graph.specs.declared.network.Wave.{Wave}
use Rattle.graph.specs.Paths.{Longest, farthest, diameter_of}
use Rattle.graph.proofs.Spreads.{going}
use Rattle.graph.proofs.Distance.{diameter_longest}
use Rattle.graph.proofs.Rules.{graph_parts}
use Rattle.graph.proofs.network.NetworkGraph.diameter.Goals as goal

pub loop-i-init : goal.loop-i-init
loop-i-init c = (omega arith, upto_none (λ j e. max e (farthest c.args.self.now j c.args.self.now.n)) 0)

pub loop-i-preserved : goal.loop-i-preserved
loop-i-preserved c =
    let g = c.args.self.now in
    let size = graph_parts g (sym c.check.ensures ∙ c.in_ok-check.was) in
    (omega arith, upto_turn (λ j e. max e (farthest g j g.n)) 0 c.loop-i.invariant.1 (c.max-d.ensures ∙ ap (max c.loop-i.d) (ap (λ (w : Wave). w.links) c.wave_from.ensures ∙ (going g _ size.1 c.loop-i-test.true _).links)))

pub returns : goal.returns
unfolding diameter_of
returns c =
    let g = c.args.self.now in
    let size = graph_parts g (sym c.check.ensures ∙ c.in_ok-check.was) in
    let d = upto_all (λ j e. max e (farthest g j g.n)) 0 c.loop-i.invariant.0 c.loop-i-test.false c.loop-i.invariant.1 in
    record {
      value = rw (sym c.check.ensures ∙ c.in_ok-check.was) (ap Ok d);
      longest = subst (Longest g) (sym d) (diameter_longest g size.0);
    }
