use mathlib.Core.Path.{◌≡◌, refl, subst, sym, ap, ◌∙◌}
use mathlib.Core.Bool.{Bool, not, ◌&&◌}
use Prim.Native.Nat.{ℕ, ◌+◌, ◌≤◌, ◌<◌, ◌-◌}
use native.Mathlib.Numerals.{add-one}
use native.Mathlib.Omega.{arith}
use lib.Dec.{eqb}
use Rattle.graph.specs.declared.network.NetworkGraph.{NetworkGraph}
use Rattle.graph.specs.declared.network.Wave.{Wave}
use Rattle.graph.specs.Waves.{step_of, wave_of}
use Rattle.graph.proofs.Spreads.{start_is, wave_over}
use Rattle.graph.proofs.network.NetworkGraph.wave_from.Goals as goal

-- one step more
further : (g : NetworkGraph) (i k : ℕ) (w r : Wave) → w ≡ wave_of g i k → r ≡ step_of g.adj k w → r ≡ wave_of g i (k + 1)
unfolding wave_of
further g i k w r e s = rw (add-one k) (s ∙ ap (step_of g.adj k) e)

-- the first empty front is the last
ended : (g : NetworkGraph) (i steps k : ℕ) (w : Wave) → g.n ≤ 64 → i < g.n → k ≤ steps → w ≡ wave_of g i k → w.front ≡ 0 → w ≡ wave_of g i steps
ended g i steps k w size inside l e z =
    let front : (wave_of g i k).front ≡ 0 = sym (ap (λ (x : Wave). x.front) e) ∙ z in
    let all : k + (steps - k) ≡ steps = omega arith in
    e ∙ sym (subst (λ (x : ℕ). wave_of g i x ≡ wave_of g i k) all (wave_over g i size inside k front (steps - k)))

pub loop-k-init : goal.loop-k-init
loop-k-init c = (omega arith, start_is c.args.self.now _ _ _ c.requires.0 (omega arith) (omega arith) c.with_mark.ensures (λ j. c.without_mark.ensures j ∙ ap (λ (t : Bool). t && not (eqb j c.args.start)) (c.first_marks.ensures j)))

pub returns-then-w-eq0 : goal.returns-then-w-eq0
returns-then-w-eq0 c = ended c.args.self.now _ _ _ _ c.requires.0 c.requires.1 c.loop-k.invariant.0 c.loop-k.invariant.1 c.if-w-eq0.true

pub loop-k-preserved : goal.loop-k-preserved
loop-k-preserved c = (omega arith, further c.args.self.now _ _ _ _ c.loop-k.invariant.1 (c.wave_step-w.ensures _ refl))
