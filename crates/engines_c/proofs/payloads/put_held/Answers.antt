use mathlib.Core.Path.{ap, ◌∙◌}
use Prim.Native.Nat.{◌*◌}
use native.Mathlib.Omega.{arith}
use lib.ListN.{length, get_or}
use Rattle.loops.specs.Upto.{upto_none, upto_turn, upto_all, upto_keeps}
use Rattle.merges.specs.Merging.{no_payload}
use Rattle.engines_c.specs.Payloads.{put_place, put_held}
use Rattle.engines_c.proofs.Storing.{put_payload_length}
use Rattle.engines_c.proofs.payloads.put_held.Goals as goal

pub loop-i-init : goal.loop-i-init
loop-i-init c = upto_none _ _

pub loop-i-preserved : goal.loop-i-preserved
loop-i-preserved c = upto_turn _ _ c.loop-i.invariant c.put_payload.ensures

pub shape_of-xs : goal.shape_of-xs
shape_of-xs c =
    ap length c.loop-i.invariant ∙
    upto_keeps length (put_place c.args.at c.args.held) c.args.xs.now c.loop-i.i
    (λ i t. put_payload_length c.args.at (i * 38) (get_or c.args.held i no_payload) t)

pub returns : goal.returns
unfolding put_held
returns c = upto_all _ _ (omega arith) (omega arith) c.loop-i.invariant
