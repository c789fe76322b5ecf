use Rattle.std.proofs.Common.{◌≡◌}
use Rattle.loops.specs.Upto.{upto}
use Rattle.engines_c.specs.Payloads.{put_place}
use Rattle.engines_c.proofs.payloads.put_held.Given as goal

abbrev pub invariant-loop-i : goal.invariant-loop-i
invariant-loop-i l = l.xs ≡ upto l.i (put_place l.at l.fn.held) l.initial.xs
