use Prim.Native.Nat.{◌-◌, ◌≤◌}
use mathlib.Core.Path.{refl, ◌∙◌}
use native.Mathlib.Omega.{arith}
use Rattle.readings.specs.Calls.{proposal_outcome, answer_of}
use Rattle.room_c.specs.Answers.{said}
use Rattle.room_c.specs.Console.{whole_readings}
use Rattle.room_c.proofs.Tabled.{get_d_last, past}
use Rattle.room_c.proofs.console.read_whole.Goals as goal

pub returns-in_default : goal.returns-in_default
unfolding said answer_of
returns-in_default c =
    let h : 17 ≤ c.args.which = past c.args.which 4 13 c.requires c.in_default.in_default-own.rest in
    rw (get_d_last whole_readings proposal_outcome 13 (c.args.which - 4) (omega arith) refl (omega arith))
    (record { told_after = c.tell_outcome.ensures ∙ rw c.proposal_outcome.ensures; floats_after = refl })
