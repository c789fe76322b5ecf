use Prim.Native.Nat.{◌-◌, ◌≤◌}
use mathlib.Core.Path.{refl, ◌∙◌}
use native.Mathlib.Omega.{arith}
use Rattle.readings.specs.Calls.{«record», answer_of}
use Rattle.room_c.specs.Answers.{said}
use Rattle.room_c.specs.Console.{part_readings}
use Rattle.room_c.proofs.Tabled.{get_d_last, past}
use Rattle.room_c.proofs.console.read_part.Goals as goal

pub returns-in_default : goal.returns-in_default
unfolding said answer_of
returns-in_default c =
    let h : 23 ≤ c.args.which = past c.args.which 18 5 c.requires c.in_default.in_default-own.rest in
    let all = part_readings c.args.text.now c.args.a c.args.b in
    rw (get_d_last all («record» c.args.a) 5 (c.args.which - 18) (omega arith) refl (omega arith))
    (record { told_after = c.tell_record.ensures ∙ rw c.record.ensures; text_after = refl })
