use Rattle.std.proofs.Common.{sym, ◌∙◌, arith, rules}
use Rattle.capture.proofs.Resting.{SmallBoard, rests_idle}
use Rattle.capture.proofs.idle.idle_slots.Goals as goal

pub returns-then-b : goal.returns-then-b
returns-then-b c = record { upper_bound = omega arith; idle = λ conf base state links g o p. absurd (omega arith) }

pub returns-then-b-ne0 : goal.returns-then-b-ne0
returns-then-b-ne0 c = record { upper_bound = omega arith; idle = λ conf base state links g o p. absurd (omega arith) }

pub returns-then-b-ne0-2 : goal.returns-then-b-ne0-2
returns-then-b-ne0-2 c = record { upper_bound = omega arith; idle = λ conf base state links g o p. absurd (omega arith) }

pub returns-then-goal_reached : goal.returns-then-goal_reached
returns-then-goal_reached c = record { upper_bound = omega arith; idle = λ conf base state links g o p. absurd (omega arith) }

pub returns : goal.returns
returns c =
    let small : SmallBoard c.args.b = record { sent = search rules; timeouts = search rules; attempts = search rules; success = search rules } in
    (record {
      upper_bound = omega (arith, c.shortest_wait.ensures.0);
      idle = λ conf base state links g o p. rests_idle conf base state links _ _ _ _ g o
          (record {
            small = small;
            going = c.requires;
            rows = omega (arith, c.shortest_wait.ensures.0);
            goal = sym c.goal_reached.ensures ∙ c.if-goal_reached.false;
            silent = c.if-b-ne0.false;
            awake = c.if-b-ne0-2.false;
            waits = c.shortest_wait.ensures.1 p;
          });
    })
