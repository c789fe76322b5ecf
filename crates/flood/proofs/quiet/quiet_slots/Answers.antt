use Rattle.std.proofs.Common.{arith, rules}
use Rattle.engines.specs.Stretch.{Small}
use Rattle.flood.proofs.Quieting.{some_flood}
use Rattle.flood.proofs.quiet.quiet_slots.Goals as goal

pub returns-then-conf-le2 : goal.returns-then-conf-le2
returns-then-conf-le2 c = record { within = search rules; quiet = λ h. absurd (omega arith) }

pub returns-then-w : goal.returns-then-w
returns-then-w c = record { within = search rules; quiet = λ h. absurd (omega arith) }

pub returns-then-most-le1 : goal.returns-then-most-le1
returns-then-most-le1 c = record { within = search rules; quiet = λ h. absurd (omega arith) }

pub returns-then-s-eq0 : goal.returns-then-s-eq0
returns-then-s-eq0 c = record { within = search rules; quiet = λ h. absurd (omega arith) }

pub returns : goal.returns
returns c =
    let small : Small c.args.f.network = record {
      nodes = search rules;
      sent = search rules;
      timeouts = search rules;
      attempts = search rules;
      success = search rules;
    } in
    record {
      within = omega (arith, c.quiet_for_all.ensures.within);
      quiet = λ h.
          record {
            small = small;
            going = c.requires;
            rows = omega (arith, c.quiet_for_all.ensures.within);
            some = some_flood _ _ c.state_sets-s.ensures c.if-s-eq0.false;
            alone = λ i l. rw c.state_sets-s.ensures at (c.quiet_for_all.ensures.alone h i l);
          };
    }
