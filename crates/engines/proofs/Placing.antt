-- A row written into the part that is lent is a row behind the rows used; and refusal 17 by quotients. Assumes nothing.
use Rattle.std.proofs.Common.{◌≡◌, ℕ, ◌-◌, ◌*◌, ◌/◌, ◌<◌, ◌≤◌, true, nat_lt, arith, le-ltb, lt-ltb}
use Rattle.engines.specs.Rows.{rows_refused}

module _ (numbers used due : ℕ) where
  pub refused_used : numbers / 5 < used → true ≡ rows_refused numbers used due
  unfolding rows_refused
  refused_used h = rw (lt-ltb numbers (used * 5) (omega arith))

  pub refused_by : used ≤ numbers / 5 → nat_lt (numbers / 5 - used) due ≡ rows_refused numbers used due
  unfolding rows_refused
  refused_by h =
      let e : (numbers - used * 5) / 5 ≡ numbers / 5 - used = omega arith in
      rw (le-ltb numbers (used * 5) (omega arith), e)
