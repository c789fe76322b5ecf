-- What it means that a test, or one behind another, refuses nothing. Assumes nothing.
use Rattle.std.proofs.Common.{◌≡◌, ◌<◌, refl, arith, ℕ, Bool, true, false, Result, Ok, Err, sym, true≢false}
use Rattle.std.specs.Result.{result_and, is_ok}
use Rattle.limits.specs.Refusals.{Tested, holds_or, number_of}
use Rattle.limits.specs.declared.refusals.Refusal.{Refusal}
use Rattle.limits.specs.declared.refusals.Refusal.TheVariants.{BadLine, BadPositions, BadLinks, BadLoss, NoRepeats}
use Rattle.limits.specs.declared.refusals.Refusal.TheVariants.{NoInterval, ManyTransactions, NoPosition, BadPacket}
use Rattle.limits.specs.declared.refusals.Refusal.TheVariants.{NoFit, OtherKind, NoProposal, NoTerm, Stopped, TooLong}
use Rattle.limits.specs.declared.refusals.Refusal.TheVariants.{WordsShort, RowsShort}

pub no_err : {A B : Type 0} {refusal : Refusal} {a : A} → ◌≡◌ {A = Result A Refusal} (Err refusal) (Ok a) → B
no_err e = absurd (let z : ◌≡◌ {A = ℕ} 0 1 = cc in omega arith)

pub held : (b : Bool) (refusal : Refusal) → holds_or b refusal ≡ Ok tt → b ≡ true
held true refusal e = refl
held false refusal e = no_err e

-- a test that says yes refuses nothing
pub ok_told : (t : Tested) → is_ok t ≡ true → t ≡ Ok tt
ok_told (Ok x) e = refl
ok_told (Err refusal) e = absurd (true≢false (sym e))

pub first_held : {A : Type 0} (r : Tested) (s : Result A Refusal) (a : A) → result_and r s ≡ Ok a → r ≡ Ok tt
first_held (Ok x) s a e = refl
first_held (Err refusal) s a e = no_err e

pub second_held : {A : Type 0} (r : Tested) (s : Result A Refusal) (a : A) → result_and r s ≡ Ok a → s ≡ Ok a
second_held (Ok x) s a e = e
second_held (Err refusal) s a e = no_err e

-- a test that tells 0 refuses nothing: no refusal has the number 0
pub number_some : (refusal : Refusal) → 0 < number_of refusal
number_some BadLine = omega arith
number_some BadPositions = omega arith
number_some BadLinks = omega arith
number_some BadLoss = omega arith
number_some NoRepeats = omega arith
number_some NoInterval = omega arith
number_some ManyTransactions = omega arith
number_some NoPosition = omega arith
number_some BadPacket = omega arith
number_some NoFit = omega arith
number_some OtherKind = omega arith
number_some NoProposal = omega arith
number_some NoTerm = omega arith
number_some Stopped = omega arith
number_some TooLong = omega arith
number_some WordsShort = omega arith
number_some RowsShort = omega arith
