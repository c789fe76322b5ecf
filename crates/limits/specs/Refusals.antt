-- RULES 15: the numbers of the refusals. What each is for is said where it is told; src/refusals.rt has them in
-- words. 0 is no refusal. Assumes nothing: these are definitions.
use Rattle.std.specs.Prelude.{Bool, true, false, ℕ, Result, Ok, Err}
use Rattle.limits.specs.declared.refusals.Refusal.{Refusal}
use Rattle.limits.specs.declared.refusals.Refusal.TheVariants.{BadLine, BadPositions, BadLinks, BadLoss, NoRepeats}
use Rattle.limits.specs.declared.refusals.Refusal.TheVariants.{NoInterval, ManyTransactions, NoPosition, BadPacket}
use Rattle.limits.specs.declared.refusals.Refusal.TheVariants.{NoFit, OtherKind, NoProposal, NoTerm, Stopped, TooLong}
use Rattle.limits.specs.declared.refusals.Refusal.TheVariants.{WordsShort, RowsShort}

abbrev pub bad_line : ℕ
bad_line = 1

abbrev pub bad_positions : ℕ
bad_positions = 2

abbrev pub bad_links : ℕ
bad_links = 3

abbrev pub bad_loss : ℕ
bad_loss = 4

abbrev pub no_repeats : ℕ
no_repeats = 5

abbrev pub no_interval : ℕ
no_interval = 6

abbrev pub many_transactions : ℕ
many_transactions = 7

abbrev pub no_position : ℕ
no_position = 8

abbrev pub bad_packet : ℕ
bad_packet = 9

abbrev pub no_fit : ℕ
no_fit = 10

abbrev pub other_kind : ℕ
other_kind = 11

abbrev pub no_proposal : ℕ
no_proposal = 12

abbrev pub no_term : ℕ
no_term = 13

abbrev pub stopped : ℕ
stopped = 14

abbrev pub too_long : ℕ
too_long = 15

abbrev pub words_short : ℕ
words_short = 16

abbrev pub rows_short : ℕ
rows_short = 17

abbrev pub number_of : Refusal → ℕ
number_of BadLine = bad_line
number_of BadPositions = bad_positions
number_of BadLinks = bad_links
number_of BadLoss = bad_loss
number_of NoRepeats = no_repeats
number_of NoInterval = no_interval
number_of ManyTransactions = many_transactions
number_of NoPosition = no_position
number_of BadPacket = bad_packet
number_of NoFit = no_fit
number_of OtherKind = other_kind
number_of NoProposal = no_proposal
number_of NoTerm = no_term
number_of Stopped = stopped
number_of TooLong = too_long
number_of WordsShort = words_short
number_of RowsShort = rows_short

-- what a call for C answers: the refusal's number, 0 for none
abbrev pub answer_of : {A : Type 0} → Result A Refusal → ℕ
answer_of (Ok _) = 0
answer_of (Err refusal) = number_of refusal

-- what a test answers: nothing, or why it refuses
abbrev pub Tested : Type 0
Tested = Result (Unit {0}) Refusal

-- refused, unless the test says yes
abbrev pub holds_or : Bool → Refusal → Tested
holds_or true refusal = Ok tt
holds_or false refusal = Err refusal

-- one call after the other: the first refusal is told
abbrev pub and_then : {A B : Type 0} → Result A Refusal → (A → Result B Refusal) → Result B Refusal
and_then (Ok a) f = f a
and_then (Err refusal) f = Err refusal

-- What was lent to a call holds what f makes of its value, and stays as it was if the call is refused.
abbrev pub after : {A B : Type 0} → Result A Refusal → (A → B) → B → B
after (Ok a) f old = f a
after (Err refusal) f old = old
