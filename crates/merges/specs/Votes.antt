-- How a position votes, by RULES 4.1.
-- Assumes nothing: these are definitions.
use Rattle.std.specs.Prelude.{ℕ, ◌%◌, Bool, false, pos, from_bits, Float}
use Rattle.std.specs.Float.{binary64}
use Rattle.std.specs.Float.Ieee.{div, of_int, lt, le}
use Rattle.loops.specs.Pick.{either}
use Rattle.loops.specs.Wrap.{add64, mul64}
use Rattle.merges.specs.declared.votes.Voting.{Voting}

-- the hash of term t and position v under a seed
unfoldable pub hash_of : ℕ → ℕ → ℕ → ℕ
hash_of t v seed = mul64 (add64 (mul64 t 1000003) (add64 v 1)) (add64 seed 0x9E37_79B9_7F4A_7C15)

-- the last four decimal digits of a hash as a fraction of one, rounded once; the pattern is that of 10000
unfoldable pub share_of : ℕ → Float
share_of h = div binary64 (of_int binary64 (pos (h % 10000))) (from_bits binary64 0x40C3_8800_0000_0000)

-- whether position v votes no in term t: never where the abort probability is 0 or less; else where the share lies
-- below it. No share lies below a probability that is no number, so that one has every vote yes.
unfoldable pub no_of : Voting → ℕ → ℕ → Bool
no_of s t v =
    either (le s.abort_probability (from_bits binary64 0)) false (lt (share_of (hash_of t v s.seed)) s.abort_probability)
