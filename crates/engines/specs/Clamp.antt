-- RULES 16: a room has at most 64 positions. Where a call is told of more, its rule speaks of the first 64. Assumes
-- nothing.
use Rattle.std.specs.Prelude.{ℕ, min}

abbrev pub at_most64 : ℕ → ℕ
at_most64 n = min n 64
