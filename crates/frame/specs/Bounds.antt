-- RULES 16 and 13.2. What a frame line and a listing line never exceed. Assumes nothing: these are definitions.
use Rattle.std.specs.Prelude.{ℕ, ◌+◌}

-- the digits of a frame
abbrev pub frame_digits : ℕ
frame_digits = 60000

-- the bytes of a line that are worth keeping: one more than a frame may have says that the line is too long, whatever
-- follows
abbrev pub kept_bytes : ℕ
kept_bytes = frame_digits + 1

-- the words of a frame
abbrev pub frame_words : ℕ
frame_words = 3745

-- the bytes of a listing line: a name of 255, a blank and 20 digits
abbrev pub listing_bytes : ℕ
listing_bytes = 276

-- a listing line and its end
abbrev pub ended_bytes : ℕ
ended_bytes = listing_bytes + 1
