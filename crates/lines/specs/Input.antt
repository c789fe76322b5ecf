-- RULES 14.2: what the program prints for the bytes that it reads. Assumes nothing: these are definitions.
use Rattle.std.specs.Prelude.{List, [], ◌∷◌, ◌++◌, ℕ, eqb}
use Rattle.loops.specs.Pick.{either}
use Rattle.frame.specs.Listing.{listing_of}

-- Byte 0A ends a line, and nothing else does.
abbrev pub line_end : ℕ
line_end = 10

-- Behind the last 0A stands a line that counts unless it is empty.
unfoldable pub last_of : List ℕ → List (List ℕ)
last_of [] = []
last_of (b ∷ bs) = (b ∷ bs) ∷ []

-- the lines of an input, of whose first line some bytes have come before it
unfoldable pub lines_from : List ℕ → List ℕ → List (List ℕ)
lines_from line [] = last_of line
lines_from line (b ∷ bs) = either (eqb b line_end) (line ∷ lines_from [] bs) (lines_from (line ++ (b ∷ [])) bs)

-- a listing line and its end
unfoldable pub ended_of : List ℕ → List ℕ
ended_of line = listing_of line ++ (line_end ∷ [])

-- one for each line, in their order
unfoldable pub listed_lines : List (List ℕ) → List ℕ
listed_lines [] = []
listed_lines (l ∷ ls) = ended_of l ++ listed_lines ls

-- bytes in, listing out
unfoldable pub input_listing : List ℕ → List ℕ
input_listing bytes = listed_lines (lines_from [] bytes)
