-- RULES none. What the test programs' contracts say. Assumes nothing: these are definitions.
use Rattle.std.specs.Prelude.{ℕ, List, [], ◌∷◌, Bool, ◌+◌, ◌*◌, ◌-◌, ◌/◌, ◌%◌, ◌^◌, ◌<◌, map, take, nat_le, nat_lt, ◌==◌, ◌&&◌, if◌then◌else◌}
use Rattle.std.specs.List.{slice_split, fold}
use Rattle.std.specs.Str.Parse.{IsNumeral, digits_value, without_leading_plus}

-- ---- a line of plain numbers

-- what stands between the blanks of a line
abbrev pub words_of : List ℕ → List (List ℕ)
words_of line = slice_split (λ b. b == 32) line

-- a word of digits, maybe behind a plus, whose number is no greater than the greatest
abbrev pub IsNumber : List ℕ → Type 0
IsNumber word = IsNumeral 10 (without_leading_plus word) × (digits_value 10 (without_leading_plus word) < 2 ^ 64)

-- the number that a word is
abbrev pub number_of : List ℕ → ℕ
number_of word = digits_value 10 (without_leading_plus word)

-- those of all the words between the blanks of a line
abbrev pub numbers_of : List ℕ → List ℕ
numbers_of line = map number_of (words_of line)

-- ---- any line

-- the byte is a digit, and the number with it behind is no greater than the greatest
abbrev pub fits : ℕ → ℕ → Bool
fits n b = nat_le 48 b && (nat_le b 57 && nat_lt (n * 10 + (b - 48)) (2 ^ 64))

-- the number with that digit behind, if it fits, and otherwise as it was
abbrev pub with_byte : ℕ → ℕ → ℕ
with_byte n b = if fits n b then n * 10 + (b - 48) else n

-- the number that a word of any bytes is read as
abbrev pub number_read : List ℕ → ℕ
number_read word = fold with_byte 0 word

-- those of the first words of a line
abbrev pub numbers_read : ℕ → List ℕ → List ℕ
numbers_read most line = take most (map number_read (words_of line))

-- all parts but the last
abbrev pub but_last : List (List ℕ) → List (List ℕ)
but_last [] = []
but_last (part ∷ []) = []
but_last (part ∷ next ∷ parts) = part ∷ but_last (next ∷ parts)

-- the lines of a text: what a byte 10 ends, without that byte
abbrev pub lines_of : List ℕ → List (List ℕ)
lines_of text = but_last (slice_split (λ b. b == 10) text)

-- ---- many numbers as one

-- what is told so far, and one number more
abbrev pub mix_of : ℕ → ℕ → ℕ
mix_of h x = (h % 4294967296) * 1000003 + x % 4294967296 + x / 4294967296
