-- RULES 16: what a room never exceeds. Assumes nothing: these are definitions.
use Rattle.std.specs.Prelude.{ℕ, ◌-◌, ◌^◌}

abbrev pub positions : ℕ
positions = 64

abbrev pub transactions : ℕ
transactions = 64

abbrev pub last_slot : ℕ
last_slot = 2 ^ 32 - 1

abbrev pub last_term : ℕ
last_term = 2 ^ 64 - 1

-- the entries of a packet's bitmap, and the bytes of its data
abbrev pub bitmap_entries : ℕ
bitmap_entries = 64

abbrev pub data_bytes : ℕ
data_bytes = 32

-- the bytes that the radio puts before every payload
abbrev pub header_bytes : ℕ
header_bytes = 11

-- the numbers of a row
abbrev pub row_cells : ℕ
row_cells = 5
