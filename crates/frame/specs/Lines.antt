-- RULES 13.1 and 13.2, the frame line, and refusal 1 of RULES 15. Places are counted in digits; a byte has two.
-- Assumes nothing.
use Rattle.std.specs.Prelude.{Bool, ◌&&◌, ◌||◌, Result, Ok, Err, List, ℕ, zero, suc, ◌+◌, ◌-◌, ◌*◌, ◌/◌, ◌%◌, length, get_or, eqb, ltb, leb}
use Rattle.limits.specs.declared.refusals.Refusal.{Refusal}
use Rattle.limits.specs.declared.refusals.Refusal.TheVariants.{BadLine}
use Rattle.loops.specs.Pick.{either}
use Rattle.loops.specs.Table.{tabulate}
use Rattle.marks.specs.Marks.{all_of}
use Rattle.frame.specs.Bounds.{frame_digits}
use Rattle.room.specs.Kinds.{kind_numbered}
use Rattle.frame.specs.declared.line.Frame.{Frame}

-- Digits are 0 to 9 and A to F.
abbrev pub is_hex : ℕ → Bool
is_hex b = (leb 48 b && leb b 57) || (leb 65 b && leb b 70)

abbrev pub digit_of : ℕ → ℕ
digit_of b = either (leb 48 b && leb b 57) (b - 48) (either (leb 65 b && leb b 70) (b - 55) 0)

-- the number that c digits from place i on are, the highest first
unfoldable pub number_at : List ℕ → ℕ → ℕ → ℕ
number_at s i zero = 0
number_at s i (suc c) = number_at s i c * 16 + digit_of (get_or s (i + c) 0)

unfoldable pub all_hex : List ℕ → Bool
all_hex s = all_of (length s) (λ i. is_hex (get_or s i 0))

-- A name's bytes are those that print, from 21 to 7E in hexadecimal.
abbrev pub name_byte : List ℕ → ℕ → Bool
name_byte s k = leb 33 (number_at s (76 + 2 * k) 2) && leb (number_at s (76 + 2 * k) 2) 126

unfoldable pub name_fits : List ℕ → ℕ → Bool
name_fits s n = all_of n (λ k. name_byte s k)

-- the length of the name, which stands behind 37 bytes
unfoldable pub name_length : List ℕ → ℕ
name_length s = number_at s 74 2

-- Behind the fixed fields: a name of 1 to 255 bytes that print, then whole words of 8 bytes.
unfoldable pub has_name : List ℕ → Bool
has_name s =
    ltb 0 (name_length s)
    && (leb (76 + 2 * name_length s) (length s)
    && (name_fits s (name_length s)
    && eqb ((length s - (76 + 2 * name_length s)) % 16) 0))

-- kind 1 is a pipeline, 2 a capture room
abbrev pub is_kind : ℕ → Bool
is_kind k = eqb k 1 || eqb k 2

-- A frame: digits, not too many, and nothing else; room for the fixed fields and one byte of a name; a kind.
unfoldable pub is_frame : List ℕ → Bool
is_frame s =
    leb (length s) frame_digits
    && (all_hex s
    && (leb 78 (length s)
    && (is_kind (number_at s 0 2) && has_name s)))

-- the number of words behind the name
unfoldable pub word_count : List ℕ → ℕ
word_count s = (length s - (76 + 2 * name_length s)) / 16

unfoldable pub words_of : List ℕ → List ℕ
words_of s = tabulate (word_count s) (λ k. number_at s (76 + 2 * name_length s + 16 * k) 16)

-- The fields in their order: kind, positions, topology, argument, transactions, a byte each; repeats or listen
-- timeout, and round slots, 4 bytes each; loss, abort probability and seed, 8 bytes each; then the name's length.
unfoldable pub fields_of : List ℕ → Frame
fields_of s =
    record {
      kind = kind_numbered (number_at s 0 2);
      positions = number_at s 2 2;
      topology = number_at s 4 2;
      argument = number_at s 6 2;
      transactions = number_at s 8 2;
      span = number_at s 10 8;
      slots = number_at s 18 8;
      loss = number_at s 26 16;
      abort = number_at s 42 16;
      seed = number_at s 58 16;
      name = name_length s;
      words = word_count s;
    }

abbrev pub no_frame : Result Frame Refusal
no_frame = Err BadLine

unfoldable pub frame_of : List ℕ → Result Frame Refusal
frame_of s = either (is_frame s) (Ok (fields_of s)) no_frame
