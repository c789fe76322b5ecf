-- RULES 3.1 and 3.2: what a draw takes from the lent list, and what one word gives. Assumes nothing.
use Rattle.std.specs.Prelude.{ℕ, ◌+◌, ◌-◌, ◌/◌, ◌%◌, ◌^◌, Bool, true, List, length, pos, from_bits, nat_lt, slice_index, slice_set, Float}
use Rattle.std.specs.Float.{binary64}
use Rattle.std.specs.Float.Ieee.{div, of_int, lt}
use Rattle.loops.specs.Pick.{either}
use Rattle.loops.specs.Downto.{downto}
use Rattle.engines.specs.Clamp.{at_most64}
use Rattle.engines.specs.declared.words.Draw.{Draw}
use Rattle.engines.specs.declared.words.Drawn.{Drawn}

-- A draw takes the word at the cursor and moves the cursor by one. Where there is none the word reads as 0, the cursor
-- stays, and `short` is set for good: refusal 16 asks for it at the end of a run.
unfoldable pub next_of : List ℕ → Draw → Drawn
next_of ws d =
    either (nat_lt d.at (length ws))
    (record { word = slice_index ws d.at; draw = record { at = d.at + 1; short = d.short } })
    (record { word = 0; draw = record { at = d.at; short = true } })

-- Unit: the word without its 11 low digits, over 2^53 (the pattern is that of 2^53). specs/Exact.antt says that this
-- rounds nothing.
unfoldable pub unit_of : ℕ → Float
unit_of w = div binary64 (of_int binary64 (pos (w / 2 ^ 11))) (from_bits binary64 0x4340_0000_0000_0000)

-- Coin: yes for the lower half of the words.
unfoldable pub coin_of : ℕ → Bool
coin_of w = nat_lt w (2 ^ 63)

-- A frame is lost if the unit lies below the loss.
unfoldable pub lost_of : ℕ → Float → Bool
lost_of w loss = lt (unit_of w) loss

-- Pick from 0 to i.
unfoldable pub pick_of : ℕ → ℕ → ℕ
pick_of w i = w % (i + 1)

-- A list of up to 64 numbers, and the cursor.
pub record Order : Type 0 where
  pub ids : List ℕ
  pub draw : Draw

-- RULES 3.3, the shuffle: a pick from 0 to i, and the numbers at i and at the pick change places.
abbrev pub swapped : ℕ → ℕ → List ℕ → List ℕ
swapped i j l = slice_set (slice_set l i (slice_index l j)) j (slice_index l i)

abbrev pub swap_with : ℕ → Order → Drawn → Order
swap_with i o x = record { ids = swapped i (pick_of x.word i) o.ids; draw = x.draw }

unfoldable pub swap_step : List ℕ → ℕ → Order → Order
swap_step ws i o = swap_with i o (next_of ws o.draw)

-- for i from count - 1 down to 1
unfoldable pub shuffled : List ℕ → ℕ → Order → Order
shuffled ws count o = downto (at_most64 count - 1) (swap_step ws) o
