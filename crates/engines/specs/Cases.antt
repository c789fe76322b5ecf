-- RULES 3.2, 7.3, 7.4 and 7.5. Worked cases, computed over the rules themselves. Assumes nothing.
use Rattle.std.specs.Prelude.{◌≡◌, ◌-◌, ◌^◌, true, false, [], ◌∷◌, refl, None, Some}
use Rattle.std.specs.Float.{binary64}
use Rattle.std.specs.Float.Ieee.{of_bits, of_fields, of_int, div, round, units, odd, size, span, climb, lt, le, eq}
use Rattle.loops.specs.Upto.{upto}
use Rattle.marks.specs.Marks.{marks, count_of}
use Rattle.engines.specs.Words.{next_of, unit_of, coin_of, pick_of}
use Rattle.engines.specs.Network.{on_air}
use Rattle.engines.specs.Nodes.{listens, floods, sleeps, sets_of}
use Rattle.engines.specs.Rows.{row_of, highest_progress, is_due, next_row, due_after, cells, rows_refused}
use Rattle.engines.specs.Metrics.{ratio_of}
use Rattle.engines.specs.Settings.{loss_accepted, is_lossy}
use Rattle.engines.specs.declared.node.Node.{Node}
use Rattle.engines.specs.declared.node.NodeState.{NodeState}
use Rattle.engines.specs.declared.node.NodeState.TheVariants.{Listen, Flood, Sleep}

-- ---- words

-- The highest word gives the highest number below 1, the middle word one half; a coin says yes just below the middle.
words_give :
    (unit_of (2 ^ 64 - 1) ≡ of_bits binary64 0x3FEF_FFFF_FFFF_FFFF)
    × (unit_of (2 ^ 63) ≡ of_bits binary64 0x3FE0_0000_0000_0000)
    × (coin_of (2 ^ 63) ≡ false)
    × (coin_of (2 ^ 63 - 1) ≡ true)
    × (pick_of (2 ^ 64 - 1) 2 ≡ 0)
unfolding unit_of coin_of pick_of of_bits of_fields of_int div round units odd size span climb lt le eq
words_give = (refl, refl, refl, refl, refl)

-- A cursor beyond the list, or at the highest number: the word is 0, the cursor stays, and the lack is noted.
past : next_of (7 ∷ []) (record { at = 2 ^ 64 - 1; short = false }) ≡ record { word = 0; draw = record { at = 2 ^ 64 - 1; short = true } }
unfolding next_of
past = refl

-- ---- settings and metrics

-- 0, -0 and the highest number below 1 pass; 1, the number just below 0, and NaN of either sign do not.
losses :
    (loss_accepted (of_bits binary64 0) ≡ true)
    × (loss_accepted (of_bits binary64 0x8000_0000_0000_0000) ≡ true)
    × (loss_accepted (of_bits binary64 0x3FEF_FFFF_FFFF_FFFF) ≡ true)
    × (loss_accepted (of_bits binary64 0x3FF0_0000_0000_0000) ≡ false)
    × (loss_accepted (of_bits binary64 0x8000_0000_0000_0001) ≡ false)
    × (loss_accepted (of_bits binary64 0x7FF8_0000_0000_0000) ≡ false)
    × (loss_accepted (of_bits binary64 0xFFF8_0000_0000_0000) ≡ false)
    × (is_lossy (of_bits binary64 0x8000_0000_0000_0000) ≡ false)
unfolding loss_accepted is_lossy of_bits of_fields of_int div round units odd size span climb lt le eq
losses = (refl, refl, refl, refl, refl, refl, refl, refl)

-- A quarter; nothing of nothing; and two counts that are rounded before they are divided.
ratios :
    (ratio_of 1 4 ≡ Some (of_bits binary64 0x3FD0_0000_0000_0000))
    × (ratio_of 5 0 ≡ None)
    × (ratio_of (2 ^ 64 - 1) (2 ^ 63) ≡ Some (of_bits binary64 0x4000_0000_0000_0000))
unfolding ratio_of of_bits of_fields of_int div round units odd size span climb lt le eq
ratios = (refl, refl, refl)

-- ---- bytes

-- A header goes before every payload, an empty one too.
sent :
    (on_air 0 ≡ 11)
    × (on_air 85 ≡ 96)
unfolding on_air
sent = (refl, refl)

-- ---- rows

-- One of nine numbers' rows used and one due: refused; of ten: not. A used count at its highest is refused, also with
-- no row due.
fitting :
    (rows_refused 9 1 1 ≡ true)
    × (rows_refused 10 1 1 ≡ false)
    × (rows_refused 5 1 0 ≡ false)
    × (rows_refused 4 1 0 ≡ true)
    × (rows_refused 10 (2 ^ 64 - 1) 0 ≡ true)
unfolding rows_refused
fitting = (refl, refl, refl, refl, refl)

in_state : NodeState → Node
in_state s =
    record {
      state = s;
      flood_remaining = 0;
      last_progress_slot = 0;
      goal_reached = false;
      progress_count = 3;
      slots_listen = 0;
      slots_flood = 0;
      slots_sleep = 0;
    }

-- Of four positions one listens, two flood and one sleeps; the fifth is none.
shown : cells (row_of 7 4 (in_state Flood ∷ in_state Listen ∷ in_state Sleep ∷ in_state Flood ∷ in_state Listen ∷ [])) ≡ 7 ∷ 3 ∷ 1 ∷ 2 ∷ 1 ∷ []
unfolding row_of highest_progress sets_of listens floods sleeps marks count_of upto in_state
shown = refl

-- A row is due at its slot and behind it, and is counted once.
due :
    (due_after 3 7 6 ≡ 3)
    × (due_after 3 7 7 ≡ 4)
    × (next_row 7 5 7 ≡ 12)
    × (next_row 7 5 6 ≡ 7)
    × (next_row (2 ^ 64 - 1) 5 (2 ^ 64 - 1) ≡ 4)
unfolding due_after next_row is_due
due = (refl, refl, refl, refl, refl)
