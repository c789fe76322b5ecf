-- RULES 7.3 and 7.4, and refusal 17 of RULES 15: what a row says, when it is due, and where it is written. Assumes
-- nothing.
use Rattle.std.specs.Prelude.{ℕ, ◌+◌, ◌-◌, ◌*◌, ◌/◌, ◌%◌, ◌^◌, Bool, ◌||◌, List, [], ◌∷◌, length, nat_le, nat_lt, slice_index_or}
use Rattle.std.proofs.lemmas.List.Edits.{sets}
use Rattle.loops.specs.Pick.{either}
use Rattle.loops.specs.Highest.{highest}
use Rattle.marks.specs.Marks.{count_of}
use Rattle.engines.specs.Clamp.{at_most64}
use Rattle.engines.specs.Nodes.{inc, no_node, sets_of}
use Rattle.engines.specs.declared.node.Node.{Node}
use Rattle.engines.specs.declared.node.StateSets.{StateSets}
use Rattle.engines.specs.declared.rows.Row.{Row}

unfoldable pub highest_progress : ℕ → List Node → ℕ
highest_progress n l = highest (at_most64 n) (λ i. (slice_index_or l i no_node).progress_count)

-- A row: the slot, the highest progress, and how many of these positions listen, flood and sleep.
abbrev pub row_in : ℕ → ℕ → StateSets → Row
row_in slot progress s =
    record {
      slot = slot;
      progress = progress;
      listening = count_of s.listening 64;
      flooding = count_of s.flooding 64;
      sleeping = count_of s.sleeping 64;
    }

-- .. of the first n positions
unfoldable pub row_of : ℕ → ℕ → List Node → Row
row_of slot n l = row_in slot (highest_progress n l) (sets_of n l)

-- A row is due once the slot has reached the next row slot, which is then higher by the interval.
unfoldable pub is_due : ℕ → ℕ → Bool
is_due next slot = nat_le next slot

unfoldable pub next_row : ℕ → ℕ → ℕ → ℕ
next_row next interval slot = either (is_due next slot) ((next + interval) % 2 ^ 64) next

-- one row more, if the slot has one
unfoldable pub due_after : ℕ → ℕ → ℕ → ℕ
due_after due next slot = either (is_due next slot) (inc due) due

-- the five numbers
abbrev pub cells : Row → List ℕ
cells r = r.slot ∷ r.progress ∷ r.listening ∷ r.flooding ∷ r.sleeping ∷ []

-- A row at the start of a part, if the part holds it whole.
unfoldable pub put_row : List ℕ → Row → List ℕ
put_row part r = either (nat_lt (length part) 5) part (sets part 0 (cells r))

-- Refusal 17: more rows used than the buffer has numbers for, or too few numbers behind them for the rows that are
-- due.
unfoldable pub rows_refused : ℕ → ℕ → ℕ → Bool
rows_refused numbers used due = nat_lt numbers (used * 5) || nat_lt ((numbers - used * 5) / 5) due
