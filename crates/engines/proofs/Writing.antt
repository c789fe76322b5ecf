-- The row of a slot, written behind the numbers already used. Assumes nothing.
use Rattle.std.proofs.Common.{◌≡◌, ℕ, ◌+◌, ◌-◌, ◌<◌, ◌≤◌, Bool, true, false, leb, List, [], ◌++◌, length, take, drop, refl, arith, length-drop, length-take, le-ltb, le-leb}
use lib.Seq.{sets}
use borrow.Author.Tests.{lt-leb}
use Rattle.loops.specs.Pick.{either}
use Rattle.loops.specs.Stores.{sets_part}
use Rattle.engines.specs.Nodes.{ticked_all}
use Rattle.engines.specs.Rows.{is_due, cells, row_of, put_row}
use Rattle.engines.specs.Network.{due_row, slot_row, written_at, written_end}
use Rattle.engines.specs.declared.rows.Row.{Row}
use Rattle.engines.specs.declared.network.Network.{Network}
use Rattle.engines.specs.declared.network.RoundConf.{RoundConf}

-- what is owed of the buffer, and of the number of numbers used, for a row that is put behind the first `at` numbers
abbrev pub Owed : List ℕ → ℕ → List ℕ → List ℕ → ℕ → Type 0
Owed rows at row left end = (end ≡ written_end (length rows) at row) × (left ≡ written_at rows at row)

-- the row fits
pub owed_fits : (rows : List ℕ) (at : ℕ) (row : List ℕ) → at + length row ≤ length rows → {left : List ℕ} {end : ℕ} → Owed rows at row left end → (end ≡ at + length row) × (left ≡ sets rows at row)
unfolding written_at written_end
owed_fits rows at row h p = (rw (le-leb (at + length row) (length rows) h) at p.0, rw (le-leb (at + length row) (length rows) h) at p.1)

-- there is no row
owed_none : (rows : List ℕ) (at : ℕ) → Owed rows at [] rows at
unfolding written_at written_end
owed_none rows at = by (leb (at + 0) (length rows))
  where
    by : (b : Bool) → (at ≡ either b (at + 0) at) × (rows ≡ either b rows rows)
    by true = (omega arith, refl)
    by false = (refl, refl)

module _ (slot : ℕ) (r : Row) (rows : List ℕ) (at : ℕ) where
  pub row_none : is_due r.slot slot ≡ false → Owed rows at (due_row slot r) rows at
  unfolding due_row
  row_none e = rw e (owed_none rows at)

  pub row_full : is_due r.slot slot ≡ true → length rows < at + 5 → Owed rows at (due_row slot r) rows at
  unfolding due_row written_at written_end
  row_full e h = rw (e, lt-leb (at + 5) (length rows) h) (refl, refl)

  pub row_part : is_due r.slot slot ≡ true → at + 5 ≤ length rows
      → Owed rows at (due_row slot r) (take at rows ++ (put_row (take (length rows - at) (drop at rows)) r ++ drop (length rows - at) (drop at rows))) (at + 5)
  unfolding due_row written_at written_end put_row
  row_part e h =
      let part = take (length rows - at) (drop at rows) in
      let long : 5 ≤ length part = simp (length-take, length-drop) (omega arith) in
      rw (e, le-leb (at + 5) (length rows) h) (refl, rw (le-ltb (length part) 5 long) (sets_part (cells r) rows at (omega arith)))

module _ (conf : RoundConf) (w : Network) where
  -- a row that is due, and one that is not
  pub due_yes : is_due w.next_row w.slot ≡ true → slot_row conf w ≡ cells (row_of w.next_row conf.graph.n (ticked_all conf.graph.n w.nodes))
  unfolding slot_row due_row row_of
  due_yes e = rw e

  pub due_no : is_due w.next_row w.slot ≡ false → slot_row conf w ≡ []
  unfolding slot_row due_row row_of
  due_no e = rw e

  module _ (rows : List ℕ) (at : ℕ) where
    abbrev pub Put : List ℕ → ℕ → Type 0
    Put left end = Owed rows at (slot_row conf w) left end

    pub put_none : is_due w.next_row w.slot ≡ false → Put rows at
    put_none e = rw (due_no e) (owed_none rows at)

    pub put_full : is_due w.next_row w.slot ≡ true → length rows < at + 5 → Put rows at
    unfolding written_at written_end
    put_full e h = rw (due_yes e, lt-leb (at + 5) (length rows) h) (refl, refl)
