-- Runs of slots with their rows, for both kinds of round: the invariants of the loop that counts rows and of the loop that writes them, with one law for each
-- of their needs; and the refusals that a run tells. Assumes nothing.
use Rattle.std.proofs.Common.{◌≡◌, ℕ, suc, ◌+◌, ◌-◌, ◌*◌, ◌/◌, ◌^◌, ◌<◌, ◌≤◌, Bool, true, false, not, ◌||◌, ltb, leb, leb-true, Ok, List, [], ◌∷◌, ◌++◌, length, take, drop, sym, refl, ap, ◌∙◌, true≢false, append_assoc, append-nil, arith, length-append, length-drop, drop_of_length-le, length-take-le, take_all, drop-drop, ltb-false, ltb-true}
use native.Mathlib.Decide.{dec_le}
use lib.Seq.{sets, length-sets, sets-eq, take-nil, take-append-add}
use borrow.Author.Tests.{lt-leb}
use Rattle.limits.specs.Refusals.{holds_or}
use Rattle.limits.specs.declared.refusals.Refusal.TheVariants.{TooLong, RowsShort}
use Rattle.limits.proofs.Tests.{no_err, held}
use Rattle.loops.specs.Pick.{either}
use Rattle.loops.specs.Runs.{runs, runs_none, runs_stop, runs_turn, told_none, told_stop, told_turn}
use Rattle.loops.specs.Leaps.{Leaps, runs_leap, told_leap}
use Rattle.loops.specs.Stores.{sets_append}
use Rattle.engines.specs.Nodes.{inc, ticked_all}
use Rattle.engines.specs.Rows.{is_due, next_row, due_after, cells, row_of, rows_refused}
use Rattle.engines.specs.Network.{due_row, slot_row, length_test, late_test}
use Rattle.engines.specs.Rounds.{rows_in, due_in, placed, Stepped, Surveyed}
use Rattle.engines.specs.declared.rows.Row.{Row}
use Rattle.engines.specs.declared.words.Draw.{Draw}
use Rattle.engines.specs.declared.network.Network.{Network}
use Rattle.engines.specs.declared.network.RoundConf.{RoundConf}
use Rattle.engines.proofs.Writing.{Put, due_yes, due_no, owed_fits, put_none, put_full}

-- ---- counting

five : (b : Bool) (need : ℕ) (r : Row) → need + 1 < 2 ^ 64 → either b (inc need) need * 5 ≡ need * 5 + length (either b (cells r) [])
five true need r h = omega arith
five false need r h = omega arith

one : (b : Bool) (need : ℕ) → need + 1 < 2 ^ 64 → either b (inc need) need ≤ need + 1
one true need h = omega arith
one false need h = omega arith

-- k slots are left from t on, and `need` rows were due before; the round is to end at v with rows of `total` numbers, and had n slots
pub record Counted {S : Type 0} (network : S → Network) (over : S → Bool) (slot : S → S) (conf : RoundConf) (v : S) (total n k : ℕ) (t : S) (need : ℕ) : Type 0 where
  pub run : runs over slot k t ≡ v
  pub rows : need * 5 + length (rows_in network over slot conf k t) ≡ total
  pub small : need + k ≤ n

module _ {S : Type 0} (network : S → Network) (over : S → Bool) (slot : S → S) (conf : RoundConf) where
  pub counted_turn : {v : S} {total n k : ℕ} {t : S} {need : ℕ} → Counted network over slot conf v total n k t need → n < 2 ^ 64 → 0 < k
      → {need' : ℕ} → need' ≡ due_after need (network t).next_row (network t).slot → {rest : ℕ} {u : S} → Stepped network over slot conf k t rest u → Counted network over slot conf v total n rest u need'
  unfolding slot_row due_row row_of due_after
  counted_turn {k = k} {t} {need} l b p e {rest} {u} st =
      let w = network t in
      let more = rows_in network over slot conf rest u in
      let fits : need + 1 < 2 ^ 64 = omega (arith, l.small) in
      let due = is_due w.next_row w.slot in
      record {
        run = st.run ∙ l.run;
        rows = rw e
            (omega (arith, l.rows, ap length st.rows, length-append (slot_row conf w) more, five due need (row_of w.next_row conf.graph.n (ticked_all conf.graph.n w.nodes)) fits));
        small = rw e (omega (arith, l.small, st.less, one due need fits));
      }

  -- the ways out of the run: the round is over, its slots are run, or words have run short
  module _ (draw : S → Draw) (n : ℕ) (c : S) {k : ℕ} {t : S} {need : ℕ} (l : Counted network over slot conf (runs over slot n c) (length (rows_in network over slot conf n c)) n k t need) where
    abbrev Answer : Type 0
    Answer = Surveyed network over slot conf draw n c t need

    to_its_end : t ≡ runs over slot n c → need * 5 ≡ length (rows_in network over slot conf n c) → Answer
    to_its_end e d = record { short = ap (λ (s : S). (draw s).short) e; state = λ q. e; rows = λ q. d }

    pub counted_stop : 0 < k → over t ≡ true → Answer
    counted_stop h s = to_its_end (runs_stop _ _ h s l.run) (omega (arith, rw (told_stop _ _ _ t k s) at l.rows))

    pub counted_none : k ≤ 0 → Answer
    counted_none h = to_its_end (runs_none _ _ h l.run) (omega (arith, rw (told_none _ _ _ t h) at l.rows))

    pub counted_short : ((k : ℕ) (s : S) → (draw s).short ≡ true → (draw (runs over slot k s)).short ≡ true) → (draw t).short ≡ true → Answer
    counted_short stays e =
        record {
          short = e ∙ sym (sym (ap (λ (s : S). (draw s).short) l.run) ∙ stays k t e);
          state = λ q. absurd (true≢false (sym e ∙ q));
          rows = λ q. absurd (true≢false (sym e ∙ q));
        }

-- ---- writing

-- no rows leave the buffer
pub no_rows : (rows l : List ℕ) (at : ℕ) → 0 ≡ length l → rows ≡ sets rows at l
no_rows rows [] at e = refl
no_rows rows (x ∷ l) at e = absurd (omega arith)

-- rows for which there is no place, and no rows, leave the buffer
pub placed_full : (rows : List ℕ) (at : ℕ) (l : List ℕ) → length rows - at < 5 → placed rows at l ≡ rows
unfolding placed
placed_full rows at l h = let z : (length rows - at) / 5 * 5 ≡ 0 = omega arith in rw z

placed_none : (rows : List ℕ) (at : ℕ) → placed rows at [] ≡ rows
unfolding placed
placed_none rows at = rw (take-nil {A = ℕ} ((length rows - at) / 5 * 5))

-- no row changes the buffer's length
pub placed_length : (rows : List ℕ) (at : ℕ) (l : List ℕ) → length (placed rows at l) ≡ length rows
unfolding placed
placed_length rows at l = length-sets rows at (take ((length rows - at) / 5 * 5) l)

-- the first row put down, and then the others
placed_row : (rows : List ℕ) (at : ℕ) (r l : List ℕ) → length r ≡ 5 → at + 5 ≤ length rows → placed rows at (r ++ l) ≡ placed (sets rows at r) (at + length r) l
unfolding placed
placed_row rows at r l five fits =
    let m : ℕ = (length rows - (at + length r)) / 5 * 5 in
    let whole : (length rows - at) / 5 * 5 ≡ length r + m = omega (arith, five, fits) in
    rw (length-sets rows at r, sets_append r (take m l) rows at, ← take-append-add r l m, whole)

pub placed_turn : (conf : RoundConf) (w : Network) (rows : List ℕ) (at : ℕ) (l : List ℕ) {rows' : List ℕ} {at' : ℕ} → Put conf w rows at rows' at'
    → placed rows at (slot_row conf w ++ l) ≡ placed rows' at' l
placed_turn conf w rows at l {rows'} {at'} p = by (is_due w.next_row w.slot) refl
  where
    same : Put conf w rows at rows at → (at' ≡ at) × (rows' ≡ rows)
    same q = (p.0 ∙ sym q.0, p.1 ∙ sym q.1)

    placing : is_due w.next_row w.slot ≡ true → Dec (at + 5 ≤ length rows) → placed rows at (slot_row conf w ++ l) ≡ placed rows' at' l
    placing e (yes h) =
        let long : length (slot_row conf w) ≡ 5 = ap length (due_yes conf w e) in
        let q = owed_fits rows at (slot_row conf w) (omega (arith, long, h)) p in
        placed_row rows at (slot_row conf w) l long h ∙ sym (rw (q.0, q.1))
    placing e (no h) =
        let q = same (put_full conf w rows at e (omega arith)) in
        let few : length rows - at < 5 = omega arith in
        placed_full rows at (slot_row conf w ++ l) few ∙ sym (placed_full rows at l few) ∙ sym (rw (q.0, q.1))

    by : (b : Bool) → is_due w.next_row w.slot ≡ b → placed rows at (slot_row conf w ++ l) ≡ placed rows' at' l
    by true e = placing e (dec_le (at + 5) (length rows))
    by false e = let q = same (put_none conf w rows at e) in rw (due_no conf w e, q.0, q.1)

-- The loop's invariant: k slots are left from t on, `at` numbers of `rows` are used, and what is left to write comes to `final`. One law for each of its needs.
pub record Left {S : Type 0} (network : S → Network) (over : S → Bool) (slot : S → S) (conf : RoundConf) (final : List ℕ) (k : ℕ) (t : S) (at : ℕ) (rows : List ℕ) : Type 0 where
  pub rest : placed rows at (rows_in network over slot conf k t) ≡ final

module _ {S : Type 0} (network : S → Network) (over : S → Bool) (slot : S → S) (conf : RoundConf) {final : List ℕ} {k : ℕ} {t : S} {at : ℕ} {rows : List ℕ}
    (l : Left network over slot conf final k t at rows) where
  pub left_turn : {rest at' : ℕ} {u : S} {rows' : List ℕ} → Put conf (network t) rows at rows' at' → Stepped network over slot conf k t rest u
      → Left network over slot conf final rest u at' rows'
  left_turn {rest} {u = u} p st =
      record { rest = sym (placed_turn conf (network t) rows at (rows_in network over slot conf rest u) p) ∙ sym (ap (placed rows at) st.rows) ∙ l.rest }

  pub left_stop : over t ≡ true → rows ≡ final
  left_stop s = sym (placed_none rows at) ∙ ap (placed rows at) (sym (told_stop _ _ _ t k s)) ∙ l.rest

  pub left_none : k ≤ 0 → rows ≡ final
  left_none h = sym (placed_none rows at) ∙ ap (placed rows at) (sym (told_none _ _ _ t h)) ∙ l.rest

  pub left_full : ltb (length rows - at) 5 ≡ true → rows ≡ final
  left_full h = sym (placed_full rows at (rows_in network over slot conf k t) (ltb-true (length rows - at) 5 h)) ∙ l.rest

  pub left_length : length rows ≡ length final
  left_length = sym (placed_length rows at (rows_in network over slot conf k t)) ∙ ap length l.rest

-- a part of just the rows' length holds them and nothing else, and so stands behind the rows used
pub placed_whole : (rows l : List ℕ) (at due : ℕ) → length l ≡ due * 5 → at + due * 5 ≤ length rows
    → take at rows ++ (placed (take (due * 5) (drop at rows)) 0 l ++ drop (due * 5) (drop at rows)) ≡ sets rows at l
unfolding placed
placed_whole rows l at due e h =
    let part = take (due * 5) (drop at rows) in
    let size : length part ≡ due * 5 = length-take-le (due * 5) (drop at rows) (omega (arith, length-drop at rows)) in
    let whole : (length part - 0) / 5 * 5 ≡ due * 5 = omega (arith, size) in
    let all : take ((length part - 0) / 5 * 5) l ≡ l = take_all ((length part - 0) / 5 * 5) l (omega (arith, whole)) in
    let inside : sets part 0 l ≡ l = sets-eq l part 0 (omega (arith, size)) ∙ rw (drop_of_length-le part (past (length part) (length l) (size ∙ sym e))) (append-nil l) in
    rw (all, inside, drop-drop, ← e) (sym (append_assoc (take at rows) l (drop (at + length l) rows)) ∙ sym (sets-eq l rows at (omega (arith, e))))
  where
    past : (a b : ℕ) → a ≡ b → a ≤ 0 + b
    past a b e = omega arith

-- ---- refusals

-- an accepted round does not pass the last slot
pub length_fits : (conf : RoundConf) (slot : ℕ) → length_test conf slot ≡ Ok tt → slot + conf.length ≤ 4294967295
unfolding length_test
length_fits conf slot e = leb-true (slot + conf.length) 4294967295 (held (leb (slot + conf.length) 4294967295) TooLong e)

-- What the run without rows told is what the whole run tells.
pub late_is : {S : Type 0} (network : S → Network) (over : S → Bool) (slot : S → S) (conf : RoundConf) (draw : S → Draw) (k : ℕ) (s t : S) (due numbers used : ℕ) → Surveyed network over slot conf draw k s t due
    → late_test numbers used (draw t).short due ≡ late_test numbers used (draw (runs over slot k s)).short (due_in network over slot conf k s)
unfolding late_test
late_is network over slot conf draw k s t due numbers used w = by (draw t).short refl
  where
    -- the run may be another where words ran short, and then so may its rows
    by : (b : Bool) → (draw t).short ≡ b → late_test numbers used (draw t).short due ≡ late_test numbers used (draw (runs over slot k s)).short (due_in network over slot conf k s)
    by true e = rw (← w.short, e)
    by false e = let d : due_in network over slot conf k s ≡ due = omega (arith, w.rows e) in rw (← w.short, e, d)

-- An accepted run has words enough, and place for its rows.
pub late_fits : (numbers used due : ℕ) (short : Bool) → late_test numbers used short due ≡ Ok tt → (short ≡ false) × ((used + due) * 5 ≤ numbers)
unfolding late_test rows_refused
late_fits numbers used due true e = no_err e
late_fits numbers used due false e = (refl, by (ltb numbers (used * 5)) (ltb ((numbers - used * 5) / 5) due) refl refl e)
  where
    by : (x y : Bool) → ltb numbers (used * 5) ≡ x → ltb ((numbers - used * 5) / 5) due ≡ y → holds_or (not (x || y)) RowsShort ≡ Ok tt → (used + due) * 5 ≤ numbers
    by true y p q z = no_err z
    by false true p q z = no_err z
    by false false p q z = omega (arith, ltb-false numbers (used * 5) p, ltb-false ((numbers - used * 5) / 5) due q)

-- ---- stretches

pub none_added : (x : ℕ) → x < 2 ^ 64 → Rattle.loops.specs.Wrap.add64 x 0 ≡ x
none_added x h = omega arith

module _ (w : Network) (h : w.slot < w.next_row) where
  pub not_due : is_due w.next_row w.slot ≡ false
  unfolding is_due
  not_due = lt-leb w.next_row w.slot h

  pub same_next : (interval : ℕ) → next_row w.next_row interval w.slot ≡ w.next_row
  unfolding next_row
  same_next interval = rw not_due

-- the two ways to go on: by one slot, and by a stretch in which no row is due
module _ {S : Type 0} (network : S → Network) (over : S → Bool) (slot : S → S) (conf : RoundConf) where
  pub stepped_slot : {left : ℕ} {s t : S} → 0 < left → over s ≡ false → t ≡ slot s → Stepped network over slot conf left s (left - 1) t
  stepped_slot h o e = record { less = omega arith; run = runs_turn _ _ h o e refl; rows = rw e (told_turn _ _ _ h o refl) }

  pub stepped_leap : (Still : ℕ → S → Type 0) (leap : ℕ → S → S) → Leaps over slot Still leap → ((k : ℕ) (s : S) → Still (suc k) s → (network s).slot < (network s).next_row)
      → {left k : ℕ} {s t : S} → 0 < k → k ≤ left → Still k s → t ≡ leap k s → Stepped network over slot conf left s (left - k) t
  stepped_leap Still leap sound early {left} {k = Prim.Native.Nat.zero} h g q e = absurd (omega arith)
  stepped_leap Still leap sound early {left} {k = suc j} {s} h g q e =
      let silent : (k : ℕ) (u : S) → Still (suc k) u → slot_row conf (network u) ≡ [] = λ k u p. due_no conf (network u) (not_due (network u) (early k u p)) in
      record {
        less = omega arith;
        run = runs_leap over slot Still leap sound h g q e refl;
        rows = rw (silent j s q) (told_leap over slot Still leap sound (λ d. slot_row conf (network d)) silent h g q e);
      }
