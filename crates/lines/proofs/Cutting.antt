-- However an input is cut, the listing is the same. Assumes nothing.
use mathlib.Core.Bool.{Bool, true, false}
use mathlib.Core.List.{List, [], ◌∷◌, ◌++◌, append_assoc}
use mathlib.Core.Path.{◌≡◌, refl, sym, ap, ◌∙◌}
use Prim.Native.Nat.{ℕ, zero, suc, ◌-◌, ◌≤◌, ◌<◌}
use native.Mathlib.Decide.{dec_le}
use native.Mathlib.Omega.{arith}
use lib.Dec.{eqb}
use lib.ListN.{length, take, length-take}
use lib.Seq.{take_all, take-take}
use Rattle.loops.specs.Pick.{either}
use Rattle.frame.proofs.Texts.{long_refused}
use Rattle.frame.specs.Bounds.{frame_digits, ended_bytes}
use Rattle.frame.specs.Listing.{listing_of}
use Rattle.lines.specs.Input.{line_end, last_of, lines_from, ended_of, listed_lines, input_listing}
use Rattle.lines.specs.Feeding.{Feed, kept_bytes, ends_line, is_full, feed_by, kept_of}
use Rattle.lines.specs.Reading.{Run, joined, AnyCut, LongRefused}
use Rattle.lines.specs.Reading.Run.{ended, next, call}
use Rattle.lines.proofs.Forks.{fork, rest_lt}

pub long_line : LongRefused
long_line line h = long_refused line (omega arith)

-- ---- lines of which the same is kept have the same listing line

abbrev Alike : List ℕ → List ℕ → Type 0
Alike a b = kept_of a ≡ kept_of b

take_front : (k : ℕ) (a t : List ℕ) → take k (a ++ t) ≡ take k (take k a ++ t)
take_front zero a t = refl
take_front (suc k) [] t = refl
take_front (suc k) (x ∷ a) t = ap (λ (l : List ℕ). x ∷ l) (take_front k a t)

alike_more : (a b t : List ℕ) → Alike a b → Alike (a ++ t) (b ++ t)
alike_more a b t h = take_front kept_bytes a t ∙ ap (λ (x : List ℕ). take kept_bytes (x ++ t)) h ∙ sym (take_front kept_bytes b t)

alike_kept : (a : List ℕ) → Alike (kept_of a) a
alike_kept a = take-take kept_bytes kept_bytes a (omega arith)

alike_long : (a b : List ℕ) → Alike a b → length a ≤ frame_digits → length b ≤ frame_digits
alike_long a b h l = omega (arith, length-take kept_bytes a, length-take kept_bytes b, ap length h)

alike_listing : (a b : List ℕ) → Alike a b → listing_of a ≡ listing_of b
alike_listing a b h = go (dec_le (length a) frame_digits)
  where
    go : Dec (length a ≤ frame_digits) → listing_of a ≡ listing_of b
    go (yes l) =
        let m : length b ≤ frame_digits = alike_long a b h l in
        ap listing_of (sym (take_all kept_bytes a (omega arith)) ∙ h ∙ take_all kept_bytes b (omega arith))
    go (no l) =
        let m : frame_digits < length b = not_short (λ k. l (alike_long b a (sym h) k)) in
        long_refused a (omega arith) ∙ sym (long_refused b m)
      where
        not_short : (length b ≤ frame_digits → ⊥) → frame_digits < length b
        not_short n = omega arith

alike_last : (a b : List ℕ) → Alike a b → listed_lines (last_of a) ≡ listed_lines (last_of b)
unfolding last_of listed_lines ended_of
alike_last [] [] h = refl
alike_last [] (y ∷ b) h = absurd (omega (arith, ap length h))
alike_last (x ∷ a) [] h = absurd (omega (arith, ap length h))
alike_last (x ∷ a) (y ∷ b) h = ap (λ (l : List ℕ). (l ++ (line_end ∷ [])) ++ []) (alike_listing (x ∷ a) (y ∷ b) h)

alike_lines : (a b bs : List ℕ) → Alike a b → listed_lines (lines_from a bs) ≡ listed_lines (lines_from b bs)
unfolding lines_from listed_lines ended_of
alike_lines a b [] h = alike_last a b h
alike_lines a b (c ∷ bs) h = go (eqb c line_end) (alike_lines (a ++ (c ∷ [])) (b ++ (c ∷ [])) bs (alike_more a b (c ∷ []) h))
  where
    go : (p : Bool) → listed_lines (lines_from (a ++ (c ∷ [])) bs) ≡ listed_lines (lines_from (b ++ (c ∷ [])) bs) → listed_lines (either p (a ∷ lines_from [] bs) (lines_from (a ++ (c ∷ [])) bs)) ≡ listed_lines (either p (b ∷ lines_from [] bs) (lines_from (b ++ (c ∷ [])) bs))
    go true n = ap (λ (l : List ℕ). (l ++ (line_end ∷ [])) ++ listed_lines (lines_from [] bs)) (alike_listing a b h)
    go false n = n

-- ---- a call answers the lines that end in what it reads

-- what is listed of the lines that a call answered, and of those behind them
abbrev both : Feed → List ℕ → List ℕ
both f t = listed_lines f.done ++ listed_lines (lines_from f.line (f.rest ++ t))

fed_lines : (room : ℕ) (line bs t : List ℕ) → listed_lines (lines_from line (bs ++ t)) ≡ both (feed_by room line bs) t
unfolding feed_by lines_from listed_lines
fed_lines room line [] t = refl
fed_lines room line (b ∷ bs) t =
    go (ends_line b) (is_full room) refl (fed_lines (room - length (ended_of line)) [] bs t) (fed_lines room (line ++ (b ∷ [])) bs t)
  where
    go : (p q : Bool) → eqb b line_end ≡ p → listed_lines (lines_from [] (bs ++ t)) ≡ both (feed_by (room - length (ended_of line)) [] bs) t → listed_lines (lines_from (line ++ (b ∷ [])) (bs ++ t)) ≡ both (feed_by room (line ++ (b ∷ [])) bs) t → listed_lines (lines_from line (b ∷ (bs ++ t))) ≡ both (fork room line b bs p q) t
    go true true e a n = refl
    go true false e a n = rw e (ap (λ (x : List ℕ). ended_of line ++ x) a ∙ sym (append_assoc (ended_of line) _ _))
    go false q e a n = rw e n

-- ---- runs

run_lists : {line w : List ℕ} {reads : List (List ℕ)} → Run line reads w → w ≡ listed_lines (lines_from line (joined reads))
unfolding joined lines_from
run_lists ended = refl
run_lists {line} {reads = [] ∷ reads} (next r) = run_lists r ∙ alike_lines (kept_of line) line (joined reads) (alike_kept line)
run_lists {line} {reads = bytes ∷ reads} (call room r) = ap (λ (x : List ℕ). listed_lines (feed_by room line bytes).done ++ x) (run_lists r) ∙ sym (fed_lines room line bytes (joined reads))

module _ (room : ℕ) (h : ended_bytes ≤ room) where
  read : (k : ℕ) (line bytes : List ℕ) (reads : List (List ℕ)) → length bytes ≤ k → ((l : List ℕ) → (w : List ℕ) × Run l reads w) → (w : List ℕ) × Run line (bytes ∷ reads) w
  read zero line [] reads l rest = ((rest (kept_of line)).0, next (rest (kept_of line)).1)
  read zero line (b ∷ bs) reads l rest = absurd (omega arith)
  read (suc k) line [] reads l rest = ((rest (kept_of line)).0, next (rest (kept_of line)).1)
  read (suc k) line (b ∷ bs) reads l rest =
      let f : Feed = feed_by room line (b ∷ bs) in
      let r = read k f.line f.rest reads (omega (arith, rest_lt room line (b ∷ bs) h (omega arith))) rest in
      (listed_lines f.done ++ r.0, call room r.1)

  all : (reads : List (List ℕ)) (line : List ℕ) → (w : List ℕ) × Run line reads w
  all [] line = (listed_lines (last_of line), ended)
  all (c ∷ cs) line = read (length c) line c cs (omega arith) (all cs)

pub any_cut : AnyCut
unfolding input_listing
any_cut = record {
  same = λ reads w r. run_lists r;
  runs = λ reads room h. all room h reads [];
}
