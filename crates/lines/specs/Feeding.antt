-- RULES 14.3. What one call makes of the line so far and the bytes behind it, if its output may be too short for all
-- answers. Assumes nothing: these are definitions.
use Rattle.std.specs.Prelude.{Bool, ◌&&◌, Result, Ok, Err, IfOk, List, [], ◌∷◌, ◌++◌, ◌≡◌, ℕ, ◌+◌, ◌-◌, ◌≤◌, eqb, leb, ltb, length, take, drop}
use Rattle.limits.specs.declared.refusals.Refusal.{Refusal}
use Rattle.limits.specs.declared.refusals.Refusal.TheVariants.{NoFit}
use Rattle.loops.specs.Pick.{either}
use Rattle.texts.specs.Put.{written}
pub use Rattle.frame.specs.Bounds.{kept_bytes}
use Rattle.frame.specs.Bounds.{frame_words, ended_bytes}
use Rattle.frame.specs.Listing.{words_in}
use Rattle.lines.specs.Input.{line_end, last_of, ended_of, listed_lines}
use Rattle.lines.specs.declared.feed.Fed.{Fed}

-- The lines that were answered, the line that is not at its end, and the bytes behind it that were not read: none, or,
-- if the output is full, its end and what follows.
pub record Feed : Type 0 where
  pub done : List (List ℕ)
  pub line : List ℕ
  pub rest : List ℕ

abbrev pub stopped : List ℕ → List ℕ → Feed
stopped line rest = record { done = []; line = line; rest = rest }

abbrev pub behind : List ℕ → Feed → Feed
behind line f = record { done = line ∷ f.done; line = f.line; rest = f.rest }

-- whether a byte ends the line, and whether the output might be too short for an answer
abbrev pub ends_line : ℕ → Bool
ends_line b = eqb b line_end

abbrev pub is_full : ℕ → Bool
is_full room = ltb room ended_bytes

-- The next byte, by these tests. If the output is full the line and all from its end on stay.
abbrev pub taken : Bool → Bool → List ℕ → List ℕ → Feed → Feed → Feed
taken end full line rest answered on = either end (either full (stopped line rest) (behind line answered)) on

unfoldable pub feed_by : ℕ → List ℕ → List ℕ → Feed
feed_by room line [] = stopped line []
feed_by room line (b ∷ bs) =
    taken (ends_line b) (is_full room) line (b ∷ bs)
    (feed_by (room - length (ended_of line)) [] bs)
    (feed_by room (line ++ (b ∷ [])) bs)

-- what the answered lines leave of the lent words
unfoldable pub words_behind : List (List ℕ) → List ℕ → List ℕ
words_behind [] words = words
words_behind (l ∷ ls) words = words_behind ls (words_in l words)

-- ---- the call: n bytes of a text are the line so far, and `used` bytes of the output are taken; a stated length
-- beyond its list, or too few words, is 10

abbrev pub feeds : ℕ → ℕ → ℕ → ℕ → ℕ → Bool
feeds text n words out used = leb n text && (leb frame_words words && leb used out)

abbrev pub feed_of : List ℕ → ℕ → ℕ → Feed
feed_of text n room = feed_by room (take n text) (drop n text)

-- Where the line so far begins and where it ends, counted from the text's end: it stands before what was not read.
unfoldable pub fed_to : List ℕ → ℕ → ℕ → ℕ → Fed
fed_to text n out used =
    let f = feed_of text n (out - used) in
    record {
      from = length text - length f.rest - length f.line;
      at = length text - length f.rest;
      used = used + length (listed_lines f.done);
    }

unfoldable pub fed_of : List ℕ → ℕ → ℕ → ℕ → ℕ → Result Fed Refusal
fed_of text n words out used = either (feeds (length text) n words out used) (Ok (fed_to text n out used)) (Err NoFit)

unfoldable pub fed_words : List ℕ → ℕ → List ℕ → ℕ → ℕ → List ℕ
fed_words text n words out used =
    either (feeds (length text) n (length words) out used)
    (words_behind (feed_of text n (out - used)).done words)
    words

unfoldable pub fed_out : List ℕ → ℕ → ℕ → List ℕ → ℕ → List ℕ
fed_out text n words out used =
    either (feeds (length text) n words (length out) used)
    (written out used (listed_lines (feed_of text n (length out - used)).done))
    out

-- What the call hands back and what it leaves.
pub record Feeds (text : List ℕ) (n : ℕ) (words out : List ℕ) (used : ℕ) (r : Result Fed Refusal) (words' out' : List ℕ) : Type 0 where
  pub answer : r ≡ fed_of text n (length words) (length out) used
  pub room : IfOk r (λ fed. fed.used ≤ length out)
  pub words_left : words' ≡ fed_words text n words (length out) used
  pub out_left : out' ≡ fed_out text n (length words) out used

-- ---- between reads: the line so far goes to the front, as far as it is worth keeping

abbrev pub kept_of : List ℕ → List ℕ
kept_of line = take kept_bytes line

abbrev pub kept_from : List ℕ → ℕ → List ℕ
kept_from text from = kept_of (drop from text)

abbrev pub kept_in : List ℕ → ℕ → List ℕ
kept_in text from = written text 0 (kept_from text from)

-- ---- behind the last read: 10 if words or bytes are too few

abbrev pub ends : ℕ → ℕ → Bool
ends words out = leb frame_words words && leb ended_bytes out

-- how many bytes the answer has
unfoldable pub end_of : List ℕ → ℕ → ℕ → Result ℕ Refusal
end_of line words out = either (ends words out) (Ok (length (listed_lines (last_of line)))) (Err NoFit)

unfoldable pub end_words : List ℕ → List ℕ → ℕ → List ℕ
end_words line words out = either (ends (length words) out) (words_behind (last_of line) words) words

unfoldable pub end_out : List ℕ → ℕ → List ℕ → List ℕ
end_out line words out = either (ends words (length out)) (written out 0 (listed_lines (last_of line))) out
