-- RULES 14.3. What a read leaves of the present line, and what is done behind the last one. Assumes nothing: these are
-- definitions.
use Rattle.std.specs.Prelude.{Result, Ok, Option, Some, List, [], ◌∷◌, ◌++◌, ◌≡◌, ℕ, ◌≤◌, length, take, drop}
use Rattle.loops.specs.Pick.{either}
use Rattle.lines.specs.Feeding.{kept_bytes, ends_line, kept_from, kept_in, end_out}

-- What bytes leave of a line so far: the bytes behind the last line end among them, or, if there is none, the line and
-- all of them.
unfoldable pub left_of : List ℕ → List ℕ → List ℕ
left_of line [] = line
left_of line (b ∷ bs) = either (ends_line b) (left_of [] bs) (left_of (line ++ (b ∷ [])) bs)

-- The first n bytes of a text are the present line, the others were read, and the line that they leave is the text
-- from a place on: of that as much as is worth keeping went to the front.
pub record Keeps (text : List ℕ) (n kept : ℕ) (text' : List ℕ) : Type 0 where
  pub from : ℕ
  pub left : drop from text ≡ left_of (take n text) (drop n text)
  pub count : kept ≡ length (kept_from text from)
  pub front : text' ≡ kept_in text from

-- What is answered to a read, if nothing fails: how many bytes of the line are kept, or that the input is over. If
-- nothing was read it is over, and the answer to its last line is at the front of the output.
pub record TakesIn {E : Type 0} (text out : List ℕ) (n words : ℕ) (r : Result (Option ℕ) E) (text' out' : List ℕ) : Type 0 where
  pub few : (kept : ℕ) → r ≡ Ok (Some kept) → kept ≤ kept_bytes
  pub on : (kept : ℕ) → r ≡ Ok (Some kept) → Keeps text n kept text'
  pub last : length text ≡ n → ((kept : ℕ) → r ≡ Ok (Some kept) → ⊥) × (out' ≡ end_out text words out)
