-- RULES 14.2 and 14.3. However an input is cut into reads, and wherever the output was full, the listing is the same.
-- Assumes nothing: it is proved in proofs/Cutting.antt and proofs/Standing.antt.
use Rattle.std.specs.Prelude.{Ok, List, [], ◌∷◌, ◌++◌, ◌≡◌, ℕ, ◌-◌, ◌≤◌, ◌<◌, length, take, drop}
use Rattle.frame.specs.Bounds.{frame_words, ended_bytes}
use Rattle.frame.specs.Listing.{listing_of, refused_text}
use Rattle.lines.specs.declared.feed.Fed.{Fed}
use Rattle.lines.specs.Input.{last_of, listed_lines, input_listing}
use Rattle.lines.specs.Feeding.{kept_bytes, feed_by, feed_of, fed_to, fed_of, kept_of}

-- What a program writes for the reads that are still to come, if it has a line so far: it calls with any room for the
-- output, writes what it got, and calls again for the bytes that were not read; once there are none it keeps what is
-- worth keeping of the line and takes the next read; behind the last read it answers the last line.
pub data Run : List ℕ → List (List ℕ) → List ℕ → Type 0 where
  ended : {line : List ℕ} → Run line [] (listed_lines (last_of line))
  next : {line w : List ℕ} {reads : List (List ℕ)} → Run (kept_of line) reads w → Run line ([] ∷ reads) w
  call : {line bytes w : List ℕ} {reads : List (List ℕ)} (room : ℕ)
      → Run (feed_by room line bytes).line ((feed_by room line bytes).rest ∷ reads) w
      → Run line (bytes ∷ reads) (listed_lines (feed_by room line bytes).done ++ w)

unfoldable pub joined : List (List ℕ) → List ℕ
joined [] = []
joined (c ∷ cs) = c ++ joined cs

-- Every such run writes the listing of the whole input, and there is one for every way to cut it.
pub record AnyCut : Type 0 where
  pub same : (reads : List (List ℕ)) (w : List ℕ) → Run [] reads w → w ≡ input_listing (joined reads)
  pub runs : (reads : List (List ℕ)) (room : ℕ) → ended_bytes ≤ room → (w : List ℕ) × Run [] reads w

-- A line of more bytes than a frame may have is refused 1, whatever they are.
abbrev pub LongRefused : Type 0
LongRefused = (line : List ℕ) → kept_bytes ≤ length line → listing_of line ≡ refused_text 1

-- The line so far and the bytes not read stand in the text where a call says, so that it can be called again on the
-- same text; and a call with bytes to read and room for one answer gets on.
pub record CallsOn (text : List ℕ) (n room : ℕ) (r : Fed) : Type 0 where
  pub line : take (r.at - r.from) (drop r.from text) ≡ (feed_of text n room).line
  pub rest : drop r.at text ≡ (feed_of text n room).rest
  pub on : n < length text → ended_bytes ≤ room → n < r.at

abbrev pub CallAgain : Type 0
CallAgain =
    (text : List ℕ) (n words out used : ℕ) → n ≤ length text → frame_words ≤ words → used ≤ out
    → (fed_of text n words out used ≡ Ok (fed_to text n out used)) × CallsOn text n (out - used) (fed_to text n out used)
