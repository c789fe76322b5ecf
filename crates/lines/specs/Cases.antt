-- RULES 14.2. Small inputs and their listings, computed over the rule. Assumes nothing.
use Rattle.std.specs.Prelude.{List, [], ◌∷◌, ◌++◌, ◌≡◌, refl, ℕ}
use Rattle.marks.specs.Marks.{all_of}
use Rattle.texts.specs.Decimal.{decimal, decimal_f}
use Rattle.frame.specs.Lines.{all_hex, is_frame, frame_of}
use Rattle.frame.specs.Listing.{refused_text, text_of, listing_of, outcome_of}
use Rattle.lines.specs.Input.{last_of, lines_from, ended_of, listed_lines, input_listing}

-- `refused 1` and its end
abbrev bad : List ℕ
bad = 114 ∷ 101 ∷ 102 ∷ 117 ∷ 115 ∷ 101 ∷ 100 ∷ 32 ∷ 49 ∷ 10 ∷ []

-- Nothing gives nothing, 0A one line, and no line stands behind a last 0A; 0D ends no line, and is a line where it
-- stands alone; so is a NUL.
pub record SmallInputs : Type 0 where
  pub none : input_listing [] ≡ []
  pub end : input_listing (10 ∷ []) ≡ bad
  pub ends : input_listing (10 ∷ 10 ∷ []) ≡ bad ++ bad
  pub unended : input_listing (48 ∷ []) ≡ bad
  pub behind : input_listing (48 ∷ 10 ∷ 48 ∷ []) ≡ bad ++ bad
  pub return : input_listing (48 ∷ 13 ∷ 10 ∷ []) ≡ bad
  pub alone : input_listing (10 ∷ 13 ∷ []) ≡ bad ++ bad
  pub nul : input_listing (0 ∷ []) ≡ bad

small_inputs : SmallInputs
unfolding input_listing listed_lines lines_from last_of ended_of listing_of text_of outcome_of frame_of is_frame all_hex all_of refused_text decimal decimal_f
small_inputs = record { none = refl; end = refl; ends = refl; unended = refl; behind = refl; return = refl; alone = refl; nul = refl }
