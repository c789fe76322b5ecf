-- RULES 14.2. Where a line ends, as a search finds it. Assumes nothing.
use Rattle.std.specs.Prelude.{List, ◌≡◌, ℕ, ◌≤◌, ◌<◌, length, get_or}
use Rattle.lines.specs.Input.{line_end}

-- no line ends from place a up to place b
abbrev pub Unbroken : List ℕ → ℕ → ℕ → Type 0
Unbroken text a b = (k : ℕ) → a ≤ k → k < b → get_or text k 0 ≡ line_end → ⊥

-- r is the first place from at on where a line ends, or the text's length
pub record NextEnd (text : List ℕ) (at r : ℕ) : Type 0 where
  pub from : at ≤ r
  pub within : r ≤ length text
  pub before : Unbroken text at r
  pub there : r < length text → get_or text r 0 ≡ line_end
