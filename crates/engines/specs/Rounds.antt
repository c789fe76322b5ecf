-- RULES 7.3 and 7.4, for a whole round of either kind: its rows, one behind the other. A kind of round is told by its
-- state between two slots: the network in it, whether the round is over, and what a slot does. Assumes nothing.
use Rattle.std.specs.Prelude.{◌≡◌, ℕ, ◌-◌, ◌*◌, ◌/◌, ◌<◌, Bool, false, List, ◌++◌, length, take}
use Rattle.std.proofs.lemmas.List.Edits.{sets}
use Rattle.loops.specs.Runs.{runs, told}
use Rattle.limits.specs.Limits.{row_cells}
use Rattle.engines.specs.Network.{slot_row}
use Rattle.engines.specs.declared.words.Draw.{Draw}
use Rattle.engines.specs.declared.network.Network.{Network}
use Rattle.engines.specs.declared.network.RoundConf.{RoundConf}

module _ {S : Type 0} (network : S → Network) (over : S → Bool) (slot : S → S) (conf : RoundConf) where
  -- the rows of at most k slots
  abbrev pub rows_in : ℕ → S → List ℕ
  rows_in k s = told over slot (λ t. slot_row conf (network t)) k s

  -- how many they are
  abbrev pub due_in : ℕ → S → ℕ
  due_in k s = length (rows_in k s) / row_cells

-- rows put down one behind the other, behind the first `at` numbers of a buffer, as many as fit whole
unfoldable pub placed : List ℕ → ℕ → List ℕ → List ℕ
placed rows at l = sets rows at (take ((length rows - at) / row_cells * row_cells) l)

-- ---- no rules: what the code owes that runs a round

-- A step of a round with `left` slots to go, be it one slot or a stretch of them: less is left, the round comes to the
-- same end, and its rows are that of the slot begun and those that are still to come.
pub record Stepped {S : Type 0} (network : S → Network) (over : S → Bool) (slot : S → S) (conf : RoundConf) (left : ℕ) (s : S) (rest : ℕ) (t : S) : Type 0 where
  pub less : rest < left
  pub run : runs over slot rest t ≡ runs over slot left s
  pub rows : rows_in network over slot conf left s ≡ slot_row conf (network s) ++ rows_in network over slot conf rest t

-- What a run without rows must find out: whether words run short and, if they do not, how the round ends and how many
-- rows are due.
pub record Surveyed {S : Type 0} (network : S → Network) (over : S → Bool) (slot : S → S) (conf : RoundConf) (draw : S → Draw) (k : ℕ) (s t : S) (due : ℕ) : Type 0 where
  pub short : (draw t).short ≡ (draw (runs over slot k s)).short
  pub state : (draw t).short ≡ false → t ≡ runs over slot k s
  pub rows : (draw t).short ≡ false → due * row_cells ≡ length (rows_in network over slot conf k s)
