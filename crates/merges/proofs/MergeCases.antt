-- The cases of specs/MergeCases.antt, computed over the rules in one go.
-- Assumes nothing.
use Rattle.std.proofs.Common.{◌≡◌, ℕ, ◌*◌, Bool, true, false, ◌&&◌, ◌||◌, eqb, ltb, refl, arith, ltb-true, le-ltb, ne_eqb}
use mathlib.Core.Bool.{false≢true}
use lib.Ieee.{Float, nan, inf, fin, binary64, div, of_int, of_bits, lt, le, eq}
use lib.Ieee
use Rattle.marks.specs.Marks.{marks, any_of, all_of}
use Rattle.texts.specs.Decimal.{decimal, decimal_f}
use Rattle.texts.specs.Put.{written}
use Rattle.merges.specs.Votes.{hash_of, share_of, no_of}
use Rattle.merges.specs.Merging.{filled_of, marked_of, only_of, join_of, join_news, unanimous_of, rank_of, ensure_of, decided_of, acknowledged_of, voiced_of, settled_of, adopted_of, raised_of, own_of, same_term_of, outdated, heard_of, merged_by, merge_of, proposal_of, standing_by, goal_of, can_sleep_of, all_hold, any_holds, network_goal_of, outcome_of}
use Rattle.merges.specs.Late.{happened, after, history}
use Rattle.packets.specs.Packets.{proposal_data}
use Rattle.merges.specs.MergeCases.{MergeTable, AllNo, NanYes}

pub merge_table : MergeTable
unfolding no_of hash_of share_of div of_int of_bits lt le marks any_of all_of decimal decimal_f written filled_of marked_of only_of join_of join_news unanimous_of rank_of ensure_of decided_of acknowledged_of voiced_of settled_of adopted_of raised_of own_of same_term_of outdated heard_of merged_by merge_of proposal_data proposal_of standing_by goal_of can_sleep_of all_hold any_holds network_goal_of outcome_of happened after history
merge_table = (
  (refl, refl),
  (refl, refl),
  refl,
  refl,
  (refl, refl),
  refl,
  (refl, refl),
  refl,
  (refl, refl, refl),
  (refl, refl, refl, refl, refl, refl),
  (refl, refl, refl, refl, refl, refl, refl, refl, refl, refl, refl, refl, refl),
  (
    ((refl, refl, refl), (refl, refl, refl), (refl, refl, refl)),
    ((refl, refl, refl), refl, (refl, refl, refl)),
    ((refl, refl, refl), (refl, refl, refl)),
    ((refl, refl, refl), (refl, refl, refl), (refl, refl, refl)),
    refl,
  ),
)

-- what lies above 0 is not at most 0
strict : (x y : ℕ) (w : Bool) → ltb x y ≡ true → (ltb y x || (eqb y x && w)) ≡ false
strict x y w h = rw (le-ltb y x (omega (arith, ltb-true x y h)), ne_eqb y x (λ e. omega (arith, ltb-true x y h)))

above : (p : Float) → lt (of_bits binary64 0) p ≡ true → le p (of_bits binary64 0) ≡ false
unfolding lt le eq of_bits
above nan h = absurd (false≢true h)
above (inf true) h = absurd (false≢true h)
above (inf false) h = refl
above (fin true m e) h = absurd (false≢true h)
above (fin false m e) h = strict (0 * 1 * Ieee.down e) (m * Ieee.up e * 1) _ h

-- a product with 0
hash_none : (t v : ℕ) → hash_of t v 0x61C8_8646_80B5_83EB ≡ 0
unfolding hash_of
hash_none t v = omega arith

share_none : share_of 0 ≡ of_bits binary64 0
unfolding share_of div of_int of_bits
share_none = refl

pub all_no : AllNo
unfolding no_of
all_no n t v p h = rw (above p h, hash_none t v, share_none) h

below_nan : (x : Float) → lt x nan ≡ false
unfolding lt
below_nan nan = refl
below_nan (inf s) = refl
below_nan (fin s m e) = refl

pub nan_yes : NanYes
unfolding no_of le lt eq
nan_yes n t v seed = below_nan (share_of (hash_of t v seed))
