-- What a call does with the next byte, and that nothing is read twice. Assumes nothing.
use mathlib.Core.Bool.{Bool, true, false}
use mathlib.Core.List.{List, [], ◌∷◌, ◌++◌}
use Prim.Native.Nat.{ℕ, suc, ◌-◌, ◌≤◌, ◌<◌}
use native.Mathlib.Omega.{arith}
use lib.ListN.{length}
use borrow.Author.Tests.{le-ltb}
use Rattle.frame.specs.Bounds.{ended_bytes}
use Rattle.lines.specs.Input.{ended_of}
use Rattle.lines.specs.Feeding.{Feed, ends_line, is_full, taken, feed_by}

-- the next byte, with both tests open
abbrev pub fork : ℕ → List ℕ → ℕ → List ℕ → Bool → Bool → Feed
fork room line b bs p q =
    taken p q line (b ∷ bs) (feed_by (room - length (ended_of line)) [] bs) (feed_by room (line ++ (b ∷ [])) bs)

pub rest_le : (room : ℕ) (line bs : List ℕ) → length (feed_by room line bs).rest ≤ length bs
unfolding feed_by
rest_le room line [] = omega arith
rest_le room line (b ∷ bs) =
    go (ends_line b) (is_full room) (rest_le (room - length (ended_of line)) [] bs) (rest_le room (line ++ (b ∷ [])) bs)
  where
    go : (p q : Bool) → length (feed_by (room - length (ended_of line)) [] bs).rest ≤ length bs → length (feed_by room (line ++ (b ∷ [])) bs).rest ≤ length bs → length (fork room line b bs p q).rest ≤ suc (length bs)
    go true true a n = omega arith
    go true false a n = omega arith
    go false q a n = omega arith

pub rest_lt : (room : ℕ) (line bs : List ℕ) → ended_bytes ≤ room → 0 < length bs → length (feed_by room line bs).rest < length bs
unfolding feed_by
rest_lt room line [] h z = absurd (omega arith)
rest_lt room line (b ∷ bs) h z = rw (le-ltb room ended_bytes h) (go (ends_line b))
  where
    go : (p : Bool) → length (fork room line b bs p false).rest < suc (length bs)
    go true = omega (arith, rest_le (room - length (ended_of line)) [] bs)
    go false = omega (arith, rest_le room (line ++ (b ∷ [])) bs)
