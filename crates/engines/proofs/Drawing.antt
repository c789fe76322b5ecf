-- What the proofs of the draws lean on. Assumes nothing.
use Rattle.std.proofs.Common.{◌≡◌, ℕ, ◌+◌, ◌^◌, ◌<◌, ◌≤◌, mod-lt, mod-eq_of_lt, arith}
use Rattle.engines.specs.Words.{pick_of}

-- a pick from 0 to i is at most i
pub pick_le : (w i : ℕ) → pick_of w i ≤ i
unfolding pick_of
pick_le w i = omega (arith, mod-lt w {m = i + 1} (omega arith))

-- with i at the highest number a word is its own pick
pub pick_top : (w i : ℕ) → w < 2 ^ 64 → i ≡ 18446744073709551615 → w ≡ pick_of w i
unfolding pick_of
pick_top w i h e = rw e (mathlib.Core.Path.sym (mod-eq_of_lt h))
