-- The answers of the calls that are open to others, case by case as the code comes to them. Assumes nothing.
use mathlib.Core.Path.{◌≡◌}
use mathlib.Core.Bool.{true, false}
use Prim.Native.Nat.{ℕ, ◌≤◌, ◌<◌}
use native.Mathlib.Omega.{arith}
use lib.ListN.{get_or}
use borrow.Author.Tests.{lt-ltb, le-ltb, le-leb, lt-leb}
use Rattle.std.specs.Prelude.{Ok, Err}
use Rattle.limits.specs.declared.refusals.Refusal.TheVariants.{BadPositions}
use Rattle.marks.specs.Marks.{has}
use Rattle.graph.specs.declared.network.NetworkGraph.{NetworkGraph}
use Rattle.graph.specs.Links.{is_size, size_test, linked}

-- 1 to 64 positions
pub size_none : (n : ℕ) → n ≡ 0 → is_size n ≡ false
size_none n e = rw (le-ltb 0 n (omega arith))

pub size_many : (n : ℕ) → 64 < n → is_size n ≡ false
size_many n h = rw (lt-ltb 0 n (omega arith), lt-leb n 64 h)

pub size_ok : (n : ℕ) → 0 < n → n ≤ 64 → is_size n ≡ true
size_ok n h l = rw (lt-ltb 0 n h, le-leb n 64 l)

pub refused_none : (n : ℕ) → n ≡ 0 → Err BadPositions ≡ size_test n
unfolding size_test
refused_none n e = rw (size_none n e)

pub refused_many : (n : ℕ) → 64 < n → Err BadPositions ≡ size_test n
unfolding size_test
refused_many n h = rw (size_many n h)

pub accepted_size : (n : ℕ) → 0 < n → n ≤ 64 → Ok tt ≡ size_test n
unfolding size_test
accepted_size n h l = rw (size_ok n h l)

pub linked_row : (g : NetworkGraph) (i j : ℕ) → i < g.n → j < g.n → has (get_or g.adj i 0) j ≡ linked g i j
unfolding linked
linked_row g i j h l = rw (lt-ltb i g.n h, lt-ltb j g.n l)
