-- A mark added to a word that has none from there on, and how many of a word's first marks are there.
-- Assumes nothing.
use mathlib.Core.Path.{◌≡◌, refl, sym, ap, ◌∙◌}
use mathlib.Core.Bool.{Bool, true, false, ◌&&◌, and-false}
use Prim.Native.Nat.{ℕ, zero, suc, ◌+◌, ◌*◌, ◌%◌, ◌^◌, ◌≤◌, ◌<◌}
use native.Mathlib.Nat.{pow-suc, one-mul, le_antisymm}
use native.Mathlib.Numerals.{add-one}
use native.Mathlib.Omega.{arith}
use lib.Dec.{eqb, ltb}
use lib.Pow.{pow_mono}
use mir.Val.{bool_byte}
use borrow.Author.Tests.{eqb-true, eqb-false, lt-ltb, le-ltb}
use Rattle.marks.specs.Marks.{has, count_of}
use Rattle.marks.specs.Sets.{and_true, true_and, count_mono}
use Rattle.marks.specs.Laws.{one_shl}
use Rattle.texts.specs.Stores.{store_mark}

next_pow : (k : ℕ) → 2 ^ (k + 1) ≡ 2 ^ k * 2
next_pow k = ap (λ (x : ℕ). 2 ^ x) (add-one k) ∙ pow-suc 2 k

module _ (k m : ℕ) (h : k < 64) (l : m < 2 ^ k) where
  pub with_fits : m + 1 * 2 ^ k % 2 ^ 64 < 2 ^ 64
  with_fits = omega (arith, one_shl k h, pow_mono {i = k} {j = 63} (omega arith))

  pub with_yes : (m + 1 * 2 ^ k % 2 ^ 64 ≡ store_mark k true m) × (m + 1 * 2 ^ k % 2 ^ 64 < 2 ^ (k + 1))
  with_yes = (ap (λ (x : ℕ). m + x) (one_shl k h ∙ sym (one-mul (2 ^ k))), omega (arith, one_shl k h, next_pow k))

  pub with_no : (m ≡ store_mark k false m) × (m < 2 ^ (k + 1))
  with_no = (omega arith, omega (arith, next_pow k))

-- marks from n on that are not there do not count
count_stop : (w n k : ℕ) → n ≤ k → ((j : ℕ) → n ≤ j → has w j ≡ false) → count_of w k ≡ count_of w n
unfolding count_of
count_stop w n zero h f = let e : 0 ≡ n = omega arith in ap (count_of w) e
count_stop w n (suc k) h f = go (eqb n (suc k)) refl (λ l. count_stop w n k l f)
  where
    go : (t : Bool) → eqb n (suc k) ≡ t → (n ≤ k → count_of w k ≡ count_of w n) → count_of w (suc k) ≡ count_of w n
    go true e ih = ap (count_of w) (sym (eqb-true n (suc k) e))
    go false e ih = let below : n ≤ k = omega (arith, eqb-false n (suc k) e) in omega (arith, ih below, ap bool_byte (f k below))

-- w has the marks of m that f has, the first n: as many as m has of those
pub count_first : (m n f w : ℕ) → n ≤ 64 → ((j : ℕ) → has f j ≡ (ltb j n && ltb j 64)) → ((j : ℕ) → has w j ≡ (has m j && has f j))
    → count_of w 64 ≡ count_of m n
count_first m n f w h e g = count_stop w n 64 h out ∙ le_antisymm (count_mono w m n from) (count_mono m w n into)
  where
    out : (j : ℕ) → n ≤ j → has w j ≡ false
    out j l = g j ∙ rw (e j, le-ltb j n l) (and-false (has m j))

    from : (j : ℕ) → j < n → has w j ≡ true → has m j ≡ true
    from j l x = (and_true (has m j) (has f j) (sym (g j) ∙ x)).0

    into : (j : ℕ) → j < n → has m j ≡ true → has w j ≡ true
    into j l x = g j ∙ true_and (has m j) (has f j) x (e j ∙ rw (lt-ltb j n l, lt-ltb j 64 (omega arith)))
