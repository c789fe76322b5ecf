-- Bytes that are moved to the front. Assumes nothing.
use mathlib.Core.List.{List, [], ◌++◌}
use mathlib.Core.Path.{◌≡◌, sym, ap, ap₂, ◌∙◌}
use Prim.Native.Nat.{ℕ, ◌+◌, ◌-◌, min, ◌≤◌, ◌<◌}
use native.Mathlib.Decide.{dec_le}
use native.Mathlib.Omega.{arith}
use lib.ListN.{length, take, drop, length-take, length-drop, take-append-drop, drop_of_length-le}
use lib.Seq.{length-take-le, take_all, take-length}
use Rattle.std.specs.List.{copy_within}
use Rattle.lines.specs.Feeding.{kept_from, kept_in}
use Rattle.texts.specs.Put.{written, written_nil}

-- ---- the call: of what stands from a place on, at most k bytes

take_min : (k : ℕ) (l : List ℕ) → take (min k (length l)) l ≡ take k l
take_min k l = go (dec_le k (length l))
  where
    least : (k m : ℕ) → k ≤ m → min k m ≡ k
    least k m h = omega arith

    most : (k m : ℕ) → (k ≤ m → ⊥) → (min k m ≡ m) × (m ≤ k)
    most k m h = omega arith

    go : Dec (k ≤ length l) → take (min k (length l)) l ≡ take k l
    go (yes h) = ap (λ (j : ℕ). take j l) (least k (length l) h)
    go (no h) = ap (λ (j : ℕ). take j l) (most k (length l) h).0 ∙ take-length l ∙ sym (take_all k l (most k (length l) h).1)

front_stays : (n : ℕ) (d : List ℕ) → n ≤ length d → written d 0 (take n d) ≡ d
unfolding written
front_stays n d h = ap (λ (k : ℕ). take n d ++ drop k d) (count (length-take-le n d h)) ∙ take-append-drop n d
  where
    count : length (take n d) ≡ n → 0 + length (take n d) ≡ n
    count e = omega arith

pub keep_none : (d : List ℕ) (from : ℕ) → length d < from → (0 ≡ length (kept_from d from)) × (d ≡ kept_in d from)
keep_none d from h =
    let e : drop from d ≡ [] = drop_of_length-le d {i = from} (omega arith) in
    (rw e, rw e (sym (written_nil d 0)))

module _ (d : List ℕ) (from n k : ℕ) (h : from ≤ length d) (e : n ≡ min k (length d - from)) where
  pub keep_count : n ≡ length (take k (drop from d))
  keep_count = e ∙ ap (min k) (sym (length-drop from d)) ∙ sym (length-take k (drop from d))

  same : take n (drop from d) ≡ take k (drop from d)
  same = ap (λ (j : ℕ). take j (drop from d)) (e ∙ ap (min k) (sym (length-drop from d))) ∙ take_min k (drop from d)

  pub keep_moved : {d' : List ℕ} → d' ≡ copy_within d from (from + n) 0 → d' ≡ written d 0 (take k (drop from d))
  unfolding written
  keep_moved q =
      q ∙ ap (λ (j : ℕ). take j (drop from d) ++ drop (0 + j) d) (back from n)
      ∙ ap₂ (λ (t : List ℕ) (j : ℕ). t ++ drop (0 + j) d) same keep_count
    where
      back : (a b : ℕ) → a + b - a ≡ b
      back a b = omega arith

  pub keep_stays : from ≡ 0 → d ≡ written d 0 (take k (drop from d))
  keep_stays z =
      sym (front_stays n d (omega arith)) ∙ ap (λ (j : ℕ). written d 0 (take n (drop j d))) (sym z) ∙ ap (written d 0) same
