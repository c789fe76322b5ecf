-- The texts of a packet's parts, entry by entry, as the writers go.
-- Assumes nothing.
use mathlib.Core.Path.{◌≡◌, refl, sym, ap, ◌∙◌}
use mathlib.Core.Bool.{Bool, true, false}
use mathlib.Core.List.{List, [], ◌∷◌, ◌++◌}
use Prim.Native.Nat.{ℕ, zero, suc, ◌+◌, ◌-◌, ◌*◌, ◌/◌, ◌%◌, ◌^◌, ◌≤◌, ◌<◌}
use native.Mathlib.Numerals.{add-one, sub-one}
use native.Mathlib.Omega.{arith}
use Rattle.std.proofs.Common.{pow-suc}
use lib.Dec.{eqb}
use lib.ListN.{length, take, drop, get_or, length-append, drop_of_length-le}
use lib.Seq.{drop-cons, length-take-le, get_or-take}
use borrow.Author.Tests.{eqb-true, eqb-false}
use mir.Val.{bool_byte}
use Rattle.loops.specs.Pick.{either}
use Rattle.marks.specs.Marks.{has, count_of, marks_of}
use Rattle.marks.specs.Laws.{has_half, has_low}
use Rattle.texts.specs.Decimal.{decimal, length_small, length_step, dec_ind, decimal_le}
use Rattle.texts.specs.Readers.{bool_text, items_text, list_text}
use Rattle.packets.specs.Packets.{bitmap_text}
use Rattle.packets.specs.Writing.{bitmap_len}
use Rattle.packets.specs.declared.Bitmap.{Bitmap}

-- ---- the entries of a bitmap
pub marks_none : (m n : ℕ) → n ≤ 0 → items_text bool_text (marks_of m n) ≡ 93 ∷ []
unfolding items_text marks_of
marks_none m zero h = refl
marks_none m (suc n) h = absurd (omega arith)

pub marks_more : (m n : ℕ) → 0 < n → items_text bool_text (marks_of m n) ≡ (44 ∷ []) ++ (bool_text (eqb (m % 2) 1) ++ items_text bool_text (marks_of (m / 2) (n - 1)))
unfolding items_text marks_of
marks_more m zero h = absurd (omega arith)
marks_more m (suc n) h = rw sub-one

-- the next of n, of which so many are done
pub marks_next : (m n done : ℕ) → done < n
    → items_text bool_text (marks_of m (n - done)) ≡ (44 ∷ []) ++ (bool_text (eqb (m % 2) 1) ++ items_text bool_text (marks_of (m / 2) (n - (done + 1))))
marks_next m n done h =
    let k : n - done - 1 ≡ n - (done + 1) = omega arith in
    rw (← k) (marks_more m (n - done) (omega arith))

pub bitmap_none : (b : Bitmap) → b.len ≡ 0 → bitmap_text b ≡ 91 ∷ 93 ∷ []
unfolding bitmap_text list_text marks_of
bitmap_none b h = rw h

pub bitmap_more : (b : Bitmap) → (b.len ≡ 0 → ⊥)
    → bitmap_text b ≡ (91 ∷ []) ++ (bool_text (eqb (b.marks % 2) 1) ++ items_text bool_text (marks_of (b.marks / 2) (b.len - 1)))
unfolding bitmap_text list_text marks_of
bitmap_more b h = go b.len h
  where
    go : (n : ℕ) → (n ≡ 0 → ⊥) → list_text bool_text (marks_of b.marks n) ≡ (91 ∷ []) ++ (bool_text (eqb (b.marks % 2) 1) ++ items_text bool_text (marks_of (b.marks / 2) (n - 1)))
    go zero h = absurd (h refl)
    go (suc n) h = rw sub-one

-- ---- bytes that are put as they are
pub src_none : (t : List ℕ) (i : ℕ) → length t ≤ i → drop i t ≡ []
src_none t i h = drop_of_length-le t {i = i} h

pub src_more : (t : List ℕ) (i : ℕ) → i < length t → drop i t ≡ (get_or t i 0 ∷ []) ++ drop (i + 1) t
src_more t i h = rw (add-one, drop-cons t i 0 h)

-- ---- the bytes of data
pub rest_none : (d : List ℕ) (i : ℕ) → length d ≤ i → items_text decimal (drop i d) ≡ 93 ∷ []
unfolding items_text
rest_none d i h = rw (drop_of_length-le d {i = i} h)

pub rest_more : (d : List ℕ) (i : ℕ) → i < length d
    → items_text decimal (drop i d) ≡ (44 ∷ []) ++ (decimal (get_or d i 0) ++ items_text decimal (drop (i + 1) d))
unfolding items_text
rest_more d i h = rw (add-one, drop-cons d i 0 h)

pub bytes_none : (d : List ℕ) (n i : ℕ) → n ≤ length d → n ≤ i → items_text decimal (drop i (take n d)) ≡ 93 ∷ []
unfolding items_text
bytes_none d n i h k = rw (drop_of_length-le (take n d) {i = i} (omega (arith, length-take-le n d h)))

pub bytes_more : (d : List ℕ) (n i : ℕ) → n ≤ length d → i < n
    → items_text decimal (drop i (take n d)) ≡ (44 ∷ []) ++ (decimal (get_or d i 0) ++ items_text decimal (drop (i + 1) (take n d)))
unfolding items_text
bytes_more d n i h k = rw (add-one, drop-cons (take n d) i 0 (omega (arith, length-take-le n d h)), get_or-take n d i 0 k)

pub list_empty : (d : List ℕ) → length d ≡ 0 → list_text decimal d ≡ 91 ∷ 93 ∷ []
unfolding list_text
list_empty [] h = refl
list_empty (x ∷ r) h = absurd (omega arith)

pub list_item : (d : List ℕ) (x : ℕ) (r : List ℕ) → d ≡ x ∷ r → list_text decimal d ≡ (91 ∷ []) ++ (decimal x ++ items_text decimal r)
unfolding list_text
list_item d x r h = rw h

pub list_none : (d : List ℕ) (n : ℕ) → n ≡ 0 → list_text decimal (take n d) ≡ 91 ∷ 93 ∷ []
unfolding list_text
list_none d n h = rw h

pub list_more : (d : List ℕ) (n : ℕ) → (n ≡ 0 → ⊥) → n ≤ length d
    → list_text decimal (take n d) ≡ (91 ∷ []) ++ (decimal (get_or d 0 0) ++ items_text decimal (drop 1 (take n d)))
unfolding list_text
list_more d n h k = go (take n d) (drop-cons (take n d) 0 0 (omega (arith, length-take-le n d k))) (get_or-take n d 0 0 (omega arith))
  where
    go : (l : List ℕ) → l ≡ get_or l 0 0 ∷ drop 1 l → get_or l 0 0 ≡ get_or d 0 0 → list_text decimal l ≡ (91 ∷ []) ++ (decimal (get_or d 0 0) ++ items_text decimal (drop 1 l))
    go [] e f = let z : ◌≡◌ {A = ℕ} 0 1 = ap length e in absurd (omega arith)
    go (x ∷ r) e f = rw f

-- ---- how long they are
-- one more entry stands behind the others
marks_last : (n m : ℕ) → marks_of m (suc n) ≡ marks_of m n ++ (has m n ∷ [])
unfolding marks_of
marks_last zero m = ap (λ (b : Bool). b ∷ []) (sym (has_low m))
marks_last (suc n) m = rw (marks_last n (m / 2), has_half m n)

items_last : (bs : List Bool) (b : Bool)
    → length (items_text bool_text (bs ++ (b ∷ []))) ≡ length (items_text bool_text bs) + 1 + length (bool_text b)
unfolding items_text
items_last [] b = omega (arith, length-append (bool_text b) (93 ∷ []))
items_last (x ∷ r) b = simp length-append (omega (arith, items_last r b))

entry_len : (b : Bool) → length (bool_text b) + bool_byte b ≡ 5
entry_len true = refl
entry_len false = refl

-- each entry and its comma have 6 bytes, but for one less where it is true; and the bracket
pub marks_len : (m n : ℕ) → length (items_text bool_text (marks_of m n)) + count_of m n ≡ 6 * n + 1
unfolding count_of
marks_len m zero = omega (arith, ap length (marks_none m 0 (omega arith)))
marks_len m (suc n) =
    rw (marks_last n m) (omega (arith, items_last (marks_of m n) (has m n), entry_len (has m n), marks_len m n))

pub marks_len_le : (n m : ℕ) → length (items_text bool_text (marks_of m n)) ≤ 6 * n + 1
marks_len_le n m = omega (arith, marks_len m n)

pub bitmap_len_none : (b : Bitmap) → b.len ≡ 0 → length (bitmap_text b) ≡ 2
bitmap_len_none b h = ap length (bitmap_none b h)

-- the opening bracket takes the place of the first comma
pub bitmap_len_more : (b : Bitmap) → (b.len ≡ 0 → ⊥) → length (bitmap_text b) ≡ length (items_text bool_text (marks_of b.marks b.len))
bitmap_len_more b h = ap length (bitmap_more b h) ∙ sym (ap length (marks_more b.marks b.len (omega arith)))

pub bitmap_len_is : (b : Bitmap) → length (bitmap_text b) ≡ bitmap_len b
unfolding bitmap_len
bitmap_len_is b = go (eqb b.len 0) refl
  where
    go : (t : Bool) → eqb b.len 0 ≡ t → length (bitmap_text b) ≡ either t 2 (1 + 6 * b.len - count_of b.marks b.len)
    go true e = bitmap_len_none b (eqb-true b.len 0 e)
    go false e = omega (arith, bitmap_len_more b (eqb-false b.len 0 e), marks_len b.marks b.len)

pub bitmap_len_le : (b : Bitmap) → length (bitmap_text b) ≤ 6 * b.len + 2
bitmap_len_le b = go (eqb b.len 0) refl
  where
    go : (t : Bool) → eqb b.len 0 ≡ t → length (bitmap_text b) ≤ 6 * b.len + 2
    go true e = omega (arith, bitmap_len_none b (eqb-true b.len 0 e))
    go false e = omega (arith, bitmap_len_more b (eqb-false b.len 0 e), marks_len_le b.len b.marks)

pub bytes_len_none : (d : List ℕ) (n i : ℕ) → n ≤ length d → n ≤ i → length (items_text decimal (drop i (take n d))) ≡ 1
bytes_len_none d n i h k = ap length (bytes_none d n i h k)

pub bytes_len_more : (d : List ℕ) (n i : ℕ) → n ≤ length d → i < n
    → length (items_text decimal (drop i (take n d))) ≡ 1 + length (decimal (get_or d i 0)) + length (items_text decimal (drop (i + 1) (take n d)))
bytes_len_more d n i h k =
    omega (arith, ap length (bytes_more d n i h k), length-append (decimal (get_or d i 0)) (items_text decimal (drop (i + 1) (take n d))))

pub list_len_none : (d : List ℕ) (n : ℕ) → n ≡ 0 → length (list_text decimal (take n d)) ≡ 2
list_len_none d n h = ap length (list_none d n h)

pub list_len_more : (d : List ℕ) (n : ℕ) → (n ≡ 0 → ⊥) → n ≤ length d → length (list_text decimal (take n d)) ≡ length (items_text decimal (take n d))
list_len_more d n h k = ap length (list_more d n h k) ∙ sym (ap length (bytes_more d n 0 k (omega arith)))

-- ---- how many digits a number has
ten_pos : (k : ℕ) → 0 < 10 ^ k
ten_pos zero = omega arith
ten_pos (suc k) = omega (arith, pow-suc 10 k, ten_pos k)

pub digits_from : (n k : ℕ) → 10 ^ k ≤ n → k + 1 ≤ length (decimal n)
digits_from =
    dec_ind (λ n. (k : ℕ) → 10 ^ k ≤ n → k + 1 ≤ length (decimal n))
    one
    more
  where
    one : (n : ℕ) → n < 10 → (k : ℕ) → 10 ^ k ≤ n → k + 1 ≤ length (decimal n)
    one n h zero b = omega (arith, length_small n h)
    one n h (suc k) b = absurd (omega (arith, pow-suc 10 k, ten_pos k))

    more : (n : ℕ) → 10 ≤ n → ((k : ℕ) → 10 ^ k ≤ n / 10 → k + 1 ≤ length (decimal (n / 10))) → (k : ℕ) → 10 ^ k ≤ n → k + 1 ≤ length (decimal n)
    more n h ih zero b = omega (arith, length_step n h)
    more n h ih (suc k) b = omega (arith, length_step n h, ih k (omega (arith, pow-suc 10 k)))

pub digits_are : (n k : ℕ) → 10 ^ k ≤ n → n < 10 * 10 ^ k → length (decimal n) ≡ k + 1
digits_are n k a b = omega (arith, digits_from n k a, decimal_le n k (omega (arith, pow-suc 10 k)))
