-- The words that the code makes have the marks that the rules say.
-- Assumes nothing.
use Rattle.std.proofs.Common.{◌≡◌, ℕ, ◌^◌, ◌<◌, Bool, true, false, not, ◌&&◌, ◌||◌, eqb, ltb, sym, refl, ap, ◌∙◌, arith, lt-ltb, eqb-true}
use borrow.Author.Tests.{eqb-false}
use Rattle.marks.specs.Marks.{has, marks, any_of}
use Rattle.marks.specs.Laws.{has_none}
use Rattle.marks.specs.Sets.{marks_is, marks_ext, has_marks, any_at, any_found, none_zero}
use Rattle.merges.specs.Merging.{entry}
use Rattle.packets.specs.declared.Bitmap.{Bitmap}

pub and_false : (t : Bool) → (t && false) ≡ false
and_false true = refl
and_false false = refl

-- mark j of the word of a test, below 64
pub has_word : (f : ℕ → Bool) (j : ℕ) → j < 64 → has (marks 64 f) j ≡ f j
has_word f j h = has_marks 64 f j ∙ ap (λ (t : Bool). t && f j) (lt-ltb j 64 h)

-- the marks of m below len
pub first_is : (m len f r : ℕ) → r < 2 ^ 64 → ((j : ℕ) → has f j ≡ (ltb j len && ltb j 64)) → ((j : ℕ) → has r j ≡ (has m j && has f j))
    → r ≡ marks 64 (λ j. ltb j len && has m j)
first_is m len f r h e g = marks_is 64 (λ j. ltb j len && has m j) r (omega arith) h (λ j. g j ∙ ap (λ (t : Bool). has m j && t) (e j) ∙ turned (has m j) (ltb j len) (ltb j 64))
  where
    turned : (a b c : Bool) → (a && (b && c)) ≡ (c && (b && a))
    turned true true true = refl
    turned true true false = refl
    turned true false true = refl
    turned true false false = refl
    turned false true true = refl
    turned false true false = refl
    turned false false true = refl
    turned false false false = refl

pub marked_is : (m len v w : ℕ) → ((j : ℕ) → has w j ≡ (has m j || (ltb j 64 && eqb j v)))
    → marks 64 (λ j. ltb j len && has w j) ≡ marks 64 (λ j. ltb j len && (has m j || eqb j v))
marked_is m len v w e =
    marks_ext 64 (λ j. ltb j len && has w j) (λ j. ltb j len && (has m j || eqb j v))
    (λ j l. ap (λ (t : Bool). ltb j len && t) (e j ∙ ap (λ (t : Bool). has m j || (t && eqb j v)) (lt-ltb j 64 l)))

pub only_is : (n v w : ℕ) → ((j : ℕ) → has w j ≡ (has 0 j || (ltb j 64 && eqb j v)))
    → marks 64 (λ j. ltb j n && has w j) ≡ marks 64 (λ j. ltb j n && eqb j v)
only_is n v w e =
    marked_is 0 n v w e ∙ marks_ext 64 (λ j. ltb j n && (has 0 j || eqb j v)) (λ j. ltb j n && eqb j v) (λ j l. ap (λ (t : Bool). ltb j n && (t || eqb j v)) (has_none j))

pub offered_is : (n : ℕ) (b : Bitmap) (w : ℕ) → w ≡ marks 64 (λ j. ltb j b.len && has b.marks j)
    → marks 64 (λ j. ltb j n && has w j) ≡ marks 64 (λ j. ltb j n && entry b j)
offered_is n b w e =
    marks_ext 64 (λ j. ltb j n && has w j) (λ j. ltb j n && entry b j)
    (λ j l. ap (λ (t : Bool). ltb j n && t) (ap (λ (x : ℕ). has x j) e ∙ has_word (entry b) j l))

pub joined_is : (n : ℕ) (a b : Bitmap) (o u : ℕ) → o ≡ marks 64 (λ j. ltb j n && entry b j) → ((j : ℕ) → has u j ≡ (has a.marks j || has o j))
    → marks 64 (λ j. ltb j a.len && has u j) ≡ marks 64 (λ j. ltb j a.len && (has a.marks j || (ltb j n && entry b j)))
joined_is n a b o u e g =
    marks_ext 64 (λ j. ltb j a.len && has u j) (λ j. ltb j a.len && (has a.marks j || (ltb j n && entry b j)))
    (λ j l. ap (λ (t : Bool). ltb j a.len && t)
    (g j ∙ ap (λ (t : Bool). has a.marks j || t) (ap (λ (x : ℕ). has x j) e ∙ has_word (λ i. ltb i n && entry b i) j l)))

-- a word is not 0 just if the test that it stands for holds somewhere
pub any_word : (f : ℕ → Bool) (d : ℕ) → d < 2 ^ 64 → ((j : ℕ) → j < 64 → has d j ≡ f j) → not (eqb d 0) ≡ any_of 64 f
any_word f d h e = go (eqb d 0) refl
  where
    none : d ≡ 0 → (t : Bool) → any_of 64 f ≡ t → false ≡ t
    none z true p =
        let r = any_found 64 f p in
        sym (has_none r.0) ∙ sym (ap (λ (x : ℕ). has x r.0) z) ∙ e r.0 r.1 ∙ r.2
    none z false p = refl

    some : (d ≡ 0 → ⊥) → (t : Bool) → any_of 64 f ≡ t → true ≡ t
    some z true p = refl
    some z false p = absurd (z (none_zero d h (λ j l. e j l ∙ absent j l (f j) refl)))
      where
        absent : (j : ℕ) → j < 64 → (t : Bool) → f j ≡ t → t ≡ false
        absent j l true q = sym (any_at 64 f j l q) ∙ p
        absent j l false q = refl

    go : (t : Bool) → eqb d 0 ≡ t → not t ≡ any_of 64 f
    go true p = none (eqb-true d 0 p) (any_of 64 f) refl
    go false p = some (eqb-false d 0 p) (any_of 64 f) refl

pub news_is : (n : ℕ) (a b : Bitmap) (o w d : ℕ) → d < 2 ^ 64 → o ≡ marks 64 (λ j. ltb j n && entry b j) → w ≡ marks 64 (λ j. ltb j a.len && has o j)
    → ((j : ℕ) → has d j ≡ (has w j && not (has a.marks j)))
    → not (eqb d 0) ≡ any_of 64 (λ j. (ltb j a.len && (ltb j n && entry b j)) && not (has a.marks j))
news_is n a b o w d h e g k =
    any_word (λ j. (ltb j a.len && (ltb j n && entry b j)) && not (has a.marks j)) d h
    (λ j l. k j ∙ ap (λ (t : Bool). t && not (has a.marks j))
    (ap (λ (x : ℕ). has x j) g ∙ has_word (λ i. ltb i a.len && has o i) j l
    ∙ ap (λ (t : Bool). ltb j a.len && t) (ap (λ (x : ℕ). has x j) e ∙ has_word (λ i. ltb i n && entry b i) j l)))
