-- A loop that takes the lowest mark away at each turn goes over the marks of a set in rising order; and two sets by their marks.
-- Assumes nothing.
use Rattle.std.proofs.Common.{◌≡◌, ℕ, zero, suc, ◌^◌, ◌<◌, ◌≤◌, Bool, true, false, not, ◌&&◌, ◌||◌, eqb, ltb, sym, refl, ap, ◌∙◌, arith, ltb-false, eq-eqb, eqb-true}
use borrow.Author.Tests.{eqb-false}
use Rattle.loops.specs.Pick.{either}
use Rattle.loops.specs.Upto.{upto, upto_holds}
use Rattle.marks.specs.Marks.{has, count_of, Lowest}
use Rattle.marks.specs.Laws.{has_none, has_out}
use Rattle.marks.specs.Sets.{and_true, lowest_lt, count_grows, marks_is}
pub use Rattle.marks.specs.Marks.{Without}
pub use Rattle.marks.specs.Sets.{without}
use Rattle.engines.specs.Marked.{over_marks, with_mark}

gone : (a b : Bool) → b ≡ true → (a && not b) ≡ false
gone true b e = rw e
gone false b e = refl

kept : (a b : Bool) → b ≡ false → (a && not b) ≡ a
kept true b e = rw e
kept false b e = refl

absent' : {m r m' : ℕ} → Without m r m' → (j : ℕ) → j < r → has m' j ≡ false
absent' {r = r} w j h = w.rest j ∙ ap (λ (t : Bool). t && not (eqb j r)) (w.absent j h)

gone' : {m r m' : ℕ} → Without m r m' → has m' r ≡ false
gone' {m} {r} w = w.rest r ∙ gone (has m r) (eqb r r) (eq-eqb r r refl)

-- fewer marks are left
pub over_less : {m r m' : ℕ} → Without m r m' → count_of m' 64 < count_of m 64
over_less {m} {r} {m'} w = count_grows m' m 64 r w.low (gone' w) w.there (λ j l q. (and_true (has m j) (not (eqb j r)) (sym (w.rest j) ∙ q)).0)

module _ {S : Type 0} (f : ℕ → S → S) where
  abbrev turn : ℕ → ℕ → S → S
  turn m i t = either (has m i) (f i t) t

  -- turns at no mark do nothing
  idle : (m n : ℕ) (t : S) → ((j : ℕ) → j < n → has m j ≡ false) → upto n (turn m) t ≡ t
  unfolding upto
  idle m zero t h = refl
  idle m (suc n) t h = rw (h n (omega arith)) (idle m n t (λ j l. h j (omega arith)))

  at_lowest : {m r m' : ℕ} (t : S) → Without m r m' → turn m r (upto r (turn m) t) ≡ turn m' r (upto r (turn m') (f r t))
  at_lowest {m} {r} {m'} t w = rw (idle m r t w.absent, idle m' r (f r t) (absent' w), w.there, gone' w)

  shift : {m r m' : ℕ} (n : ℕ) (t : S) → r < n → Without m r m' → upto n (turn m) t ≡ upto n (turn m') (f r t)
  unfolding upto
  shift zero t h w = absurd (omega arith)
  shift {m} {r} {m'} (suc n) t h w = go (eqb n r) refl (λ l. shift n t l w)
    where
      go : (b : Bool) → eqb n r ≡ b → (r < n → upto n (turn m) t ≡ upto n (turn m') (f r t)) → turn m n (upto n (turn m) t) ≡ turn m' n (upto n (turn m') (f r t))
      go true p ih = rw (eqb-true n r p) (at_lowest t w)
      go false p ih =
          let same : has m' n ≡ has m n = w.rest n ∙ kept (has m n) (eqb n r) p in
          rw (ih (below (eqb-false n r p)), same)
        where
          below : (n ≡ r → ⊥) → r < n
          below q = omega arith

  -- a turn: what is left to do after it is what was left before it
  pub over_turn : {m r m' : ℕ} {t u v : S} → Without m r m' → u ≡ f r t → over_marks m f t ≡ v → over_marks m' f u ≡ v
  unfolding over_marks
  over_turn {m} {r} {m'} {t} w e g = rw e (sym (shift 64 t w.low w) ∙ g)

  pub over_none : {m : ℕ} {t v : S} → m ≡ 0 → over_marks m f t ≡ v → t ≡ v
  unfolding over_marks
  over_none {m} {t} e g = sym (idle m 64 t (λ j l. ap (λ (x : ℕ). has x j) e ∙ has_none j)) ∙ g

  -- turns that change nothing
  pub over_fixed : (m : ℕ) (t : S) → ((i : ℕ) → i < 64 → has m i ≡ true → f i t ≡ t) → over_marks m f t ≡ t
  unfolding over_marks
  over_fixed m t same = upto_holds (λ (u : S). u ≡ t) (turn m) 64 (λ i u l e. by i (has m i) refl u l e) t refl
    where
      by : (i : ℕ) (b : Bool) → has m i ≡ b → (u : S) → i < 64 → u ≡ t → either b (f i u) u ≡ t
      by i true h u l e = ap (f i) e ∙ same i l h
      by i false h u l e = e

-- sets by their marks
pub with_is : (m i r : ℕ) → m < 2 ^ 64 → r < 2 ^ 64 → ((j : ℕ) → has r j ≡ (has m j || (ltb j 64 && eqb j i))) → r ≡ with_mark m i
unfolding with_mark
with_is m i r h g e = marks_is 64 (λ j. has m j || eqb j i) r (omega arith) g (λ j. e j ∙ by j (ltb j 64) refl)
  where
    by : (j : ℕ) (t : Bool) → ltb j 64 ≡ t → (has m j || (t && eqb j i)) ≡ (t && (has m j || eqb j i))
    by j true p = refl
    by j false p = rw (has_out 64 m j h (ltb-false j 64 p))

-- a set with a lowest mark has marks
pub some_marks : (m r : ℕ) → m < 2 ^ 64 → (m ≡ 0 → ⊥) → Lowest m r → 0 < count_of m 64
some_marks m r h ne l =
    let low : r < 64 = lowest_lt m r h ne l in
    let more : count_of 0 64 < count_of m 64 = count_grows 0 m 64 r low (has_none r) (l.there low) (λ j k q. absurd (no (sym (has_none j) ∙ q))) in
    omega arith
  where
    no : false ≡ true → ⊥
    no e = let z : ◌≡◌ {A = ℕ} 0 1 = cc in omega arith

-- ---- a loop seen through a projection

-- where each turn, seen through g, is a turn of h, the loop is a loop of h
pub over_through : {S T : Type 0} (g : S → T) (f : ℕ → S → S) (h : ℕ → T → T) → ((i : ℕ) → i < 64 → (s : S) → g (f i s) ≡ h i (g s)) → (m : ℕ) (s : S) → g (over_marks m f s) ≡ over_marks m h (g s)
unfolding over_marks upto
over_through {S} {T} g f h e m s = go 64 (omega arith)
  where
    one : (i : ℕ) → i < 64 → (b : Bool) (t : S) → g (either b (f i t) t) ≡ either b (h i (g t)) (g t)
    one i l true t = e i l t
    one i l false t = refl

    go : (n : ℕ) → n ≤ 64 → g (upto n (λ i t. either (has m i) (f i t) t) s) ≡ upto n (λ i t. either (has m i) (h i t) t) (g s)
    go zero l = refl
    go (suc n) l =
        one n (omega arith) (has m n) (upto n (λ i t. either (has m i) (f i t) t) s) ∙ ap (λ (t : T). either (has m n) (h n t) t) (go n (omega arith))

-- where no turn, seen through g, changes anything, the loop does not
pub over_keeps : {S T : Type 0} (g : S → T) (f : ℕ → S → S) → ((i : ℕ) → i < 64 → (s : S) → g (f i s) ≡ g s) → (m : ℕ) (s : S) → g (over_marks m f s) ≡ g s
over_keeps g f e m s = over_through g f (λ i t. t) e m s ∙ over_fixed (λ i t. t) m (g s) (λ i l q. refl)
