-- THE LAW: a loop whose turn i changes place i alone, told by its places. `Local d step g` says that of a step; loops over all positions and
-- loops over the marks of a set are two of its instances. Assumes nothing.
use Rattle.std.proofs.Common.{◌≡◌, ℕ, zero, suc, ◌<◌, ◌≤◌, Bool, true, false, eqb, ltb, List, ◌++◌, length, take, drop, get_or, set, sym, refl, ap, ◌∙◌, arith, length-set, length-take-le, take-append-drop, get_or-set_other, get_or-set_same, ext_get_or, ltb-false, ltb-true, eqb-true}
use borrow.Author.Tests.{eqb-false}
use Rattle.std.proofs.lemmas.List.{get_or_append_left, set-append_left}
use Rattle.loops.specs.Pick.{either}
use Rattle.loops.specs.Upto.{upto, upto_keeps}
use Rattle.marks.specs.Marks.{has}
use Rattle.engines.specs.Marked.{over_marks, place}

-- step i puts g i of what stands at place i there, and touches nothing else
pub record Local {A : Type 0} (d : A) (step : ℕ → List A → List A) (g : ℕ → A → A) : Type 0 where
  pub long : (i : ℕ) (l : List A) → length (step i l) ≡ length l
  pub own : (i : ℕ) (l : List A) → i < length l → get_or (step i l) i d ≡ g i (get_or l i d)
  pub other : (i : ℕ) (l : List A) (j : ℕ) → (j ≡ i → ⊥) → get_or (step i l) j d ≡ get_or l j d

pub place_local : {A : Type 0} (d : A) (f : ℕ → A → A) → Local d (place d f) f
place_local d f =
    record {
      long = λ i l. length-set l i (f i (get_or l i d));
      own = λ i l h. get_or-set_same l i (f i (get_or l i d)) d h;
      other = λ i l j n. get_or-set_other l i j (f i (get_or l i d)) d n;
    }

-- a loop over the front of a list
module _ {A : Type 0} (d : A) (f : ℕ → A → A) where
  front_turns : (xs ys : List A) (n : ℕ) → n ≤ length xs → upto n (place d f) (xs ++ ys) ≡ upto n (place d f) xs ++ ys
  unfolding upto
  front_turns xs ys zero b = refl
  front_turns xs ys (suc n) b =
      let t : List A = upto n (place d f) xs in
      let long : n < length t = omega (arith, upto_keeps length (place d f) xs n (λ i l. length-set l i (f i (get_or l i d)))) in
      rw (front_turns xs ys n (omega arith), get_or_append_left t ys d n long, set-append_left t ys n (f n (get_or t n d)) long)

  pub front_all : (l : List A) (n : ℕ) → n ≤ length l → upto n (place d f) (take n l) ++ drop n l ≡ upto n (place d f) l
  front_all l n b =
      sym (front_turns (take n l) (drop n l) n (omega (arith, length-take-le n l b)))
      ∙ ap (upto n (place d f)) (take-append-drop n l)

-- a step that is taken at the marks of a set alone
pub marked_local : {A : Type 0} (d : A) (step : ℕ → List A → List A) (g : ℕ → A → A) (m : ℕ) → Local d step g → Local d (λ i l. either (has m i) (step i l) l) (λ i x. either (has m i) (g i x) x)
marked_local {A} d step g m o =
    record {
      long = λ i l. long (has m i) i l;
      own = λ i l h. own (has m i) i l h;
      other = λ i l j n. other (has m i) i l j n;
    }
  where
    long : (b : Bool) (i : ℕ) (l : List A) → length (either b (step i l) l) ≡ length l
    long true i l = o.long i l
    long false i l = refl

    own : (b : Bool) (i : ℕ) (l : List A) → i < length l → get_or (either b (step i l) l) i d ≡ either b (g i (get_or l i d)) (get_or l i d)
    own true i l h = o.own i l h
    own false i l h = refl

    other : (b : Bool) (i : ℕ) (l : List A) (j : ℕ) → (j ≡ i → ⊥) → get_or (either b (step i l) l) j d ≡ get_or l j d
    other true i l j n = o.other i l j n
    other false i l j n = refl

module _ {A : Type 0} (d : A) (step : ℕ → List A → List A) (g : ℕ → A → A) (o : Local d step g) where
  pub local_length : (l : List A) (n : ℕ) → length (upto n step l) ≡ length l
  local_length l n = upto_keeps length step l n o.long

  -- a place that the loop does not reach
  pub local_later : (l : List A) (n j : ℕ) → n ≤ j → get_or (upto n step l) j d ≡ get_or l j d
  unfolding upto
  local_later l zero j h = refl
  local_later l (suc n) j h = o.other n (upto n step l) j (λ e. omega arith) ∙ local_later l n j (omega arith)

  -- a place behind the loop
  pub local_get : (l : List A) (n j : ℕ) → n ≤ length l → j < n → get_or (upto n step l) j d ≡ g j (get_or l j d)
  unfolding upto
  local_get l zero j h b = absurd (omega arith)
  local_get l (suc n) j h b = by (eqb j n) refl (λ k. local_get l n j (omega arith) k)
    where
      by : (t : Bool) → eqb j n ≡ t → (j < n → get_or (upto n step l) j d ≡ g j (get_or l j d)) → get_or (step n (upto n step l)) j d ≡ g j (get_or l j d)
      by true e ih =
          rw (eqb-true j n e) (o.own n (upto n step l) (omega (arith, local_length l n)) ∙ ap (g n) (local_later l n n (omega arith)))
      by false e ih = o.other n (upto n step l) j (eqb-false j n e) ∙ ih (omega (arith, eqb-false j n e))

-- two loops that do the same to each place make the same list
pub local_same : {A : Type 0} (d : A) (a b : ℕ → List A → List A) (f g : ℕ → A → A) → Local d a f → Local d b g → (l : List A) (n : ℕ) → n ≤ length l → ((i : ℕ) → i < n → f i (get_or l i d) ≡ g i (get_or l i d)) → upto n a l ≡ upto n b l
local_same d a b f g p q l n h e =
    ext_get_or d (upto n a l) (upto n b l) (local_length d a f p l n ∙ sym (local_length d b g q l n)) (λ i k. by i (ltb i n) refl)
  where
    by : (i : ℕ) (t : Bool) → ltb i n ≡ t → get_or (upto n a l) i d ≡ get_or (upto n b l) i d
    by i true s = local_get d a f p l n i h (ltb-true i n s) ∙ e i (ltb-true i n s) ∙ sym (local_get d b g q l n i h (ltb-true i n s))
    by i false s = local_later d a f p l n i (ltb-false i n s) ∙ sym (local_later d b g q l n i (ltb-false i n s))

-- a loop that changes no place that is there
pub local_fixed : {A : Type 0} (d : A) (a : ℕ → List A → List A) (f : ℕ → A → A) → Local d a f → (l : List A) (n : ℕ) → n ≤ length l → ((i : ℕ) → i < n → f i (get_or l i d) ≡ get_or l i d) → upto n a l ≡ l
local_fixed d a f p l n h e = ext_get_or d (upto n a l) l (local_length d a f p l n) (λ i k. by i (ltb i n) refl)
  where
    by : (i : ℕ) (t : Bool) → ltb i n ≡ t → get_or (upto n a l) i d ≡ get_or l i d
    by i true s = local_get d a f p l n i h (ltb-true i n s) ∙ e i (ltb-true i n s)
    by i false s = local_later d a f p l n i (ltb-false i n s)

-- one loop behind another is the loop of both
pub local_twice : {A : Type 0} (d : A) (a b c : ℕ → List A → List A) (f g h : ℕ → A → A) → Local d a f → Local d b g → Local d c h → (l : List A) (n : ℕ) → n ≤ length l → ((i : ℕ) → i < n → h i (get_or l i d) ≡ g i (f i (get_or l i d))) → upto n c l ≡ upto n b (upto n a l)
local_twice {A} d a b c f g h p q r l n k e =
    ext_get_or d (upto n c l) (upto n b m) (local_length d c h r l n ∙ sym (local_length d b g q m n ∙ local_length d a f p l n)) (λ i w. by i (ltb i n) refl)
  where
    m : List A
    m = upto n a l

    by : (i : ℕ) (t : Bool) → ltb i n ≡ t → get_or (upto n c l) i d ≡ get_or (upto n b m) i d
    by i true s =
        local_get d c h r l n i k (ltb-true i n s)
        ∙ e i (ltb-true i n s)
        ∙ sym (local_get d b g q m n i (omega (arith, local_length d a f p l n)) (ltb-true i n s) ∙ ap (g i) (local_get d a f p l n i k (ltb-true i n s)))
    by i false s =
        local_later d c h r l n i (ltb-false i n s)
        ∙ sym (local_later d b g q m n i (ltb-false i n s) ∙ local_later d a f p l n i (ltb-false i n s))

-- THE LAW for the marks of a set: a place changes just if the set has its mark
pub over_get : {A : Type 0} (d : A) (f : ℕ → A → A) (m : ℕ) (l : List A) (j : ℕ) → length l ≡ 64 → j < 64 → get_or (over_marks m (place d f) l) j d ≡ either (has m j) (f j (get_or l j d)) (get_or l j d)
unfolding over_marks
over_get d f m l j h b = local_get d _ _ (marked_local d (place d f) f m (place_local d f)) l 64 j (omega arith) b

pub over_length : {A : Type 0} (d : A) (f : ℕ → A → A) (m : ℕ) (l : List A) → length (over_marks m (place d f) l) ≡ length l
unfolding over_marks
over_length d f m l = local_length d _ _ (marked_local d (place d f) f m (place_local d f)) l 64

-- ---- a list that is put together place by place, from one that is as long

module _ {A : Type 0} (d : A) (base : List A) (n : ℕ) (h : n ≤ length base) where
  abbrev pub viewed : (ℕ → A → A) → List A
  viewed f = upto n (place d f) base

  pub view_length : (f : ℕ → A → A) → length (viewed f) ≡ length base
  view_length f = local_length d _ _ (place_local d f) base n

  pub view_get : (f : ℕ → A → A) (i : ℕ) → i < n → get_or (viewed f) i d ≡ f i (get_or base i d)
  view_get f i b = local_get d _ _ (place_local d f) base n i h b

  pub view_later : (f : ℕ → A → A) (i : ℕ) → n ≤ i → get_or (viewed f) i d ≡ get_or base i d
  view_later f i b = local_later d _ _ (place_local d f) base n i b

  pub view_same : (f g : ℕ → A → A) → ((i : ℕ) → i < n → f i (get_or base i d) ≡ g i (get_or base i d)) → viewed f ≡ viewed g
  view_same f g e = local_same d _ _ _ _ (place_local d f) (place_local d g) base n h e

  -- a loop over what was put together is one that puts together
  pub view_step : (f g k : ℕ → A → A) → ((i : ℕ) → i < n → k i (get_or base i d) ≡ g i (f i (get_or base i d))) → viewed k ≡ upto n (place d g) (viewed f)
  view_step f g k e = local_twice d _ _ _ _ _ _ (place_local d f) (place_local d g) (place_local d k) base n h e

  -- one place is another
  pub view_put : (f g : ℕ → A → A) (i : ℕ) (p : A) → i < n → ((j : ℕ) → j < n → (j ≡ i → ⊥) → g j (get_or base j d) ≡ f j (get_or base j d)) → g i (get_or base i d) ≡ p → viewed g ≡ set (viewed f) i p
  view_put f g i p b same own =
      ext_get_or d (viewed g) (set (viewed f) i p) (view_length g ∙ sym (length-set (viewed f) i p ∙ view_length f)) (λ j l. at j (eqb j i) refl (ltb j n) refl)
    where
      at : (j : ℕ) (s : Bool) → eqb j i ≡ s → (t : Bool) → ltb j n ≡ t → get_or (viewed g) j d ≡ get_or (set (viewed f) i p) j d
      at j true q t r =
          rw (eqb-true j i q) (view_get g i b ∙ own ∙ sym (get_or-set_same (viewed f) i p d (omega (arith, view_length f))))
      at j false q true r =
          view_get g j (ltb-true j n r) ∙ same j (ltb-true j n r) (eqb-false j i q) ∙ sym (get_or-set_other (viewed f) i j p d (eqb-false j i q) ∙ view_get f j (ltb-true j n r))
      at j false q false r =
          view_later g j (ltb-false j n r) ∙ sym (get_or-set_other (viewed f) i j p d (eqb-false j i q) ∙ view_later f j (ltb-false j n r))
