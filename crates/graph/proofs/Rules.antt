-- What the builders' tests come to: differences for sums, and a quotient for a product that could wrap. Assumes nothing.
use mathlib.Core.Path.{◌≡◌, refl, sym, ap, ◌∙◌}
use mathlib.Core.Bool.{Bool, true, false, not, ◌||◌, ◌&&◌}
use mathlib.Core.List.{List, [], ◌∷◌, ◌++◌, append-nil}
use Prim.Native.Nat.{ℕ, suc, ◌+◌, ◌-◌, ◌*◌, ◌/◌, ◌≤◌, ◌<◌, ◌^◌}
use native.Mathlib.Nat.{le-div_iff_mul-le, div-lt_iff_lt-mul, div-eq_of_lt-le, suc-mul}
use native.Mathlib.Numerals.{add-one}
use native.Mathlib.Omega.{arith}
use lib.Dec.{eqb, ltb, leb}
use lib.ListN.{length, get_or, set, take, drop, replicate, length-append}
use borrow.Author.Tests.{eq-eqb, eqb-true, eqb-false, lt-ltb, le-ltb, ltb-true, le-leb, leb-true, lt-leb}
use Rattle.std.specs.Prelude.{Ok}
use Rattle.limits.specs.Refusals.{holds_or}
use Rattle.limits.proofs.Tests.{held, first_held, second_held}
use Rattle.limits.specs.declared.refusals.Refusal.TheVariants.{BadPositions, NoPosition}
use Rattle.loops.specs.Stores.{sets_append}
use Rattle.std.proofs.lemmas.List.{drop-replicate, get_or-take, length-take-le}
use Rattle.loops.specs.Table.{filled, tabulate_get}
use Rattle.marks.specs.Sets.{iff, and_true, true_and, all_at, all_found, none_zero, marks_is, members_more, members_count, count_le, all_there, all_short}
use Rattle.marks.specs.Marks.{has, marks, all_of, members}
use Rattle.marks.specs.Laws.{has_none}
use Rattle.graph.specs.declared.network.NetworkGraph.{NetworkGraph}
use Rattle.graph.specs.declared.network.NeighborList.{NeighborList}
use Rattle.graph.specs.Links.{is_size, tree_rule, grid_rule, next_rule, graph_by, inside, all_inside, list_of, size_test, position_test, graph_test, node_test}

pub eqb_iff : (a b c d : ℕ) → (a ≡ b → c ≡ d) → (c ≡ d → a ≡ b) → eqb a b ≡ eqb c d
eqb_iff a b c d f g = iff (eqb a b) (eqb c d) (λ e. eq-eqb c d (f (eqb-true a b e))) (λ e. eq-eqb a b (g (eqb-true c d e)))

pub apart_is : (i j d : ℕ) → i ≤ j → eqb (j - i) d ≡ eqb j (i + d)
apart_is i j d h = eqb_iff (j - i) d j (i + d) (λ e. omega arith) (λ e. omega arith)

-- a child by the quotient
pub tree_none : (i j : ℕ) → false ≡ tree_rule 0 i j
unfolding tree_rule
tree_none i j = go (ltb (i * 0) j) refl
  where
    go : (t : Bool) → ltb (i * 0) j ≡ t → false ≡ (t && leb j (i * 0 + 0))
    go true e = sym (lt-leb j (i * 0 + 0) (omega (arith, ltb-true (i * 0) j e)))
    go false e = refl

pub tree_root : (b i : ℕ) → false ≡ tree_rule b i 0
unfolding tree_rule
tree_root b i = sym (ap (λ (t : Bool). t && leb 0 (i * b + b)) (le-ltb (i * b) 0 (omega arith)))

pub tree_child : (b i j : ℕ) → 0 < b → 0 < j → eqb ((j - 1) / b) i ≡ tree_rule b i j
unfolding tree_rule
tree_child b i j hb hj = iff (eqb ((j - 1) / b) i) (ltb (i * b) j && leb j (i * b + b)) down up
  where
    down : eqb ((j - 1) / b) i ≡ true → (ltb (i * b) j && leb j (i * b + b)) ≡ true
    down e =
        let q : (j - 1) / b ≡ i = eqb-true ((j - 1) / b) i e in
        let low : i * b ≤ j - 1 = (le-div_iff_mul-le hb).0 (omega arith) in
        let high : j - 1 < suc i * b = (div-lt_iff_lt-mul hb).0 (omega arith) in
        true_and (ltb (i * b) j) (leb j (i * b + b)) (lt-ltb (i * b) j (omega arith)) (le-leb j (i * b + b) (omega (arith, suc-mul i b)))

    up : (ltb (i * b) j && leb j (i * b + b)) ≡ true → eqb ((j - 1) / b) i ≡ true
    up e =
        let p = and_true (ltb (i * b) j) (leb j (i * b + b)) e in
        let low : i * b < j = ltb-true (i * b) j p.0 in
        let high : j ≤ i * b + b = leb-true j (i * b + b) p.1 in
        let next : (i + 1) * b ≡ i * b + b = ap (λ (x : ℕ). x * b) (add-one i) ∙ suc-mul i b in
        eq-eqb ((j - 1) / b) i (div-eq_of_lt-le b (omega arith) (omega arith))

-- a grid's tests in the code's order
module _ (cols i j : ℕ) where
  pub grid_below : eqb j (i + cols) ≡ true → true ≡ grid_rule cols i j
  unfolding grid_rule
  grid_below e = rw e

  pub grid_zero : (r : Bool) → eqb j (i + cols) ≡ false → cols ≡ 0 → r ≡ eqb j (i + 1) → r ≡ grid_rule cols i j
  unfolding grid_rule next_rule
  grid_zero r e z g = g ∙ sym (rw (e, z, native.Mathlib.Nat.div-zero i, native.Mathlib.Nat.div-zero j) (by (eqb j (i + 1))))
    where
      by : (t : Bool) → (t && true) ≡ t
      by true = refl
      by false = refl

  pub grid_apart : eqb j (i + cols) ≡ false → eqb j (i + 1) ≡ false → false ≡ grid_rule cols i j
  unfolding grid_rule next_rule
  grid_apart e f = rw (e, f)

  pub grid_row : (r : Bool) → eqb j (i + cols) ≡ false → eqb j (i + 1) ≡ true → r ≡ eqb (i / cols) (j / cols) → r ≡ grid_rule cols i j
  unfolding grid_rule next_rule
  grid_row r e f g = rw (e, f) g

-- a graph whose rows were filled by a rule
pub graph_filled : (n : ℕ) (link : ℕ → ℕ → Bool) {l : List ℕ} → l ≡ filled 0 64 n (λ i. marks n (link i)) → record { n = n; adj = l } ≡ graph_by n link
unfolding graph_by
graph_filled n link e = rw e

-- Every mark of a row is below n just if nothing is left of it without the first n marks.
module _ (row n d : ℕ) (stray : (j : ℕ) → has d j ≡ (has row j && not (ltb j n && ltb j 64))) where
  pub inside_yes : d ≡ 0 → true ≡ inside n row
  unfolding inside
  inside_yes e = sym (all_found 64 (λ j. not (has row j) || ltb j n) (λ j l. by (has row j) (ltb j n) (ltb j 64) (lt-ltb j 64 l) (sym (stray j) ∙ ap (λ (x : ℕ). has x j) e ∙ has_none j)))
    where
      by : (a b c : Bool) → c ≡ true → (a && not (b && c)) ≡ false → (not a || b) ≡ true
      by true true c e f = refl
      by true false c e f = sym f
      by false b c e f = refl

  pub inside_no : d < 2 ^ 64 → (d ≡ 0 → ⊥) → false ≡ inside n row
  unfolding inside
  inside_no h ne = go (all_of 64 (λ j. not (has row j) || ltb j n)) refl
    where
      by : (a b c : Bool) → c ≡ true → (not a || b) ≡ true → (a && not (b && c)) ≡ false
      by true true c e f = ap not e
      by true false c e f = sym f
      by false b c e f = refl

      go : (t : Bool) → all_of 64 (λ j. not (has row j) || ltb j n) ≡ t → false ≡ t
      go true e = absurd (ne (none_zero d h (λ j l. stray j ∙ by (has row j) (ltb j n) (ltb j 64) (lt-ltb j 64 l) (all_at 64 (λ j. not (has row j) || ltb j n) e j l))))
      go false e = refl

  pub inside_is : d < 2 ^ 64 → eqb d 0 ≡ inside n row
  inside_is h = go (eqb d 0) refl
    where
      go : (t : Bool) → eqb d 0 ≡ t → t ≡ inside n row
      go true e = inside_yes (eqb-true d 0 e)
      go false e = inside_no h (eqb-false d 0 e)

-- Every one of the first n marks is there just if none is missing.
pub all_is : (m n d : ℕ) → ((j : ℕ) → has d j ≡ ((ltb j n && ltb j 64) && not (has m j))) → n ≤ 64 → d < 2 ^ 64 → eqb d 0 ≡ all_of n (λ j. has m j)
all_is m n d missing h l = go (eqb d 0) refl
  where
    go : (t : Bool) → eqb d 0 ≡ t → t ≡ all_of n (λ j. has m j)
    go true e = sym (all_there m n d missing h (eqb-true d 0 e))
    go false e = sym (all_short m n d missing l (eqb-false d 0 e))

-- a turn of the loop that lists the marks of m
pub list_more : (m j : ℕ) {l : NeighborList} → l ≡ list_of m j → has m j ≡ true → record { count = l.count + 1; at = set l.at l.count j } ≡ list_of m (j + 1)
unfolding list_of
list_more m j {l} e h =
    rw (e, members_more m j, h, length-append (members m j) (j ∷ []), ← sets_append (members m j) (j ∷ []) (replicate 64 0) 0, native.Mathlib.Nat.zero-add (length (members m j)))

pub list_same : (m j : ℕ) {l : NeighborList} → l ≡ list_of m j → has m j ≡ false → l ≡ list_of m (j + 1)
unfolding list_of
list_same m j {l} e h = rw (e, members_more m j, h, append-nil (members m j))

pub list_room : (m j : ℕ) (l : NeighborList) → l ≡ list_of m j → l.count ≤ j
unfolding list_of
list_room m j l e = rw e (omega (arith, members_count m j, count_le m j))

pub list_none : (m : ℕ) → record { count = 0; at = replicate 64 0 } ≡ list_of m 0
unfolding list_of members
list_none m = refl

-- what it means that a size, a graph and a position are not refused
pub size_parts : (n : ℕ) → size_test n ≡ Ok tt → (0 < n) × (n ≤ 64)
unfolding size_test
size_parts n e =
    let p = and_true (ltb 0 n) (leb n 64) (held (is_size n) BadPositions e) in
    (ltb-true 0 n p.0, leb-true n 64 p.1)

pub graph_parts : (g : NetworkGraph) → graph_test g ≡ Ok tt → (0 < g.n) × (g.n ≤ 64)
unfolding graph_test
graph_parts g e = size_parts g.n (first_held (size_test g.n) (all_inside g.n g.adj) tt e)

pub node_parts : (g : NetworkGraph) (i : ℕ) → node_test g i ≡ Ok tt → (g.n ≤ 64) × (i < g.n)
unfolding node_test
node_parts g i e =
    let first = first_held (graph_test g) (holds_or (ltb i g.n) NoPosition) tt e in
    let second = second_held (graph_test g) (holds_or (ltb i g.n) NoPosition) tt e in
    ((graph_parts g first).1, ltb-true i g.n (held (ltb i g.n) NoPosition second))

-- of a graph that is not refused only the position is left to test
pub position_checked : (g : NetworkGraph) (i : ℕ) → graph_test g ≡ Ok tt → position_test g.n i ≡ holds_or (ltb i g.n) NoPosition
unfolding graph_test position_test
position_checked g i e = rw (first_held (size_test g.n) (all_inside g.n g.adj) tt e)

-- the rows that were copied are those of the rule
pub copied_is : (l : List ℕ) → length l ≤ 64 → l ++ drop (length l) (replicate 64 0) ≡ filled 0 64 (length l) (λ i. get_or l i 0)
unfolding filled
copied_is l h = rw (tabulate_get l 0, drop-replicate {X = ℕ} (length l) 64 0)

-- what holds of the first n by one rule and by another that agree there
all_same : (n : ℕ) (f g : ℕ → Bool) → ((i : ℕ) → i < n → f i ≡ g i) → all_of n f ≡ all_of n g
all_same n f g h = iff (all_of n f) (all_of n g) (λ e. all_found n g (λ i k. sym (h i k) ∙ all_at n f e i k)) (λ e. all_found n f (λ i k. h i k ∙ all_at n g e i k))

-- the rows in front are all that is asked for
pub rows_front : (n : ℕ) (l : List ℕ) → n ≤ length l → all_inside (length (take n l)) (take n l) ≡ all_inside n l
unfolding all_inside
rows_front n l h =
    let e : length (take n l) ≡ n = length-take-le n l h in
    rw (e, all_same n (λ i. inside n (get_or (take n l) i 0)) (λ i. inside n (get_or l i 0)) (λ i k. ap (inside n) (get_or-take n l i 0 k)))

-- a row by its marks
pub row_is : (n r : ℕ) (f : ℕ → Bool) → n ≤ 64 → r < 2 ^ 64 → ((j : ℕ) → has r j ≡ ((ltb j n && ltb j 64) && f j)) → r ≡ marks n f
row_is n r f h l e = marks_is n f r h l (λ j. e j ∙ by (ltb j n) (ltb j 64) (f j) (λ t. lt-ltb j 64 (omega (arith, ltb-true j n t))))
  where
    by : (a b c : Bool) → (a ≡ true → b ≡ true) → ((a && b) && c) ≡ (a && c)
    by true b c g = rw (g refl)
    by false b c g = refl

-- so many places stand in front of an array of 64
pub fits_front : (n : ℕ) → n ≤ 64 → length {A = ℕ} (take n (replicate 64 0)) ≡ n
fits_front n h = let l : List ℕ = replicate 64 0 in length-take-le n l h
