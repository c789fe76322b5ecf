-- RULES 7.3: a row counts every position once, and tells the highest progress. Assumes nothing.
use Rattle.std.proofs.Common.{◌≡◌, ℕ, zero, suc, ◌+◌, ◌<◌, ◌≤◌, min, max, Bool, true, false, ◌&&◌, ltb, List, [], ◌∷◌, length, take, get_or, refl, ap, ◌∙◌, arith, ltb-false, ltb-true}
use mir.Val.{bool_byte}
use Rattle.std.specs.List.{fold}
use Rattle.std.proofs.Math.Seq.{take-suc}
use Rattle.std.proofs.lemmas.List.Sums.{fold-append}
use Rattle.loops.specs.Highest.{highest}
use Rattle.loops.specs.Upto.{upto}
use Rattle.marks.specs.Marks.{marks, count_of}
use Rattle.marks.specs.Sets.{has_marks}
use Rattle.engines.specs.Clamp.{at_most64}
use Rattle.engines.specs.Nodes.{no_node, is_listen, is_flood, is_sleep, listens, floods, sleeps, sets_of}
use Rattle.engines.specs.Rows.{row_of}
use Rattle.engines.specs.declared.node.Node.{Node}
use Rattle.engines.specs.declared.node.NodeState.{NodeState}
use Rattle.engines.specs.declared.node.NodeState.TheVariants.{Listen, Flood, Sleep}

-- a position is in one state
once : (s : NodeState) → bool_byte (is_listen s) + bool_byte (is_flood s) + bool_byte (is_sleep s) ≡ 1
once Listen = refl
once Flood = refl
once Sleep = refl

module _ (n : ℕ) (l : List Node) where
  turn : (k : ℕ) (b : Bool) → ltb k n ≡ b
      → bool_byte (b && listens l k) + bool_byte (b && floods l k) + bool_byte (b && sleeps l k) + min k n ≡ min (suc k) n
  unfolding listens floods sleeps
  turn k true e = let h = ltb-true k n e in omega (arith, once (get_or l k no_node).state)
  turn k false e = let h = ltb-false k n e in omega arith

  counted_upto : (k : ℕ) → count_of (marks n (listens l)) k + count_of (marks n (floods l)) k + count_of (marks n (sleeps l)) k ≡ min k n
  unfolding count_of
  counted_upto zero = omega arith
  counted_upto (suc k) =
      omega (arith, counted_upto k, turn k (ltb k n) refl, ap bool_byte (has_marks n (listens l) k), ap bool_byte (has_marks n (floods l) k), ap bool_byte (has_marks n (sleeps l) k))

-- the three numbers of a row's states add up to the positions
pub row_sum : (slot n : ℕ) (l : List Node) → n ≤ 64 → (row_of slot n l).listening + (row_of slot n l).flooding + (row_of slot n l).sleeping ≡ n
unfolding row_of sets_of
row_sum slot n l h = counted_upto (at_most64 n) l 64 ∙ all n h
  where
    all : (n : ℕ) → n ≤ 64 → min 64 (at_most64 n) ≡ n
    all n h = omega arith

-- the highest progress, as a fold over the first positions finds it
pub fold_highest : (l : List Node) (n : ℕ) → n ≤ length l
    → fold (λ p (v : Node). max p v.progress_count) 0 (take n l) ≡ highest n (λ i. (get_or l i no_node).progress_count)
unfolding upto
fold_highest l zero h = refl
fold_highest l (suc n) h =
    let low : n < length l = omega arith in
    rw (take-suc l n no_node low, fold-append (λ p (v : Node). max p v.progress_count) 0 (take n l) (get_or l n no_node ∷ []), fold_highest l n (omega arith))
