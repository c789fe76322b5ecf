-- Where a search for a line's end comes to. Assumes nothing.
use mathlib.Core.Bool.{Bool, true, false, cond, not, ◌&&◌}
use mathlib.Core.List.{List}
use mathlib.Core.Path.{◌≡◌, refl, sym, ap, ◌∙◌}
use Prim.Native.Nat.{ℕ, ◌+◌, ◌-◌, ◌≤◌, ◌<◌}
use native.Mathlib.Decide.{dec_lt}
use native.Mathlib.Omega.{arith}
use lib.ListN.{length, take, drop, get_or, length-drop}
use lib.Seq.{get_or-drop, get_or-take, length-take-le}
use borrow.Author.Tests.{ltb-false, lt-ltb, le-ltb, eq-eqb, ne_eqb, eqb-true, eqb-false, not-true, both_ways}
use Rattle.std.specs.Prelude.{Some, None, nat_lt}
use Rattle.std.specs.List.{position, position_or_len}
use Rattle.std.proofs.lemmas.List.Quantifiers.{position-Some}
use Rattle.std.proofs.lemmas.List.Sums.{fails_before_first, position_or_len_is}
use Rattle.marks.specs.Sets.{and_true}
use Rattle.lines.specs.Ends.{Unbroken, NextEnd}
use Rattle.lines.specs.Feeding.{ends_line}

module _ (text : List ℕ) (at : ℕ) (h : at ≤ length text) where
  -- the byte at place k, as the search counts
  counted : (k : ℕ) → at ≤ k → get_or (drop at text) (k - at) 0 ≡ get_or text k 0
  counted k l = get_or-drop at text (k - at) 0 ∙ ap (λ (j : ℕ). get_or text j 0) (sum at k l)
    where
      sum : (a k : ℕ) → a ≤ k → a + (k - a) ≡ k
      sum a k l = omega arith

  -- no byte before place e ends a line, as the search saw
  clear : (e : ℕ) → ((j : ℕ) → at + j < e → ends_line (get_or (drop at text) j 0) ≡ false) → Unbroken text at e
  clear e f k l m q = both_ways _ (f (k - at) (omega arith)) (eq-eqb _ _ (counted k l ∙ q))

  pub found : (i : ℕ) → position ends_line (drop at text) ≡ Some i → NextEnd text at (at + i) × (at + i < length text)
  found i e =
      let p = position-Some ends_line (drop at text) i 0 e in
      let l : at + i < length text = omega (arith, p.0, length-drop at text) in (
        record {
          from = omega arith;
          within = omega arith;
          before = clear (at + i) (λ j m. p.2 j (omega arith));
          there = λ _. sym (get_or-drop at text i 0) ∙ eqb-true _ _ p.1;
        },
        l,
      )

  pub none_found : position ends_line (drop at text) ≡ None → NextEnd text at (length text)
  none_found e =
      let p = position_or_len ends_line (drop at text) in
      let far : length (drop at text) ≤ p = ltb-false p (length (drop at text)) (no (nat_lt p (length (drop at text))) p e) in
      record {
        from = h;
        within = omega arith;
        before = clear (length text) (λ j m. fails_before_first ends_line (drop at text) j 0 (omega (arith, length-drop at text)));
        there = λ m. absurd (omega arith);
      }
    where
      no : (b : Bool) (p : ℕ) → cond b (Some p) None ≡ None → b ≡ false
      no true p e = cc
      no false p e = refl

-- ---- blocks

pub unbroken_none : (text : List ℕ) (at : ℕ) → Unbroken text at at
unbroken_none text at k a b e = omega arith

-- up to i, and on from there
pub unbroken_on : (text : List ℕ) (at i j : ℕ) → Unbroken text at i → Unbroken text i j → Unbroken text at j
unbroken_on text at i j u v k a b e = go (dec_lt k i)
  where
    go : Dec (k < i) → ⊥
    go (yes h) = u k a h e
    go (no h) = v k (omega arith) b e

-- a turn that only notes what it finds
pub unbroken_noted : (text : List ℕ) (i : ℕ) (good : Bool) → (good ≡ true → Unbroken text 0 i) → (good && not (ends_line (get_or text i 0))) ≡ true → Unbroken text 0 (i + 1)
unbroken_noted text i good u t =
    let p = and_true good (not (ends_line (get_or text i 0))) t in
    unbroken_on text 0 i (i + 1) (u p.0) (λ k l m e. eqb-false _ _ (not-true _ p.1) (ap (λ (j : ℕ). get_or text j 0) (is k l m) ∙ e))
  where
    is : (k : ℕ) → i ≤ k → k < i + 1 → i ≡ k
    is k l m = omega arith

-- a part of a text, and its place there
pub unbroken_part : (text : List ℕ) (a b : ℕ) → a ≤ b → b ≤ length text → Unbroken (take (b - a) (drop a text)) 0 (length (take (b - a) (drop a text))) → Unbroken text a b
unbroken_part text a b h l u k m n e =
    u (k - a) (omega arith) (omega (arith, length-take-le (b - a) (drop a text) (omega (arith, length-drop a text))))
    (get_or-take (b - a) (drop a text) (k - a) 0 (omega arith) ∙ counted text a (omega arith) k m ∙ e)

-- a search from a place up to which no line ends
pub from_there : (text : List ℕ) (at i : ℕ) {e : ℕ} → at ≤ i → Unbroken text at i → NextEnd text i e → NextEnd text at e
from_there text at i {e} h u n = record { from = omega (arith, n.from); within = n.within; before = unbroken_on text at i e u n.before; there = n.there }

-- the same in std's word
module _ (text : List ℕ) {e : ℕ} (n : NextEnd text 0 e) where
  first : position_or_len ends_line text ≡ e
  first = position_or_len_is ends_line text e 0 n.within (λ k h. ne_eqb _ _ (n.before k (omega arith) h)) (λ h. eq-eqb _ _ (n.there h))

  pub found_first : e < length text → Some e ≡ position ends_line text
  found_first h = rw (first, lt-ltb e (length text) h)

  pub none_first : e ≡ length text → None ≡ position ends_line text
  none_first h = rw (first, le-ltb e (length text) (omega arith))
