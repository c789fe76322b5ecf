-- What the program's calls come to: places and lengths, and the line that is left. Assumes nothing.
use mathlib.Core.Bool.{Bool, true, false}
use mathlib.Core.List.{List, [], ◌∷◌, ◌++◌}
use mathlib.Core.Path.{◌≡◌, refl, sym, ap, ap₂, ◌∙◌, subst}
use Prim.Native.Nat.{ℕ, ◌+◌, ◌-◌, min, ◌≤◌, ◌<◌}
use native.Mathlib.Omega.{arith}
use lib.ListN.{length, take, drop, length-drop, drop_of_length-le}
use lib.Seq.{length-take-le, take_all, take_at, drop-drop}
use borrow.Author.Tests.{le-leb}
use Rattle.std.specs.Prelude.{Result, Ok, IsOk, Option, Some}
use Rattle.limits.specs.declared.refusals.Refusal.{Refusal}
use Rattle.frame.specs.Bounds.{frame_words, ended_bytes}
use Rattle.lines.specs.Input.{ended_of}
use Rattle.lines.specs.Feeding.{Feeds, ends_line, is_full, feed_by, fed_to, end_of}
use Rattle.lines.specs.Reading.{CallsOn}
use Rattle.lines.specs.declared.feed.Fed.{Fed}
use Rattle.lines.proofs.Forks.{fork}
use Rattle.lines.proofs.Standing.{came_to, came_within, came_on, call_again}
use Rattle.planner.specs.Turns.{left_of, TakesIn}

-- ---- what is left, call by call

left_fed : (room : ℕ) (line bs : List ℕ) → left_of (feed_by room line bs).line (feed_by room line bs).rest ≡ left_of line bs
unfolding feed_by left_of
left_fed room line [] = refl
left_fed room line (b ∷ bs) =
    go (ends_line b) (is_full room) refl (left_fed (room - length (ended_of line)) [] bs) (left_fed room (line ++ (b ∷ [])) bs)
  where
    go : (p q : Bool) → ends_line b ≡ p → left_of (feed_by (room - length (ended_of line)) [] bs).line (feed_by (room - length (ended_of line)) [] bs).rest ≡ left_of [] bs → left_of (feed_by room (line ++ (b ∷ [])) bs).line (feed_by room (line ++ (b ∷ [])) bs).rest ≡ left_of (line ++ (b ∷ [])) bs → left_of (fork room line b bs p q).line (fork room line b bs p q).rest ≡ left_of line (b ∷ bs)
    go true true e a n = refl
    go true false e a n = rw e a
    go false q e a n = rw e n

-- the line from place `from` up to place `at` of a text, and the bytes behind it
abbrev pub left_at : List ℕ → ℕ → ℕ → List ℕ
left_at text from at = left_of (take (at - from) (drop from text)) (drop at text)

pub left_start : (text : List ℕ) (n : ℕ) → left_at text 0 n ≡ left_of (take n text) (drop n text)
left_start text n = ap (λ (k : ℕ). left_of (take k text) (drop n text)) (all n)
  where
    all : (m : ℕ) → m - 0 ≡ m
    all m = omega arith

-- a call on the same text leaves the same
left_again : (p : List ℕ) (n room : ℕ) {r : Fed} → CallsOn p n room r → left_at p r.from r.at ≡ left_of (take n p) (drop n p)
left_again p n room o = ap₂ left_of o.line o.rest ∙ left_fed room (take n p) (drop n p)

-- places of a text and places of its end
left_behind : (text : List ℕ) (from a b : ℕ) → left_at text (from + a) (from + b) ≡ left_at (drop from text) a b
left_behind text from a b =
    ap₂ left_of (ap₂ (λ (k : ℕ) (l : List ℕ). take k l) (less from a b) (sym (drop-drop a from text))) (sym (drop-drop b from text))
  where
    less : (n a b : ℕ) → n + b - (n + a) ≡ b - a
    less n a b = omega arith

left_from : (text : List ℕ) (from at : ℕ) → from ≤ at → left_of (take (at - from) (drop from text)) (drop (at - from) (drop from text)) ≡ left_at text from at
left_from text from at h =
    ap (λ (l : List ℕ). left_of (take (at - from) (drop from text)) l) (drop-drop (at - from) from text ∙ ap (λ (k : ℕ). drop k text) (sum from at h))
  where
    sum : (n m : ℕ) → n ≤ m → n + (m - n) ≡ m
    sum n m g = omega arith

-- once all is read the line that is left is all from its begin on
pub left_all : (text : List ℕ) (from at : ℕ) → from ≤ at → length text ≤ at → drop from text ≡ left_at text from at
unfolding left_of
left_all text from at h l =
    rw (drop_of_length-le text {i = at} l, take_all (at - from) (drop from text) (omega (arith, length-drop from text))) refl

-- A call for what is left of a text, from the place where the present line begins, gets on and stays within the text.
pub record Came (text : List ℕ) (from at : ℕ) (r : Fed) : Type 0 where
  pub order : r.from ≤ r.at
  pub within : from + r.at ≤ length text
  pub on : at < from + r.at
  pub left : left_at text (from + r.from) (from + r.at) ≡ left_at text from at

pub came : (text : List ℕ) (from at : ℕ) {words out : List ℕ} {q : Result Fed Refusal} {words' out' : List ℕ} {r : Fed} → from ≤ at → at < length text → frame_words ≤ length words → ended_bytes ≤ length out → Feeds (take (length text - from) (drop from text)) (at - from) words out 0 q words' out' → q ≡ Ok r → Came text from at r
came text from at {words} {out} {q} {words'} {out'} {r} h l g k c e =
    let part : length (take (length text - from) (drop from text)) ≡ length text - from = length-take-le (length text - from) (drop from text) (omega (arith, length-drop from text)) in
    let w = came_within c (omega arith) g (omega arith) e in
    let o = came_on c (omega arith) g (omega arith) e (omega arith) (omega arith) in
    let a = (call_again (take (length text - from) (drop from text)) (at - from) (length words) (length out) 0 (omega arith) g (omega arith)).1 in
    let i : ◌≡◌ {A = Result Fed Refusal} (Ok r) (Ok (fed_to (take (length text - from) (drop from text)) (at - from) (length out) 0)) = sym e ∙ came_to c (omega arith) g (omega arith) in
    let j : r ≡ fed_to (take (length text - from) (drop from text)) (at - from) (length out) 0 = cc in
    let p = subst (λ (x : Fed). CallsOn (take (length text - from) (drop from text)) (at - from) (length out - 0) x) (sym j) a in
    let q = subst (λ (l : List ℕ). CallsOn l (at - from) (length out - 0) r) (take_all (length text - from) (drop from text) (omega (arith, length-drop from text))) p in
    record { order = w.0; within = omega (arith, w.1); on = omega (arith, o); left = left_behind text from r.from r.at ∙ left_again (drop from text) (at - from) (length out - 0) q ∙ left_from text from at h }

pub is_ok : (text : List ℕ) (from at : ℕ) {words out : List ℕ} {q : Result Fed Refusal} {words' out' : List ℕ} → from ≤ at → at ≤ length text → frame_words ≤ length words → Feeds (take (length text - from) (drop from text)) (at - from) words out 0 q words' out' → IsOk q
is_ok text from at h l g c =
    let part : length (take (length text - from) (drop from text)) ≡ length text - from = length-take-le (length text - from) (drop from text) (omega (arith, length-drop from text)) in
    rw (came_to c (omega arith) g (omega arith)) refl

-- ---- what a read brought

-- The part of the buffer that was lent has the present line and the k bytes that were read.
pub brought : (buf : List ℕ) (n k : ℕ) {E : Type 0} {count ws : ℕ} {r : Result (Option ℕ) E} {out out' part : List ℕ} → n + k ≤ length buf → count ≡ min k (length buf - n) → TakesIn (take (n + count) buf) out n ws r part out' → length part ≡ length (take (n + count) buf) → TakesIn (take (n + k) buf) out n ws r (take (n + k) (part ++ drop (n + count) buf)) out'
brought buf n k {E} {count} {ws} {r} {out} {out'} {part} h q i m =
    let a : count ≡ k = q ∙ least k (length buf - n) (omega arith) in
    let f : take (n + count) buf ≡ take (n + k) buf = ap (λ (j : ℕ). take (n + j) buf) a in
    let g : take (n + k) (part ++ drop (n + count) buf) ≡ part = take_at part (drop (n + count) buf) (n + k) (m ∙ ap length f ∙ length-take-le (n + k) buf h) in
    subst (λ (x : List ℕ). TakesIn (take (n + k) buf) out n ws r x out') (sym g) (subst (λ (t : List ℕ). TakesIn t out n ws r part out') f i)
  where
    least : (k m : ℕ) → k ≤ m → min k m ≡ k
    least k m l = omega arith

-- ---- answers

pub last_ok : (line : List ℕ) {ws out : ℕ} {r : Result ℕ Refusal} → frame_words ≤ ws → ended_bytes ≤ out → r ≡ end_of line ws out → IsOk r
unfolding end_of
last_ok line {ws} {out} h g e = rw (e, le-leb frame_words ws h, le-leb ended_bytes out g) refl

pub one_kept : {E : Type 0} {a b : ℕ} → ◌≡◌ {A = Result (Option ℕ) E} (Ok (Some a)) (Ok (Some b)) → a ≡ b
one_kept e = cc
