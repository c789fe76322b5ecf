-- Where the line so far and the bytes not read stand behind a call, and that a call with room gets on. Assumes nothing.
use mathlib.Core.Bool.{Bool, true, false}
use mathlib.Core.List.{List, [], ◌∷◌, ◌++◌, append_assoc}
use mathlib.Core.Path.{◌≡◌, refl, sym, ap, ◌∙◌}
use Prim.Native.Nat.{ℕ, ◌+◌, ◌-◌, ◌≤◌, ◌<◌}
use native.Mathlib.Omega.{arith}
use lib.ListN.{length, take, drop, length-append, length-drop, take-append-drop}
use lib.Seq.{append_snoc, take-append_seam, drop-append_seam, drop-append-add}
use borrow.Author.Tests.{le-leb}
use Rattle.std.specs.Prelude.{Result, Ok}
use Rattle.limits.specs.declared.refusals.Refusal.{Refusal}
use Rattle.frame.specs.Bounds.{frame_words, ended_bytes}
use Rattle.lines.specs.declared.feed.Fed.{Fed}
use Rattle.lines.specs.Input.{ended_of}
use Rattle.lines.specs.Feeding.{Feed, Feeds, ends_line, is_full, feed_by, feed_of, fed_to, fed_of}
use Rattle.lines.specs.Reading.{CallsOn, CallAgain}
use Rattle.lines.proofs.Forks.{fork, rest_lt}

-- ---- the line and the rest end the text

record Ends (text : List ℕ) (f : Feed) : Type 0 where
  front : List ℕ
  is : text ≡ front ++ (f.line ++ f.rest)

ends : (room : ℕ) (line bs : List ℕ) → Ends (line ++ bs) (feed_by room line bs)
unfolding feed_by
ends room line [] = record { front = []; is = refl }
ends room line (b ∷ bs) =
    go (ends_line b) (is_full room) (ends (room - length (ended_of line)) [] bs) (ends room (line ++ (b ∷ [])) bs)
  where
    go : (p q : Bool) → Ends bs (feed_by (room - length (ended_of line)) [] bs) → Ends ((line ++ (b ∷ [])) ++ bs) (feed_by room (line ++ (b ∷ [])) bs) → Ends (line ++ (b ∷ bs)) (fork room line b bs p q)
    go true true e n = record { front = []; is = refl }
    go true false e n =
        record { front = line ++ (b ∷ e.front); is = ap (λ (x : List ℕ). line ++ (b ∷ x)) e.is ∙ sym (append_assoc line (b ∷ e.front) _) }
    go false q e n = record { front = n.front; is = sym (append_snoc line b bs) ∙ n.is }

module _ (text : List ℕ) (n words out used : ℕ) (h : n ≤ length text) (g : frame_words ≤ words) (k : used ≤ out) where
  f : Feed
  f = feed_of text n (out - used)

  accepted : fed_of text n words out used ≡ Ok (fed_to text n out used)
  unfolding fed_of
  accepted = rw (le-leb n (length text) h, le-leb frame_words words g, le-leb used out k)

  abbrev to : Fed
  to = fed_to text n out used

  at_rest : to.at ≡ length text - length f.rest
  unfolding fed_to f
  at_rest = refl

  from_rest : to.from ≡ length text - length f.rest - length f.line
  unfolding fed_to f
  from_rest = refl

  whole : Ends text f
  unfolding f
  whole =
      let e = ends (out - used) (take n text) (drop n text) in
      record { front = e.front; is = sym (take-append-drop n text) ∙ e.is }

  sum : length text ≡ length whole.front + (length f.line + length f.rest)
  sum = ap length whole.is ∙ length-append whole.front (f.line ++ f.rest) ∙ ap (λ (x : ℕ). length whole.front + x) (length-append f.line f.rest)

  at_is : to.at ≡ length whole.front + length f.line
  at_is = omega (arith, sum, at_rest)

  from_is : to.from ≡ length whole.front
  from_is = omega (arith, sum, from_rest)

  long : to.at - to.from ≡ length f.line
  long = omega (arith, at_is, from_is)

  calls_on : CallsOn text n (out - used) to
  unfolding f
  calls_on = record {
    line = rw (long, from_is) (ap (λ (x : List ℕ). take (length f.line) (drop (length whole.front) x)) whole.is ∙ rw (drop-append_seam whole.front (f.line ++ f.rest)) (take-append_seam f.line f.rest));
    rest = rw at_is (ap (drop (length whole.front + length f.line)) whole.is ∙ rw (drop-append-add whole.front (f.line ++ f.rest) (length f.line)) (drop-append_seam f.line f.rest));
    on = λ l m. omega (arith, at_rest, length-drop n text, rest_lt (out - used) (take n text) (drop n text) m (omega (arith, length-drop n text)));
  }

pub call_again : CallAgain
call_again text n words out used h g k = (accepted text n words out used h g k, calls_on text n words out used h g k)

-- ---- for who calls

module _ {text : List ℕ} {n : ℕ} {words out : List ℕ} {used : ℕ} {r : Result Fed Refusal} {words' out' : List ℕ} (c : Feeds text n words out used r words' out') (h : n ≤ length text) (g : frame_words ≤ length words) (k : used ≤ length out) where
  -- the call is accepted
  pub came_to : r ≡ Ok (fed_to text n (length out) used)
  came_to = c.answer ∙ accepted text n (length words) (length out) used h g k

  module _ {fed : Fed} (e : r ≡ Ok fed) where
    is : fed ≡ fed_to text n (length out) used
    is = let o : ◌≡◌ {A = Result Fed Refusal} (Ok fed) (Ok (fed_to text n (length out) used)) = sym e ∙ came_to in cc

    pub came_within : (fed.from ≤ fed.at) × (fed.at ≤ length text)
    came_within = omega (
      arith,
      ap (λ (x : Fed). x.at) is,
      ap (λ (x : Fed). x.from) is,
      at_rest text n (length words) (length out) used h g k,
      from_rest text n (length words) (length out) used h g k,
    )

    pub came_on : n < length text → ended_bytes ≤ length out - used → n < fed.at
    came_on l m = omega (arith, ap (λ (x : Fed). x.at) is, (calls_on text n (length words) (length out) used h g k).on l m)
