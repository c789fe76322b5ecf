-- An answer and its end, behind what the output has. Assumes nothing.
use mathlib.Core.Bool.{Bool, true, false, ◌&&◌}
use mathlib.Core.List.{List, [], ◌∷◌, ◌++◌, append_assoc, append-nil}
use mathlib.Core.Logic.{◌⊎◌, inl, inr}
use mathlib.Core.Path.{◌≡◌, refl, sym, ap, ◌∙◌}
use Prim.Native.Nat.{ℕ, ◌+◌, ◌-◌, ◌≤◌, ◌<◌}
use native.Mathlib.Omega.{arith}
use lib.ListN.{length, take, drop, set, length-drop, drop_of_length-le}
use lib.Seq.{drop-drop, take_all}
use Rattle.std.proofs.Common.{take-append-drop}
use native.Mathlib.Decide.{dec_lt}
use borrow.Author.Tests.{le-leb, lt-leb, leb-true}
use Rattle.std.specs.Prelude.{Result, Ok, Err, leb}
use Rattle.limits.specs.declared.refusals.Refusal.{Refusal}
use Rattle.limits.specs.declared.refusals.Refusal.TheVariants.{NoFit}
use Rattle.loops.specs.Pick.{either}
use Rattle.marks.specs.Sets.{and_true}
use Rattle.texts.specs.Put.{Put, written, put_more, put_none, put_byte}
use Rattle.frame.specs.Bounds.{frame_words, listing_bytes, ended_bytes}
use Rattle.frame.specs.Listing.{listing_of, has_room, listed_of, words_in, words_after, listed_in}
use Rattle.lines.specs.Input.{line_end, last_of, ended_of, listed_lines}
use Rattle.lines.specs.Feeding.{words_behind, ends, end_of, end_words, end_out}

-- ---- one line

-- too few bytes for an answer
pub ends_short : (w o : ℕ) → o < ended_bytes → ends w o ≡ false
ends_short w o h = rw (lt-leb ended_bytes o h) (no (leb frame_words w))
  where
    no : (t : Bool) → (t && false) ≡ false
    no true = refl
    no false = refl

module _ (line ws out : List ℕ) (g : ended_bytes ≤ length out) where
  -- what has room for a listing line and its end has room for it
  roomy : has_room (length ws) (length out) ≡ ends (length ws) (length out)
  roomy = rw (le-leb listing_bytes (length out) (omega arith), le-leb ended_bytes (length out) g)

  pub line_refused : {r : Refusal} {ws' out' : List ℕ} → Err r ≡ listed_of line (length ws) (length out) → ws' ≡ words_after line ws (length out) → out' ≡ listed_in line (length ws) out
      → (Err r ≡ either (ends (length ws) (length out)) (Ok (length (ended_of line))) (Err NoFit)) × (ws' ≡ either (ends (length ws) (length out)) (words_in line ws) ws) × (out' ≡ either (ends (length ws) (length out)) (written out 0 (ended_of line)) out)
  unfolding listed_of words_after listed_in
  line_refused {r} {ws'} {out'} e w o = go (ends (length ws) (length out)) (e ∙ rw roomy) (w ∙ rw roomy) (o ∙ rw roomy)
    where
      go : (t : Bool) → Err r ≡ either t (Ok (length (listing_of line))) (Err NoFit) → ws' ≡ either t (words_in line ws) ws → out' ≡ either t (written out 0 (listing_of line)) out
          → (Err r ≡ either t (Ok (length (ended_of line))) (Err NoFit)) × (ws' ≡ either t (words_in line ws) ws) × (out' ≡ either t (written out 0 (ended_of line)) out)
      go true e w o = absurd (cc)
      go false e w o = (e, w, o)

  -- the listing line, and the byte behind it
  pub line_listed : {len : ℕ} {ws' out' : List ℕ} → Ok len ≡ listed_of line (length ws) (length out) → ws' ≡ words_after line ws (length out) → out' ≡ listed_in line (length ws) out → len < length out'
      → (Ok (len + 1) ≡ either (ends (length ws) (length out)) (Ok (length (ended_of line))) (Err NoFit)) × (ws' ≡ either (ends (length ws) (length out)) (words_in line ws) ws) × (set out' len line_end ≡ either (ends (length ws) (length out)) (written out 0 (ended_of line)) out)
  unfolding listed_of words_after listed_in ended_of
  line_listed {len} {ws'} {out'} e w o l = go (ends (length ws) (length out)) (e ∙ rw roomy) (w ∙ rw roomy) (o ∙ rw roomy)
    where
      go : (t : Bool) → Ok len ≡ either t (Ok (length (listing_of line))) (Err NoFit) → ws' ≡ either t (words_in line ws) ws → out' ≡ either t (written out 0 (listing_of line)) out
          → (Ok (len + 1) ≡ either t (Ok (length (ended_of line))) (Err NoFit)) × (ws' ≡ either t (words_in line ws) ws) × (set out' len line_end ≡ either t (written out 0 (ended_of line)) out)
      go true e w o =
          let k : len ≡ length (listing_of line) = cc in
          let p : Put out 0 (listing_of line) len out' = record { next = omega arith; left = o } in
          let q = put_more (omega arith) p (put_byte out' len line_end l) in
          (ap (λ (n : ℕ). Ok n) (omega (arith, q.next)), w, q.left)
      go false e w o = absurd (cc)

-- a line that is put behind the first `used` bytes
module _ (line ws out : List ℕ) (used : ℕ) (h : used ≤ length out) where
  -- the part that is lent from there on, and what lies behind it
  abbrev lent : List ℕ
  lent = take (length out - used) (drop used out)

  lent_is : lent ≡ drop used out
  lent_is = take_all (length out - used) (drop used out) (omega (arith, length-drop used out))

  pub lent_long : length lent ≡ length out - used
  lent_long = ap length lent_is ∙ length-drop used out

  none_behind : drop (length out - used) (drop used out) ≡ []
  none_behind = drop_of_length-le (drop used out) {i = length out - used} (omega (arith, length-drop used out))

  pub line_full : {r : Refusal} {ws' part : List ℕ} → frame_words ≤ length ws → Err r ≡ either (ends (length ws) (length lent)) (Ok (length (ended_of line))) (Err NoFit) → ws' ≡ either (ends (length ws) (length lent)) (words_in line ws) ws → part ≡ either (ends (length ws) (length lent)) (written lent 0 (ended_of line)) lent
      → (length out - used < ended_bytes) × (ws ≡ ws') × (out ≡ take used out ++ (part ++ drop (length out - used) (drop used out)))
  line_full {r} {ws'} {part} m e w o = go (dec_lt (length out - used) ended_bytes)
    where
      go : Dec (length out - used < ended_bytes) → (length out - used < ended_bytes) × (ws ≡ ws') × (out ≡ take used out ++ (part ++ drop (length out - used) (drop used out)))
      go (yes l) =
          let f = ends_short (length ws) (length lent) (omega (arith, lent_long)) in
          (l, sym (w ∙ rw f), sym (rw (o, f, none_behind, append-nil, lent_is) (take-append-drop used out)))
      go (no l) =
          let t : ends (length ws) (length lent) ≡ true = rw (le-leb frame_words (length ws) m, le-leb ended_bytes (length lent) (omega (arith, lent_long))) in
          let f : ◌≡◌ {A = Result ℕ Refusal} (Err r) (Ok (length (ended_of line))) = e ∙ rw t in
          absurd (cc)

  pub line_put : {len : ℕ} {ws' part : List ℕ} → Ok len ≡ either (ends (length ws) (length lent)) (Ok (length (ended_of line))) (Err NoFit) → ws' ≡ either (ends (length ws) (length lent)) (words_in line ws) ws → part ≡ either (ends (length ws) (length lent)) (written lent 0 (ended_of line)) lent
      → (ended_bytes ≤ length out - used) × (ws' ≡ words_in line ws) × Put out used (ended_of line) (used + len) (take used out ++ (part ++ drop (length out - used) (drop used out)))
  unfolding written
  line_put {len} {ws'} {part} e w o = go (ends (length ws) (length lent)) refl e w o
    where
      sum : (a b : ℕ) → a + (0 + b) ≡ a + b
      sum a b = omega arith

      go : (t : Bool) → ends (length ws) (length lent) ≡ t → Ok len ≡ either t (Ok (length (ended_of line))) (Err NoFit) → ws' ≡ either t (words_in line ws) ws → part ≡ either t (written lent 0 (ended_of line)) lent
          → (ended_bytes ≤ length out - used) × (ws' ≡ words_in line ws) × Put out used (ended_of line) (used + len) (take used out ++ (part ++ drop (length out - used) (drop used out)))
      go true q e w o =
          let t : List ℕ = ended_of line in
          let b : ended_bytes ≤ length lent = leb-true ended_bytes (length lent) (and_true (leb frame_words (length ws)) (leb ended_bytes (length lent)) q).1 in
          let k : len ≡ length t = cc in
          let v : part ++ drop (length out - used) (drop used out) ≡ t ++ drop (used + length t) out = rw (none_behind, append-nil, o, lent_is, drop-drop (0 + length t) used out) (ap (λ (k : ℕ). t ++ drop k out) (sum used (length t))) in (
            omega (arith, lent_long),
            w,
            record {
              next = ap (λ (n : ℕ). used + n) k;
              left = ap (λ (x : List ℕ). take used out ++ x) v ∙ sym (append_assoc (take used out) t (drop (used + length t) out));
            },
          )
      go false q e w o = absurd (cc)

-- ---- the last line

pub last_none : (line ws out : List ℕ) → length line ≡ 0 → Put out 0 (listed_lines (last_of line)) 0 out × (ws ≡ words_behind (last_of line) ws)
unfolding last_of listed_lines words_behind
last_none [] ws out e = (put_none out 0, refl)
last_none (b ∷ bs) ws out e = absurd (omega arith)

pub last_one : (line ws out : List ℕ) {r : Result ℕ Refusal} {ws' out' : List ℕ} → (length line ≡ 0 → ⊥) → r ≡ either (ends (length ws) (length out)) (Ok (length (ended_of line))) (Err NoFit) → ws' ≡ either (ends (length ws) (length out)) (words_in line ws) ws → out' ≡ either (ends (length ws) (length out)) (written out 0 (ended_of line)) out
    → (r ≡ end_of line (length ws) (length out)) × (ws' ≡ end_words line ws (length out)) × (out' ≡ end_out line (length ws) out)
unfolding last_of listed_lines words_behind end_of end_words end_out
last_one [] ws out n e w o = absurd (n refl)
last_one (b ∷ bs) ws out n e w o = (e ∙ rw append-nil, w, o ∙ rw append-nil)

-- what the tests say, as one is made behind the other
abbrev pub Lacks : ℕ → ℕ → Type 0
Lacks w o = (w < frame_words) ⊎ ((frame_words ≤ w) × (o < ended_bytes))

ends_not : (w o : ℕ) → Lacks w o → ends w o ≡ false
ends_not w o (inl h) = rw (lt-leb frame_words w h)
ends_not w o (inr h) = rw (le-leb frame_words w h.0, lt-leb ended_bytes o h.1)

module _ (line ws out : List ℕ) where
  pub end_refused : Lacks (length ws) (length out) → (Err NoFit ≡ end_of line (length ws) (length out)) × (ws ≡ end_words line ws (length out)) × (out ≡ end_out line (length ws) out)
  unfolding end_of end_words end_out
  end_refused h =
      let n : ends (length ws) (length out) ≡ false = ends_not (length ws) (length out) h in
      (rw n, rw n, rw n)

  pub end_listed : {o : ℕ} {d ws' : List ℕ} → frame_words ≤ length ws → ended_bytes ≤ length out → Put out 0 (listed_lines (last_of line)) o d → ws' ≡ words_behind (last_of line) ws → (Ok o ≡ end_of line (length ws) (length out)) × (ws' ≡ end_words line ws (length out)) × (d ≡ end_out line (length ws) out)
  unfolding end_of end_words end_out
  end_listed {o} h g p w =
      let y : ends (length ws) (length out) ≡ true = rw (le-leb frame_words (length ws) h, le-leb ended_bytes (length out) g) in
      let n : o ≡ length (listed_lines (last_of line)) = omega (arith, p.next) in
      (rw (y, n), w ∙ rw y, p.left ∙ rw y)
