-- The lines of a text, one after the other: what is left to be done comes to what was to be done at first. Assumes nothing.
use mathlib.Core.Bool.{true, false}
use mathlib.Core.List.{List, [], ◌∷◌, ◌++◌}
use mathlib.Core.Logic.{◌⊎◌, inl, inr}
use mathlib.Core.Path.{◌≡◌, refl, sym, ap, ap₂, ◌∙◌}
use Prim.Native.Nat.{ℕ, zero, suc, ◌+◌, ◌-◌, ◌≤◌, ◌<◌}
use native.Mathlib.Nat.{add-zero}
use native.Mathlib.Numerals.{add-one}
use native.Mathlib.Omega.{arith}
use lib.ListN.{length, take, drop, get_or, length-drop, length-append, drop_of_length-le}
use lib.Seq.{drop-cons, take-suc, get_or-drop, length-take-le}
use borrow.Author.Tests.{eq-eqb, ne_eqb, lt-ltb, le-ltb, le-leb, lt-leb}
use Rattle.std.specs.Prelude.{Ok, Err}
use Rattle.limits.specs.declared.refusals.Refusal.TheVariants.{NoFit}
use Rattle.texts.specs.Put.{Put, written, written_nil, written_more}
use Rattle.frame.specs.Bounds.{frame_words, ended_bytes}
use Rattle.frame.specs.Listing.{words_in}
use Rattle.lines.specs.Ends.{Unbroken, NextEnd}
use Rattle.lines.specs.Input.{line_end, ended_of, listed_lines}
use Rattle.lines.specs.Feeding.{Feed, Feeds, stopped, behind, feed_by, words_behind, feeds, feed_of, fed_to, fed_of, fed_words, fed_out}

-- from place a up to place b
abbrev pub cut : List ℕ → ℕ → ℕ → List ℕ
cut text a b = take (b - a) (drop a text)

cut_length : (text : List ℕ) (a b : ℕ) → b ≤ length text → length (cut text a b) ≡ b - a
cut_length text a b h = length-take-le (b - a) (drop a text) (omega (arith, length-drop a text))

cut_more : (text : List ℕ) (a b : ℕ) → a ≤ b → b < length text → cut text a b ++ (get_or text b 0 ∷ []) ≡ cut text a (suc b)
cut_more text a b h g =
    sym (ap (λ (k : ℕ). take k (drop a text)) (one a b h)
    ∙ take-suc (drop a text) (b - a) 0 (omega (arith, length-drop a text))
    ∙ ap (λ (x : ℕ). cut text a b ++ (x ∷ [])) (get_or-drop a text (b - a) 0 ∙ ap (λ (k : ℕ). get_or text k 0) (back a b h)))
  where
    one : (a b : ℕ) → a ≤ b → suc b - a ≡ suc (b - a)
    one a b h = omega arith

    back : (a b : ℕ) → a ≤ b → a + (b - a) ≡ b
    back a b h = omega arith

-- ---- a step of the rule

module _ (text : List ℕ) (room from : ℕ) where
  abbrev pub left : ℕ → Feed
  left at = feed_by room (cut text from at) (drop at text)

  -- a byte that ends no line
  byte : (at : ℕ) → from ≤ at → at < length text → (get_or text at 0 ≡ line_end → ⊥) → left at ≡ left (suc at)
  unfolding feed_by
  byte at h g n =
      rw (drop-cons text at 0 g, ne_eqb (get_or text at 0) line_end n) (ap (λ (l : List ℕ). feed_by room l (drop (suc at) text)) (cut_more text from at h g))

  bytes : (k at : ℕ) → from ≤ at → at + k ≤ length text → Unbroken text at (at + k) → left at ≡ left (at + k)
  bytes zero at h g u = ap left (sym (add-zero at))
  bytes (suc k) at h g u =
      byte at h (omega arith) (u at (omega arith) (omega arith))
      ∙ bytes k (suc at) (omega arith) (omega arith) (λ j l m. u j (omega arith) (omega arith))
      ∙ ap left (shift at k)
    where
      shift : (at k : ℕ) → suc at + k ≡ at + suc k
      shift at k = omega arith

  pub to_end : (at : ℕ) {e : ℕ} → from ≤ at → NextEnd text at e → left at ≡ left e
  to_end at {e} h n = bytes (e - at) at h (omega (arith, n.within, n.from)) (rw (sum at e n.from) n.before) ∙ ap left (sum at e n.from)
    where
      sum : (at e : ℕ) → at ≤ e → at + (e - at) ≡ e
      sum at e h = omega arith

  pub at_none : (e : ℕ) → length text ≤ e → left e ≡ stopped (cut text from e) (drop e text)
  unfolding feed_by
  at_none e h = rw (drop_of_length-le text h)

  pub at_full : (e : ℕ) → e < length text → get_or text e 0 ≡ line_end → room < ended_bytes → left e ≡ stopped (cut text from e) (drop e text)
  unfolding feed_by
  at_full e h q f = rw (drop-cons text e 0 h, eq-eqb (get_or text e 0) line_end q, lt-ltb room ended_bytes f)

  pub at_line : (e : ℕ) → e < length text → get_or text e 0 ≡ line_end → ended_bytes ≤ room → left e ≡ behind (cut text from e) (feed_by (room - length (ended_of (cut text from e))) [] (drop (suc e) text))
  unfolding feed_by
  at_line e h q f = rw (drop-cons text e 0 h, eq-eqb (get_or text e 0) line_end q, le-ltb room ended_bytes f)

-- ---- where a call ends, from what is left to be done and what was lent

pub record End : Type 0 where
  pub line : List ℕ
  pub rest : List ℕ
  pub used : ℕ
  pub words : List ℕ
  pub out : List ℕ

abbrev pub ending : Feed → ℕ → List ℕ → List ℕ → End
ending f used words out =
    record {
      line = f.line;
      rest = f.rest;
      used = used + length (listed_lines f.done);
      words = words_behind f.done words;
      out = written out used (listed_lines f.done);
    }

-- a line is answered
answered : (line : List ℕ) (f : Feed) (words : List ℕ) {used o : ℕ} {words' out out' : List ℕ} → used ≤ length out → Put out used (ended_of line) o out' → words' ≡ words_in line words → ending (behind line f) used words out ≡ ending f o words' out'
unfolding listed_lines words_behind
answered line f words {used} {o} {words'} {out} {out'} h p w =
    let t : List ℕ = listed_lines f.done in
    let u : used + length (ended_of line ++ t) ≡ o + length t = omega (arith, p.next, length-append (ended_of line) t) in
    let v : written out used (ended_of line ++ t) ≡ written out' o t = sym (ap₂ (λ (x : List ℕ) (k : ℕ). written x k t) p.left p.next ∙ written_more out used (ended_of line) t h) in
    rw (u, v, w)

-- nothing is left to be done
ending_stopped : (line rest : List ℕ) (used : ℕ) (words out : List ℕ) → ending (stopped line rest) used words out ≡ record { line = line; rest = rest; used = used; words = words; out = out }
unfolding listed_lines words_behind
ending_stopped line rest used words out = rw (add-zero used, written_nil out used)

-- ---- the loop: what is left comes to what was to be done at first

module _ (text : List ℕ) (n : ℕ) (words₀ out₀ : List ℕ) (used : ℕ) where
  abbrev pub first : End
  first = ending (feed_of text n (length out₀ - used)) used words₀ out₀

  pub record Going (from at o : ℕ) (words out : List ℕ) : Type 0 where
    pub order : from ≤ at
    pub within : at ≤ length text
    pub place : o ≤ length out₀
    pub same_words : length words ≡ length words₀
    pub same_out : length out ≡ length out₀
    pub same : ending (left text (length out₀ - o) from at) o words out ≡ first

  pub going_starts : n ≤ length text → used ≤ length out₀ → Going 0 n used words₀ out₀
  going_starts h g = record { order = omega arith; within = h; place = g; same_words = refl; same_out = refl; same = ap (λ (k : ℕ). ending (feed_by (length out₀ - used) (take k text) (drop n text)) used words₀ out₀) (none n) }
    where
      none : (n : ℕ) → n - 0 ≡ n
      none n = omega arith

  module _ {from at o : ℕ} {words out : List ℕ} (g : Going from at o words out) {e : ℕ} (s : NextEnd text at e) where
    pub going_on : Going from e o words out
    going_on = record {
      order = omega (arith, g.order, s.from);
      within = s.within;
      place = g.place;
      same_words = g.same_words;
      same_out = g.same_out;
      same = ap (λ (f : Feed). ending f o words out) (sym (to_end text (length out₀ - o) from at g.order s)) ∙ g.same;
    }

  module _ {from e o : ℕ} {words out : List ℕ} (g : Going from e o words out) where
    -- the line is answered, and the next one begins
    pub going_line : {o' : ℕ} {words' out' : List ℕ} → e < length text → get_or text e 0 ≡ line_end → ended_bytes ≤ length out₀ - o → Put out o (ended_of (cut text from e)) o' out' → o' ≤ length out₀ → words' ≡ words_in (cut text from e) words → length words' ≡ length words → length out' ≡ length out → Going (e + 1) (e + 1) o' words' out'
    going_line {o'} {words'} {out'} h q f p l w lw lo =
        let line : List ℕ = cut text from e in
        let room : ℕ = length out₀ - o in
        let r : room - length (ended_of line) ≡ length out₀ - o' = less (length out₀) o (length (ended_of line)) o' p.next in
        let z : cut text (e + 1) (e + 1) ≡ [] = ap (λ (k : ℕ). take k (drop (e + 1) text)) (nothing (e + 1)) in
        let b : left text room from e ≡ behind line (left text (length out₀ - o') (e + 1) (e + 1)) = at_line text room from e h q f ∙ rw (r, z, add-one e) in
        record {
          order = omega arith;
          within = omega arith;
          place = l;
          same_words = lw ∙ g.same_words;
          same_out = lo ∙ g.same_out;
          same = sym (answered line (left text (length out₀ - o') (e + 1) (e + 1)) words (omega (arith, g.place, g.same_out)) p w) ∙ ap (λ (x : Feed). ending x o words out) (sym b) ∙ g.same;
        }
      where
        less : (a o k o' : ℕ) → o' ≡ o + k → a - o - k ≡ a - o'
        less a o k o' e = omega arith

        nothing : (k : ℕ) → k - k ≡ 0
        nothing k = omega arith

    -- it is not
    stops : left text (length out₀ - o) from e ≡ stopped (cut text from e) (drop e text) → record { line = cut text from e; rest = drop e text; used = o; words = words; out = out } ≡ first
    stops q = sym (ending_stopped (cut text from e) (drop e text) o words out) ∙ ap (λ (x : Feed). ending x o words out) (sym q) ∙ g.same

    pub came_to : n ≤ length text → frame_words ≤ length words₀ → used ≤ length out₀ → left text (length out₀ - o) from e ≡ stopped (cut text from e) (drop e text) → Feeds text n words₀ out₀ used (Ok (record { from = from; at = e; used = o })) words out
    unfolding fed_to fed_of fed_words fed_out
    came_to h k m q =
        let y : feeds (length text) n (length words₀) (length out₀) used ≡ true = rw (le-leb n (length text) h, le-leb frame_words (length words₀) k, le-leb used (length out₀) m) in
        let s = stops q in
        let le : length (cut text from e) ≡ e - from = cut_length text from e g.within in
        let line : length first.line ≡ e - from = ap (λ (x : End). length x.line) (sym s) ∙ le in
        let rest : length first.rest ≡ length text - e = ap (λ (x : End). length x.rest) (sym s) ∙ length-drop e text in
        let at : e ≡ length text - length first.rest = omega (arith, g.within) in
        let fr : from ≡ length text - length first.rest - length first.line = omega (arith, g.within, g.order) in
        let us : o ≡ first.used = ap (λ (x : End). x.used) s in
        record {
          answer = rw (y, ← fr, ← at, ← us);
          room = g.place;
          words_left = rw y (ap (λ (x : End). x.words) s);
          out_left = rw y (ap (λ (x : End). x.out) s);
        }

  -- ---- the loop's turns and ends, as the code has them

  abbrev pub Asked : Type 0
  Asked = (n ≤ length text) × (frame_words ≤ length words₀) × (used ≤ length out₀)

  module _ (p : Asked) {from at o : ℕ} {words out : List ℕ} (g : Going from at o words out) where
    pub no_end : NextEnd text at (length text) → Feeds text n words₀ out₀ used (Ok (record { from = from; at = length text; used = o })) words out
    no_end s = came_to (going_on g s) p.0 p.1 p.2 (at_none text (length out₀ - o) from (length text) (omega arith))

  module _ (p : Asked) {from at o : ℕ} {words out : List ℕ} (g : Going from at o words out) {e : ℕ} (s : NextEnd text at e) (l : e < length text) where
    pub no_room : length out - o < ended_bytes → Feeds text n words₀ out₀ used (Ok (record { from = from; at = e; used = o })) words out
    no_room f = came_to (going_on g s) p.0 p.1 p.2 (at_full text (length out₀ - o) from e l (s.there l) (omega (arith, g.same_out)))

    pub next_line : {o' : ℕ} {words' out' : List ℕ} → ended_bytes ≤ length out - o → Put out o (ended_of (cut text from e)) o' out' → o' ≤ length out → words' ≡ words_in (cut text from e) words → length words' ≡ length words → length out' ≡ length out → Going (e + 1) (e + 1) o' words' out'
    next_line f q m w lw lo = going_line (going_on g s) l (s.there l) (omega (arith, g.same_out)) q (omega (arith, g.same_out)) w lw lo

-- ---- what is refused, as one test is made behind the other

abbrev pub Lacks : (text n words out used : ℕ) → Type 0
Lacks text n words out used = (text < n) ⊎ (((n ≤ text) × (words < frame_words)) ⊎ ((n ≤ text) × (frame_words ≤ words) × (out < used)))

feeds_not : (text n words out used : ℕ) → Lacks text n words out used → feeds text n words out used ≡ false
feeds_not text n words out used (inl h) = rw (lt-leb n text h)
feeds_not text n words out used (inr (inl h)) = rw (le-leb n text h.0, lt-leb frame_words words h.1)
feeds_not text n words out used (inr (inr h)) = rw (le-leb n text h.0, le-leb frame_words words h.1, lt-leb used out h.2)

pub fed_refused : (text : List ℕ) (n : ℕ) (words out : List ℕ) (used : ℕ) → Lacks (length text) n (length words) (length out) used → Feeds text n words out used (Err NoFit) words out
unfolding fed_of fed_words fed_out
fed_refused text n words out used h =
    let z : feeds (length text) n (length words) (length out) used ≡ false = feeds_not (length text) n (length words) (length out) used h in
    record { answer = rw z; room = tt; words_left = rw z; out_left = rw z }
