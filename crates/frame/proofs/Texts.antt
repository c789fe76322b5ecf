-- A listing line, part by part as it is written. Assumes nothing.
use mathlib.Core.Path.{◌≡◌, refl, sym, ap, ap₂, ◌∙◌}
use mathlib.Core.Bool.{Bool, true, false, ◌&&◌}
use mathlib.Core.List.{List, [], ◌∷◌, ◌++◌, append_assoc, append-nil}
use mathlib.Core.Logic.{◌⊎◌, inl, inr}
use Prim.Native.Nat.{ℕ, ◌+◌, ◌-◌, ◌*◌, ◌^◌, ◌≤◌, ◌<◌}
use native.Mathlib.Numerals.{add-one}
use native.Mathlib.Omega.{arith}
use lib.Dec.{leb}
use borrow.Author.Tests.{le-leb, lt-leb}
use lib.ListN.{length, take, drop, length-append, length-drop, drop_of_length-le}
use lib.Seq.{drop-drop, take_all, length-take-le}
use Rattle.std.proofs.lemmas.List.{drop-take, take-append-drop}
use Rattle.loops.specs.Table.{tabulate, length_tabulate}
use Rattle.texts.specs.Decimal.{decimal, decimal_word}
use Rattle.texts.specs.Put.{Put, Room, written, put_none, put_as, put_more, length_written}
use Rattle.frame.specs.Bounds.{frame_digits, frame_words, listing_bytes}
use Rattle.std.specs.Prelude.{Result, Ok, Err}
use Rattle.limits.specs.declared.refusals.Refusal.{Refusal}
use Rattle.limits.specs.declared.refusals.Refusal.TheVariants.{NoFit}
use Rattle.loops.specs.Pick.{either}
use Rattle.frame.specs.Lines.{number_at, name_length, is_frame, frame_of, words_of}
use Rattle.frame.specs.Listing.{outcome_of, name_of, sent_text, refused_word, refused_text, text_of, listing_of, has_room, listed_of, words_in, words_after, listed_in}
use Rattle.frame.proofs.Digits.{number_lt}

pub name_length_lem : (s : List ℕ) (k : ℕ) → length (name_of s k) ≡ k
unfolding name_of
name_length_lem s k = length_tabulate k (λ x. number_at s (76 + 2 * x) 2)

pub name_start : (s out : List ℕ) → Put out 0 (name_of s 0) 0 out
unfolding name_of tabulate
name_start s out = put_none out 0

-- a text in the n bytes that are lent from a place on
pub rest_long : (d : List ℕ) (o n : ℕ) → o + n ≡ length d → length (take n (drop o d)) ≡ n
rest_long d o n h = length-take-le n (drop o d) (omega (arith, length-drop o d))

pub put_rest : (d : List ℕ) (o n : ℕ) {t part : List ℕ} {r : ℕ} → o + n ≡ length d → Put (take n (drop o d)) 0 t r part → Put d o t (o + r) (take o d ++ (part ++ drop n (drop o d)))
unfolding written
put_rest d o n {t} {part} {r} h p =
    let l : take n (drop o d) ≡ drop o d = take_all n (drop o d) (omega (arith, length-drop o d)) in
    let e : drop n (drop o d) ≡ [] = drop_of_length-le (drop o d) {i = n} (omega (arith, length-drop o d)) in
    let v : part ++ drop n (drop o d) ≡ t ++ drop (o + length t) d = rw (e, append-nil, p.left, l, drop-drop (0 + length t) o d) (ap (λ (k : ℕ). t ++ drop k d) (sum o (length t))) in
    record {
      next = omega (arith, p.next);
      left = ap (λ (x : List ℕ). take o d ++ x) v ∙ sym (append_assoc (take o d) t (drop (o + length t) d));
    }
  where
    sum : (a b : ℕ) → a + (0 + b) ≡ a + b
    sum a b = omega arith

-- a text in the first n of what is lent
written_front : (d : List ℕ) (n : ℕ) (t : List ℕ) → length t ≤ n → written (take n d) 0 t ++ drop n d ≡ written d 0 t
unfolding written
written_front d n t g =
    append_assoc t (drop (0 + length t) (take n d)) (drop n d) ∙ ap (λ (x : List ℕ). t ++ x) (behind (0 + length t) (n - length t) (omega arith))
  where
    behind : (k m : ℕ) → k + m ≡ n → drop k (take n d) ++ drop n d ≡ drop k d
    behind k m e =
        let front : drop k (take n d) ≡ take m (drop k d) = ap (λ (j : ℕ). drop k (take j d)) (sym e) ∙ drop-take k m d in
        let rest : drop n d ≡ drop m (drop k d) = ap (λ (j : ℕ). drop j d) (sym e) ∙ sym (drop-drop m k d) in
        ap₂ (λ (x y : List ℕ). x ++ y) front rest ∙ take-append-drop m (drop k d)

pub put_front : (d : List ℕ) (n : ℕ) {t part : List ℕ} {r : ℕ} → length t ≤ n → Put (take n d) 0 t r part → Put d 0 t r (part ++ drop n d)
put_front d n {t} {part} {r} g p = record { next = p.next; left = ap (λ (x : List ℕ). x ++ drop n d) p.left ∙ written_front d n t g }

-- the word, with no digits behind it yet
pub refused_put : (d : List ℕ) {w : List ℕ} → w ≡ refused_word → Put d 0 refused_word 8 (w ++ drop 8 d)
unfolding written
refused_put d e = record { next = refl; left = rw e }

-- a byte more
pub name_more : (s : List ℕ) (k b : ℕ) {out d e : List ℕ} {o r : ℕ} → 0 ≤ length out → b ≡ number_at s (76 + 2 * k) 2 → Put out 0 (name_of s k) o d → Put d o (b ∷ []) r e → Put out 0 (name_of s (k + 1)) r e
unfolding name_of tabulate
name_more s k b h q p n = put_as (rw (add-one k, q)) (put_more h p n)

-- the longest line fits 276 bytes
pub refused_room : (k : ℕ) (d : List ℕ) → k < 2 ^ 64 → listing_bytes ≤ length d → Room d 0 (refused_word ++ decimal k)
refused_room k d h g = record { room = omega (arith, length-append refused_word (decimal k), decimal_word k h) }

name_kept : (s : List ℕ) {n : ℕ} {out d : List ℕ} {o : ℕ} → n ≤ length out → Put out 0 (name_of s n) o d → length d ≡ length out
name_kept s {n} {out} h p = ap length p.left ∙ length_written out 0 (name_of s n) (omega (arith, name_length_lem s n))

-- name and blank are put, and then the number
module _ (s : List ℕ) (sent : ℕ) {n : ℕ} {out d e : List ℕ} {o r : ℕ} (g : listing_bytes ≤ length out) (q : n ≡ name_length s) (m : n ≤ 255) (p : Put out 0 (name_of s n) o d) (b : Put d o (32 ∷ []) r e) where
  pub sent_put : {v : List ℕ} {w : ℕ} → Put e r (decimal sent) w v → Put out 0 (sent_text s sent) w v
  unfolding sent_text
  sent_put t =
      let ld : length d ≡ length out = name_kept s (omega arith) p in
      put_as (rw (← q)) (put_more (omega arith) p (put_more (omega (arith, p.next, name_length_lem s n)) b t))

-- no listing line is longer than that
pub sent_short : (s : List ℕ) (sent : ℕ) → sent < 2 ^ 64 → length (sent_text s sent) ≤ listing_bytes
unfolding sent_text name_length
sent_short s sent h = omega (arith, length-append (name_of s (name_length s)) ((32 ∷ []) ++ decimal sent), name_length_lem s (name_length s), number_lt s 74 2, length-append (32 ∷ []) (decimal sent), decimal_word sent h)

pub refused_short : (k : ℕ) → k < 2 ^ 64 → length (refused_text k) ≤ listing_bytes
unfolding refused_text
refused_short k h = omega (arith, length-append refused_word (decimal k), decimal_word k h)

-- a line of too many digits is refused, whatever they are
pub long_refused : (s : List ℕ) → frame_digits < length s → listing_of s ≡ refused_text 1
unfolding listing_of text_of outcome_of frame_of is_frame
long_refused s h = rw (lt-leb (length s) frame_digits h)

-- ---- a listing call

-- a frame's words in the first that are lent
pub words_front : (s ws : List ℕ) → frame_words ≤ length ws → (is_frame s ≡ true → length (words_of s) ≤ frame_words) → words_in s (take frame_words ws) ++ drop frame_words ws ≡ words_in s ws
unfolding words_in
words_front s ws h f = go (is_frame s) f
  where
    go : (b : Bool) → (b ≡ true → length (words_of s) ≤ frame_words) → either b (written (take frame_words ws) 0 (words_of s)) (take frame_words ws) ++ drop frame_words ws ≡ either b (written ws 0 (words_of s)) ws
    go true f = written_front ws frame_words (words_of s) (f refl)
    go false f = take-append-drop frame_words ws

room_not : (w o : ℕ) → (w < frame_words) ⊎ (o < listing_bytes) → has_room w o ≡ false
room_not w o (inl h) = rw (lt-leb frame_words w h)
room_not w o (inr h) = go (leb frame_words w)
  where
    go : (b : Bool) → (b && leb listing_bytes o) ≡ false
    go true = lt-leb listing_bytes o h
    go false = refl

module _ (s words out : List ℕ) where
  pub too_short : (length words < frame_words) ⊎ (length out < listing_bytes) → (Err NoFit ≡ listed_of s (length words) (length out)) × (words ≡ words_after s words (length out)) × (out ≡ listed_in s (length words) out)
  unfolding listed_of listed_in words_after
  too_short h =
      let n : has_room (length words) (length out) ≡ false = room_not (length words) (length out) h in
      (rw n, rw n, rw n)

  pub listed : {o : Result ℕ Refusal} {r : ℕ} {ws d : List ℕ} → frame_words ≤ length words → listing_bytes ≤ length out → o ≡ outcome_of s → ws ≡ words_in s words → Put out 0 (text_of s o) r d → (Ok r ≡ listed_of s (length words) (length out)) × (ws ≡ words_after s words (length out)) × (d ≡ listed_in s (length words) out)
  unfolding listed_of listed_in listing_of words_after
  listed {o} {r} h g e w p =
      let n : r ≡ length (text_of s o) = omega (arith, p.next) in
      let y : has_room (length words) (length out) ≡ true = rw (le-leb frame_words (length words) h, le-leb listing_bytes (length out) g) in
      (rw (y, ← e, n), rw y w, rw (y, ← e, p.left))
