-- What bounds a frame's fields, its words, and its turns as the loops take them. Assumes nothing.
use mathlib.Core.Path.{◌≡◌, refl, sym, ap, ◌∙◌}
use mathlib.Core.Bool.{Bool, true, false, ◌&&◌}
use mathlib.Core.List.{List}
use Prim.Native.Nat.{ℕ, zero, suc, ◌+◌, ◌-◌, ◌*◌, ◌/◌, ◌≤◌, ◌<◌}
use native.Mathlib.Nat.{le_antisymm}
use native.Mathlib.Numerals.{add-one}
use native.Mathlib.Decide.{dec_lt}
use native.Mathlib.Omega.{arith}
use lib.Dec.{ltb, leb}
use lib.ListN.{length, take, drop, set}
use lib.Seq.{take_at}
use borrow.Author.Tests.{leb-true, ltb-true}
use Rattle.std.specs.Prelude.{Result, Ok, Err}
use Rattle.loops.specs.Pick.{either}
use Rattle.loops.specs.Upto.{upto, upto_more}
use Rattle.loops.specs.Runs.{go, runs, runs_none, runs_turn}
use Rattle.loops.specs.Table.{tabulate, length_tabulate}
use Rattle.texts.specs.Put.{Put, written, put_none, put_as, put_more, put_byte}
use Rattle.limits.specs.declared.refusals.Refusal.{Refusal}
use Rattle.pipeline.specs.declared.pipeline.PipelinePart.{PipelinePart}
use Rattle.room.specs.Capturing.{new_capture}
use Rattle.frame.specs.declared.play.Playing.{Playing}
use Rattle.room.specs.declared.room.RoomConf.{RoomConf}
use Rattle.frame.specs.Bounds.{frame_digits, frame_words}
use Rattle.frame.specs.Lines.{number_at, all_hex, name_length, has_name, is_kind, is_frame, word_count, words_of, fields_of, frame_of, no_frame}
use Rattle.frame.specs.Play.{unless_refused, capture_turn, new_play, play_capture, pipeline_turn, is_done, played_of}
use Rattle.frame.specs.Listing.{outcome_of, words_in}
use Rattle.frame.specs.declared.line.Frame.{Frame}

never : false ≡ true → ⊥
never e = let z : ◌≡◌ {A = ℕ} 0 1 = cc in omega arith

-- ---- the fields of a frame

pub record Kept (s : List ℕ) (f : Frame) : Type 0 where
  pub name : f.name ≡ name_length s
  pub count : f.words ≡ word_count s
  pub few : f.words ≤ frame_words
  pub inside : 76 + 2 * f.name + 16 * f.words ≤ length s
  pub hex : all_hex s ≡ true

left : (p q : Bool) → (p && q) ≡ true → p ≡ true
left true q e = refl
left false q e = absurd (never e)

right : (p q : Bool) → (p && q) ≡ true → q ≡ true
right true q e = e
right false q e = absurd (never e)

named : (s : List ℕ) → has_name s ≡ true → (0 < name_length s) × (76 + 2 * name_length s ≤ length s)
unfolding has_name
named s e =
    let a = right (ltb 0 (name_length s)) _ e in
    (ltb-true 0 (name_length s) (left (ltb 0 (name_length s)) _ e), leb-true (76 + 2 * name_length s) (length s) (left (leb (76 + 2 * name_length s) (length s)) _ a))

bounded : (s : List ℕ) → is_frame s ≡ true → (length s ≤ frame_digits) × (0 < name_length s) × (76 + 2 * name_length s ≤ length s) × (all_hex s ≡ true)
unfolding is_frame
bounded s e =
    let a = right (leb (length s) frame_digits) _ e in
    let b = right (all_hex s) _ a in
    let d = right (leb 78 (length s)) _ b in
    let n = right (is_kind (number_at s 0 2)) (has_name s) d in
    (leb-true (length s) frame_digits (left (leb (length s) frame_digits) _ e), (named s n).0, (named s n).1, left (all_hex s) _ a)

words_few : (l n : ℕ) → l ≤ frame_digits → 0 < n → (l - (76 + 2 * n)) / 16 ≤ frame_words
words_few l n h g = omega arith

words_inside : (l n : ℕ) → 76 + 2 * n ≤ l → 76 + 2 * n + 16 * ((l - (76 + 2 * n)) / 16) ≤ l
words_inside l n h = omega arith

accepted_is : (s : List ℕ) {f : Frame} → Ok f ≡ frame_of s → (is_frame s ≡ true) × (f ≡ fields_of s)
unfolding frame_of
accepted_is s {f} q = go (is_frame s) q
  where
    go : (b : Bool) → Ok f ≡ either b (Ok (fields_of s)) no_frame → (b ≡ true) × (f ≡ fields_of s)
    go true e = (refl, cc)
    go false e = cc

pub kept : (s : List ℕ) {f : Frame} → Ok f ≡ frame_of s → Kept s f
unfolding fields_of word_count name_length
kept s {f} q =
    let a = accepted_is s q in
    let b = bounded s a.0 in
    rw a.1 (record {
      name = refl;
      count = refl;
      few = words_few (length s) (name_length s) b.0 b.1;
      inside = words_inside (length s) (name_length s) b.2;
      hex = b.3;
    })

abbrev pub word_at : List ℕ → ℕ → ℕ → ℕ
word_at s i k = number_at s (i + 16 * k) 16

-- words are stored one behind the other
pub words_start : (ws : List ℕ) (f : ℕ → ℕ) → Put ws 0 (tabulate 0 f) 0 ws
unfolding tabulate
words_start ws f = put_none ws 0

pub words_more : (f : ℕ → ℕ) {ws l : List ℕ} {i v : ℕ} → i < length l → Put ws 0 (tabulate i f) i l → v ≡ f i → Put ws 0 (tabulate (i + 1) f) (i + 1) (set l i v)
unfolding tabulate
words_more f {ws} {l} {i} {v} h p e = put_as (rw (add-one i, e)) (put_more (omega arith) p (put_byte l i v h))

pub words_stored : (f : ℕ → ℕ) {ws l : List ℕ} {i n : ℕ} → i ≤ n → n ≤ i → Put ws 0 (tabulate i f) i l → l ≡ written ws 0 (tabulate n f)
words_stored f {ws} h g p = p.left ∙ ap (λ (k : ℕ). written ws 0 (tabulate k f)) (le_antisymm h g)

-- the words of a frame, as they stand at the front of the lent ones
words_read : (s : List ℕ) (n m : ℕ) → n ≡ word_count s → m ≡ name_length s → tabulate n (word_at s (76 + 2 * m)) ≡ words_of s
unfolding words_of
words_read s n m e q = rw (e, q)

words_front : (ws t : List ℕ) (n : ℕ) → length t ≡ n → take n (written ws 0 t) ≡ t
unfolding written
words_front ws t n e = take_at t (drop (0 + length t) ws) n e

-- no frame: the words stay
pub no_words : (s ws : List ℕ) {k : Refusal} → Err k ≡ frame_of s → ws ≡ words_in s ws
unfolding frame_of words_in
no_words s ws {k} e = go (is_frame s) e
  where
    go : (b : Bool) → Err k ≡ either b (Ok (fields_of s)) no_frame → ws ≡ either b (written ws 0 (words_of s)) ws
    go true e = cc
    go false e = refl

module _ (s ws : List ℕ) {f : Frame} (e : Ok f ≡ frame_of s) {vs : List ℕ} (w : vs ≡ written ws 0 (tabulate f.words (word_at s (76 + 2 * f.name)))) where
  stored : tabulate f.words (word_at s (76 + 2 * f.name)) ≡ words_of s
  stored = words_read s f.words f.name (kept s e).count (kept s e).name

  pub words_left : vs ≡ words_in s ws
  unfolding words_in
  words_left = rw (accepted_is s e).0 (w ∙ ap (written ws 0) stored)

  pub a_frame : {r : Result ℕ Refusal} → r ≡ played_of f (take f.words vs) → r ≡ outcome_of s
  unfolding outcome_of
  a_frame q =
      let t : take f.words vs ≡ words_of s = ap (take f.words) w ∙ words_front ws _ f.words (length_tabulate f.words _) ∙ stored in
      rw (← e) (q ∙ ap (played_of f) t)

-- ---- turns, as a loop takes them

pub captured_none : (ws : List ℕ) (conf : RoomConf) → Ok (new_play (new_capture 0)) ≡ play_capture 0 ws conf
unfolding play_capture upto
captured_none ws conf = refl

pub captured_more : (k : ℕ) (ws : List ℕ) (conf : RoomConf) → play_capture (k + 1) ws conf ≡ unless_refused (capture_turn ws conf k) (play_capture k ws conf)
unfolding play_capture
captured_more k ws conf = upto_more (λ j. unless_refused (capture_turn ws conf j)) (Ok (new_play (new_capture 0))) k

-- a refusal stays
pub captured_refused : (t k : ℕ) (ws : List ℕ) (conf : RoomConf) {e : Refusal} → play_capture (k + 1) ws conf ≡ Err e → k < t → play_capture t ws conf ≡ Err e
unfolding play_capture upto
captured_refused zero k ws conf h l = absurd (omega arith)
captured_refused (suc t) k ws conf {e} h l = go (dec_lt k t) (λ m. captured_refused t k ws conf h m)
  where
    last : (k t : ℕ) → k < suc t → (k < t → ⊥) → suc t ≡ k + 1
    last k t l q = omega arith

    go : Dec (k < t) → (k < t → play_capture t ws conf ≡ Err e) → play_capture (suc t) ws conf ≡ Err e
    go (yes m) stays = ap (unless_refused (capture_turn ws conf t)) (stays m)
    go (no q) stays = ap (λ (j : ℕ). play_capture j ws conf) (last k t l q) ∙ h

module _ (ws : List ℕ) (conf : RoomConf) where
  -- what at most n more turns leave
  abbrev pub going : ℕ → Result (Playing PipelinePart) Refusal → Result (Playing PipelinePart) Refusal
  going n r = runs is_done (unless_refused (pipeline_turn ws conf)) n r

  going_ends : (n : ℕ) (r : Result (Playing PipelinePart) Refusal) → is_done r ≡ true → going n r ≡ r
  unfolding go
  going_ends zero r e = refl
  going_ends (suc n) r e = rw e

  pub going_stop : (n : ℕ) (s : Playing PipelinePart) {v : Result (Playing PipelinePart) Refusal} → s.part.stop ≡ true → going n (Ok s) ≡ v → Ok s ≡ v
  going_stop n s b e = sym (going_ends n (Ok s) b) ∙ e

  pub going_refused : (n : ℕ) (k : Refusal) {v : Result (Playing PipelinePart) Refusal} → going n (Err k) ≡ v → Err k ≡ v
  going_refused n k e = sym (going_ends n (Err k) refl) ∙ e

  pub going_out : {n k : ℕ} {r v : Result (Playing PipelinePart) Refusal} → n ≤ k → going (n - k) r ≡ v → r ≡ v
  going_out h e = runs_none is_done (unless_refused (pipeline_turn ws conf)) (omega arith) e

  pub going_on : {n k : ℕ} (s : Playing PipelinePart) {r v : Result (Playing PipelinePart) Refusal} → k < n → s.part.stop ≡ false → r ≡ pipeline_turn ws conf s → going (n - k) (Ok s) ≡ v → going (n - (k + 1)) r ≡ v
  going_on {n} {k} s {r} h b q e =
      ap (λ (m : ℕ). going m r) (less n k) ∙ runs_turn is_done (unless_refused (pipeline_turn ws conf)) {s = Ok s} (omega arith) b q e
    where
      less : (n k : ℕ) → n - (k + 1) ≡ n - k - 1
      less n k = omega arith
