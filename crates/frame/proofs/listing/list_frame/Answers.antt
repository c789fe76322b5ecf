use Rattle.std.proofs.Common.{true, ap, subst, ◌∙◌, ◌≡◌, ◌≤◌, ◌+◌, ◌*◌, List, ℕ, ◌++◌, length, take, drop, take-append-drop, arith}
use Rattle.loops.specs.Table.{length_tabulate}
use Rattle.texts.specs.Put.{Put}
use Rattle.frame.specs.Lines.{is_frame, frame_of, fields_of, words_of, word_count, number_at, name_length}
use Rattle.frame.specs.Listing.{words_in}
use Rattle.frame.proofs.Playing.{kept}
use mathlib.Core.Logic.{inl, inr}
use Rattle.frame.specs.Bounds.{frame_words, listing_bytes}
use Rattle.frame.proofs.Texts.{too_short, listed, words_front, put_front}
use Rattle.frame.proofs.listing.list_frame.Goals as goal

-- a frame has no more words
few : (s : List ℕ) → is_frame s ≡ true → length (words_of s) ≤ frame_words
unfolding frame_of words_of
few s e =
    let k = kept s {f = fields_of s} (rw e) in
    omega (arith, k.few, k.count, length_tabulate (word_count s) (λ k. number_at s (76 + 2 * name_length s + 16 * k) 16))

-- what was written into the first bytes that were lent
put_text_front : (out : List ℕ) {front t part : List ℕ} {r : ℕ} → front ≡ take listing_bytes out → Put front 0 t r part → r ≤ listing_bytes → Put out 0 t r (part ++ drop listing_bytes out)
put_text_front out {front} {t} {part} {r} e p h = put_front out listing_bytes (omega (arith, p.next)) (subst (λ (x : List ℕ). Put x 0 t r part) e p)

pub returns-in_default : goal.returns-in_default
returns-in_default c =
    let t = too_short c.args.line.now c.args.words.now c.args.out.now (inl c.in_default.ensures.cases) in
    (t.0, tt, t.1, t.2)

pub returns-in_default-first_chunk_mut : goal.returns-in_default-first_chunk_mut
returns-in_default-first_chunk_mut c =
    let t = too_short c.args.line.now c.args.words.now c.args.out.now (inr c.in_default-first_chunk_mut.ensures.cases) in
    let whole = ap (λ (x : List ℕ). x ++ drop frame_words c.args.words.now) c.in-Some.ensures.cases.same ∙ take-append-drop frame_words c.args.words.now in
    (t.0, tt, whole ∙ t.1, t.2)

pub returns : goal.returns
returns c =
    let line = c.args.line.now in
    let read = c.in-Some.ensures.cases in
    let written = c.in-Some-first_chunk_mut.ensures.cases in
    let words = ap (λ (x : List ℕ). x ++ drop frame_words c.args.words.now) (c.outcome_of-outcome.ensures.1 ∙ ap (words_in line) read.same) ∙ words_front line c.args.words.now read.enough (few line) in
    let text = put_text_front c.args.out.now written.same c.put_text.ensures.0 c.put_text.ensures.1 in
    let t = listed line c.args.words.now c.args.out.now read.enough written.enough c.outcome_of-outcome.ensures.0 words text in
    (t.0, c.put_text.ensures.1, t.1, t.2)
