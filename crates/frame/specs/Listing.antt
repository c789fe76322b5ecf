-- RULES 14.1 and 13.7: the listing line of a frame line, without its line end. Assumes nothing: these are definitions.
use Rattle.std.specs.Prelude.{Bool, ◌&&◌, Result, Ok, Err, List, [], ◌∷◌, ◌++◌, ℕ, ◌+◌, ◌*◌, leb, length}
use Rattle.limits.specs.Refusals.{number_of}
use Rattle.limits.specs.declared.refusals.Refusal.{Refusal}
use Rattle.limits.specs.declared.refusals.Refusal.TheVariants.{NoFit}
use Rattle.loops.specs.Pick.{either}
use Rattle.loops.specs.Table.{tabulate}
use Rattle.texts.specs.Decimal.{decimal}
use Rattle.texts.specs.Put.{written}
use Rattle.frame.specs.Bounds.{frame_words, listing_bytes}
use Rattle.frame.specs.Lines.{is_frame, number_at, name_length, words_of, frame_of}
use Rattle.frame.specs.Play.{unless_refused, played_of}

-- The bytes sent. 1 comes before all other refusals.
unfoldable pub outcome_of : List ℕ → Result ℕ Refusal
outcome_of s = unless_refused (λ f. played_of f (words_of s)) (frame_of s)

-- the bytes of the name
unfoldable pub name_of : List ℕ → ℕ → List ℕ
name_of s n = tabulate n (λ k. number_at s (76 + 2 * k) 2)

-- name, blank, bytes sent in decimal
unfoldable pub sent_text : List ℕ → ℕ → List ℕ
sent_text s sent = name_of s (name_length s) ++ ((32 ∷ []) ++ decimal sent)

-- "refused", a blank, and the number
abbrev pub refused_word : List ℕ
refused_word = 114 ∷ 101 ∷ 102 ∷ 117 ∷ 115 ∷ 101 ∷ 100 ∷ 32 ∷ []

unfoldable pub refused_text : ℕ → List ℕ
refused_text k = refused_word ++ decimal k

unfoldable pub text_of : List ℕ → Result ℕ Refusal → List ℕ
text_of s (Ok sent) = sent_text s sent
text_of s (Err k) = refused_text (number_of k)

unfoldable pub listing_of : List ℕ → List ℕ
listing_of s = text_of s (outcome_of s)

-- whether lists of so many words and so many bytes have room for any frame and any listing line
abbrev pub has_room : ℕ → ℕ → Bool
has_room words out = leb frame_words words && leb listing_bytes out

-- What a listing call hands back, the length of the line, and what it leaves in the words and the bytes that it is
-- lent: 10 and both as they were, if either is too short. A frame's words are left at the front of the lent ones, and those behind them stay; a
-- line that is no frame leaves all as they were.
unfoldable pub listed_of : List ℕ → ℕ → ℕ → Result ℕ Refusal
listed_of s words out = either (has_room words out) (Ok (length (listing_of s))) (Err NoFit)

unfoldable pub words_in : List ℕ → List ℕ → List ℕ
words_in s words = either (is_frame s) (written words 0 (words_of s)) words

unfoldable pub words_after : List ℕ → List ℕ → ℕ → List ℕ
words_after s words out = either (has_room (length words) out) (words_in s words) words

unfoldable pub listed_in : List ℕ → ℕ → List ℕ → List ℕ
listed_in s words out = either (has_room words (length out)) (written out 0 (listing_of s)) out
