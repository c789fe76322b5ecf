-- White space and structural characters: what is left of a text that begins with them. Assumes nothing.
use mathlib.Core.Path.{◌≡◌, refl, ap, ◌∙◌}
use mathlib.Core.Bool.{Bool, true, false, cond, not}
use mathlib.Core.List.{List, [], ◌∷◌, ◌++◌, append_assoc}
use Prim.Native.Nat.{ℕ}
use lib.Dec.{T}
use Rattle.texts.specs.Rfc8259.{Tree, Ws, Token}
use Rattle.texts.specs.Single.{is_space, is_numeric, no_numeric, no_space, stops}

-- a text from its first byte on that is no white space
unfoldable pub skip : List ℕ → List ℕ
skip [] = []
skip (b ∷ s) = cond (is_space b) (skip s) (b ∷ s)

pub shut : (a : Bool) → T (not a) → a ≡ false
shut true h = absurd h
shut false h = refl

-- ---- white space
pub skip_ws : {u : List ℕ} → Ws u → (x : List ℕ) → skip (u ++ x) ≡ skip x
unfolding skip
skip_ws Ws.end x = refl
skip_ws (Ws.blank d) x = skip_ws d x
skip_ws (Ws.tab d) x = skip_ws d x
skip_ws (Ws.feed d) x = skip_ws d x
skip_ws (Ws.return d) x = skip_ws d x

ws_apart : {u : List ℕ} → Ws u → (x : List ℕ) → T (no_numeric x) → T (no_numeric (u ++ x))
ws_apart Ws.end x h = h
ws_apart (Ws.blank d) x h = tt
ws_apart (Ws.tab d) x h = tt
ws_apart (Ws.feed d) x h = tt
ws_apart (Ws.return d) x h = tt

pub all_apart : {w : List ℕ} → Ws w → T (no_numeric w)
all_apart Ws.end = tt
all_apart (Ws.blank d) = tt
all_apart (Ws.tab d) = tt
all_apart (Ws.feed d) = tt
all_apart (Ws.return d) = tt

pub skip_byte : (b : ℕ) (x : List ℕ) → is_space b ≡ false → skip (b ∷ x) ≡ b ∷ x
unfolding skip
skip_byte b x h = rw h

pub skip_none : (r : List ℕ) → T (no_space r) → skip r ≡ r
unfolding skip
skip_none [] h = refl
skip_none (b ∷ r) h = rw (shut (is_space b) h)

-- ---- a structural character: its byte, and the white space behind it
pub record Opened (b : ℕ) (a : List ℕ) : Type 0 where
  pub space : List ℕ
  pub blank : Ws space
  pub first : (x : List ℕ) → skip (a ++ x) ≡ b ∷ (space ++ x)

pub opened : {b : ℕ} {a : List ℕ} → is_space b ≡ false → Token b a → Opened b a
opened {b} h (Token.token {u} {w} p q) =
    record {
      space = w;
      blank = q;
      first = λ x. ap skip (append_assoc u (b ∷ w) x) ∙ (skip_ws p (b ∷ (w ++ x)) ∙ skip_byte b (w ++ x) h);
    }

pub token_apart : {b : ℕ} {a : List ℕ} → T (not (is_numeric b)) → Token b a → (x : List ℕ) → T (no_numeric (a ++ x))
token_apart {b} h (Token.token {u} {w} p q) x = rw append_assoc (ws_apart p (b ∷ (w ++ x)) h)

-- ---- what may stand behind a value if the white space that it ends in is left aside: only a number asks for something
abbrev pub ends : Tree → List ℕ → Bool
ends Tree.null r = true
ends (Tree.bool b) r = true
ends (Tree.number t) r = no_numeric r
ends (Tree.string u) r = true
ends (Tree.array vs) r = true
ends (Tree.object fs) r = true

-- no byte of a number ends every value
pub apart_ends : (v : Tree) (r : List ℕ) → T (no_numeric r) → T (ends v r)
apart_ends Tree.null r h = tt
apart_ends (Tree.bool b) r h = tt
apart_ends (Tree.number t) r h = h
apart_ends (Tree.string u) r h = tt
apart_ends (Tree.array vs) r h = tt
apart_ends (Tree.object fs) r h = tt

-- what stops a value ends it
pub stops_ends : (v : Tree) (r : List ℕ) → T (stops v r) → T (ends v r)
stops_ends Tree.null r h = tt
stops_ends (Tree.bool b) r h = tt
stops_ends (Tree.number t) r h = h
stops_ends (Tree.string u) r h = tt
stops_ends (Tree.array vs) r h = tt
stops_ends (Tree.object fs) r h = tt
