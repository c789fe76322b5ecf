-- RULES 5.3 rests on this: RFC 8259 says one thing of a text: no text has two values, and where a value, a number or a
-- string at the front of a text ends is settled by the text. proofs/Single.antt proves it; proofs/Needs.antt proves
-- that the laws on fronts are false without what they ask of the bytes behind. Assumes nothing: these are statements.
use Rattle.std.specs.Prelude.{◌≡◌, Bool, true, ◌&&◌, ◌||◌, not, List, [], ◌∷◌, ◌++◌, ℕ, T, leb, ltb, eqb}
use Rattle.texts.specs.Rfc8259.{Tree, Number, Str, Value, Json}

-- section 2: blank, tab, line feed, carriage return
abbrev pub is_space : ℕ → Bool
is_space b = eqb b 32 || (eqb b 9 || (eqb b 10 || eqb b 13))

-- section 6: a byte that some number has: a digit or one of + - . E e
abbrev pub is_numeric : ℕ → Bool
is_numeric b =
    (leb 48 b && ltb b 58) || (eqb b 43 || (eqb b 45 || (eqb b 46 || (eqb b 69 || eqb b 101))))

-- a text that begins with no byte of a number, and one that begins with no white space
abbrev pub no_numeric : List ℕ → Bool
no_numeric [] = true
no_numeric (b ∷ r) = not (is_numeric b)

abbrev pub no_space : List ℕ → Bool
no_space [] = true
no_space (b ∷ r) = not (is_space b)

-- What may stand behind a value that is taken whole: no byte of a number behind a number; no white space behind an
-- array or an object, whose last rule takes white space too; behind all else anything, since it shows by itself where
-- it ends.
abbrev pub stops : Tree → List ℕ → Bool
stops Tree.null r = true
stops (Tree.bool b) r = true
stops (Tree.number t) r = no_numeric r
stops (Tree.string u) r = true
stops (Tree.array vs) r = no_space r
stops (Tree.object fs) r = no_space r

pub record Single : Type 0 where
  -- a text says one thing
  pub text : {s : List ℕ} {v w : Tree} → Json s v → Json s w → v ≡ w
  -- two values at the front of one text are one, where what follows goes on with neither
  pub value : {t₁ t₂ : List ℕ} {v₁ v₂ : Tree} {r₁ r₂ : List ℕ}
      → Value t₁ v₁ → Value t₂ v₂ → T (stops v₁ r₁) → T (stops v₂ r₂)
      → t₁ ++ r₁ ≡ t₂ ++ r₂ → (t₁ ≡ t₂) × (v₁ ≡ v₂) × (r₁ ≡ r₂)
  -- two numbers, and two strings, at the front of one text
  pub number : {t₁ t₂ r₁ r₂ : List ℕ}
      → Number t₁ → Number t₂ → T (no_numeric r₁) → T (no_numeric r₂)
      → t₁ ++ r₁ ≡ t₂ ++ r₂ → (t₁ ≡ t₂) × (r₁ ≡ r₂)
  pub string : {t₁ t₂ u₁ u₂ r₁ r₂ : List ℕ}
      → Str t₁ u₁ → Str t₂ u₂ → t₁ ++ r₁ ≡ t₂ ++ r₂ → (t₁ ≡ t₂) × (u₁ ≡ u₂) × (r₁ ≡ r₂)
