-- Each reader of a packet's part is right: it finds a value exactly where the text of a valid one stands.
-- Assumes nothing.
use Rattle.std.specs.Prelude.{Option, Some, None}
use mathlib.Core.Path.{◌≡◌, refl, sym, ap, ap₂, ◌∙◌, subst}
use mathlib.Core.Bool.{Bool, true, false}
use mathlib.Core.List.{List, [], ◌∷◌, ◌++◌}
use Prim.Native.Nat.{ℕ, ◌+◌, ◌^◌, ◌≤◌, ◌<◌}
use native.Mathlib.Omega.{arith}
use lib.ListN.{length, take, drop, replicate, length-take}
use lib.Seq.{take-append_seam, length-take-le}
use Rattle.loops.specs.Pick.{either}
use Rattle.marks.specs.Marks.{marks_of}
use Rattle.marks.specs.Laws.{marks_length}
use Rattle.texts.specs.Put.{written, length_written}
use Rattle.texts.specs.Decimal.{decimal}
use Rattle.texts.specs.Literals.{starts_with, lit_at, Has}
use Rattle.texts.specs.LiteralLaws.{has_as, lit_has}
use Rattle.texts.specs.Readers.{got, Reader, map, is_digit, head_digit, num_at, bool_text, bool_at, null_text, list_text, list_at, stored, Reads}
use Rattle.texts.specs.ReaderLaws.{never, got_value, got_next, reads_as, map_reads, bool_reads, NullOr, is_null, is_some, null_reads}
use Rattle.texts.specs.NumberLaws.{num_reads, digit_first}
use Rattle.texts.specs.ListLaws.{Every, every_all, Listed, list_sound, list_complete}
use Rattle.texts.specs.Stores.{store_mark, store_byte}
use Rattle.texts.specs.StoreLaws.{marks_of_word, word_lt, word_of_marks, stored_word, stored_bytes}
use Rattle.packets.specs.Packets.{most_bytes, phase_text, bitmap_text, data_text, option_text, tx_text, state_text, ValidBitmap, ValidData, Within, ValidTx}
use Rattle.packets.specs.Reading.{phase_at, bitmap_of, bitmap_at, data_of, data_at, option_at, tx_at, state_at}
use Rattle.packets.specs.declared.TwoPcPhase.{TwoPcPhase}
use Rattle.packets.specs.declared.TwoPcPhase.TheVariants.{Prepare, Committed, Aborted}
use Rattle.packets.specs.declared.Data.{Data}

-- ---- phases
phase_sound : (s : List ℕ) (at : ℕ) (q : TwoPcPhase) (n : ℕ) → phase_at s at ≡ got q n → Has s at (phase_text q) n × Unit {0}
unfolding phase_at
phase_sound s at q n h = go (lit_at s at (phase_text Prepare)) refl (lit_at s at (phase_text Committed)) refl (lit_at s at (phase_text Aborted)) refl h
  where
    is : (r : TwoPcPhase) → lit_at s at (phase_text r) ≡ true → got r (at + length (phase_text r)) ≡ got q n → Has s at (phase_text q) n × Unit {0}
    is r p e =
        (subst (λ (k : ℕ). Has s at (phase_text q) k) (got_next e) (has_as (ap phase_text (got_value e)) (lit_has s at (phase_text r) p)), tt)

    go : (t : Bool) → lit_at s at (phase_text Prepare) ≡ t → (u : Bool) → lit_at s at (phase_text Committed) ≡ u → (w : Bool) → lit_at s at (phase_text Aborted) ≡ w
        → either t (got Prepare (at + 9)) (either u (got Committed (at + 11)) (either w (got Aborted (at + 9)) None)) ≡ got q n → Has s at (phase_text q) n × Unit {0}
    go true p u r w o e = is Prepare p e
    go false p true r w o e = is Committed r e
    go false p false r true o e = is Aborted o e
    go false p false r false o e = absurd (never e)

phase_complete : (s : List ℕ) (at : ℕ) (q : TwoPcPhase) (n : ℕ) → Has s at (phase_text q) n → Unit {0} → head_digit (drop n s) ≡ false → phase_at s at ≡ got q n
unfolding phase_at lit_at starts_with
phase_complete s at Prepare n h m d = rw h.here (ap (got Prepare) (sym h.place))
phase_complete s at Committed n h m d = rw h.here (ap (got Committed) (sym h.place))
phase_complete s at Aborted n h m d = rw h.here (ap (got Aborted) (sym h.place))

pub phase_reads : Reads phase_at phase_text (λ _. Unit {0})
phase_reads = record { sound = phase_sound; complete = phase_complete }

-- ---- bitmaps
bools_open : (b : Bool) (x : List ℕ) → starts_with (93 ∷ []) (bool_text b ++ x) ≡ false
unfolding starts_with
bools_open true x = refl
bools_open false x = refl

marks_sound : (s : List ℕ) (at : ℕ) (w : ℕ × ℕ) (n : ℕ) → list_at bool_at store_mark 64 0 s at ≡ got w n → Has s at (bitmap_text (bitmap_of w)) n × ValidBitmap (bitmap_of w)
unfolding bitmap_text
marks_sound s at w n h = of (list_sound bool_reads store_mark 64 0 s at w n h)
  where
    of : Listed bool_reads store_mark 64 0 s at w n → Has s at (list_text bool_text (marks_of w.1 w.0)) n × ValidBitmap (bitmap_of w)
    of l =
        let bs : List Bool = l.items in
        let e : marks_of (stored store_mark 0 bs 0) (length bs) ≡ bs = ap (λ (m : ℕ). marks_of m (length bs)) (stored_word bs) ∙ marks_of_word bs in
        subst (λ (v : ℕ × ℕ). Has s at (list_text bool_text (marks_of v.1 v.0)) n × ValidBitmap (bitmap_of v)) l.value
        (has_as (ap (list_text bool_text) (sym e)) l.has, record { at_most64 = l.bounded; marks_lt = subst (λ (m : ℕ). m < 2 ^ length bs) (sym (stored_word bs)) (word_lt bs) })

marks_complete : (s : List ℕ) (at : ℕ) (w : ℕ × ℕ) (n : ℕ) → Has s at (bitmap_text (bitmap_of w)) n → ValidBitmap (bitmap_of w) → head_digit (drop n s) ≡ false
    → list_at bool_at store_mark 64 0 s at ≡ got w n
unfolding bitmap_text
marks_complete s at w n h v d =
    let bs : List Bool = marks_of w.1 w.0 in
    let l : length bs ≡ w.0 = marks_length w.0 w.1 in
    list_complete bool_reads store_mark bools_open bs 64 0 s at n (every_all (λ _. tt) bs) (omega (arith, v.at_most64)) h
    ∙ ap₂ (λ (x y : ℕ). got (x, y) n) l (stored_word bs ∙ word_of_marks w.0 w.1 v.marks_lt)

pub bitmap_reads : Reads bitmap_at bitmap_text ValidBitmap
unfolding bitmap_at
bitmap_reads = map_reads bitmap_text ValidBitmap bitmap_of (λ b. (b.len, b.marks)) (record { sound = marks_sound; complete = marks_complete }) (λ b v. refl)

-- ---- data
abbrev zeros : List ℕ
zeros = replicate 32 0

-- at the front of an array of zeros, what was written is its first part
front : (xs : List ℕ) → take (length xs) (written zeros 0 xs) ≡ xs
unfolding written
front xs = take-append_seam xs (drop (0 + length xs) zeros)

decimals_open : (n : ℕ) (x : List ℕ) → starts_with (93 ∷ []) (decimal n ++ x) ≡ false
unfolding is_digit
decimals_open n x = digit_first n 93 [] x refl

abbrev byte_reads : Reads (num_at 256) decimal (λ n. n < 256)
byte_reads = num_reads 256 (omega arith)

bytes_sound : (s : List ℕ) (at : ℕ) (w : ℕ × List ℕ) (n : ℕ) → list_at (num_at 256) store_byte most_bytes zeros s at ≡ got w n → Has s at (data_text (data_of w)) n × ValidData (data_of w)
unfolding data_text
bytes_sound s at w n h = of (list_sound byte_reads store_byte most_bytes zeros s at w n h)
  where
    of : Listed byte_reads store_byte most_bytes zeros s at w n → Has s at (list_text decimal (take w.0 w.1)) n × ValidData (data_of w)
    of l =
        let xs : List ℕ = l.items in
        let st : stored store_byte 0 xs zeros ≡ written zeros 0 xs = stored_bytes xs 0 zeros (omega (arith, l.bounded)) in
        let e : take (length xs) (stored store_byte 0 xs zeros) ≡ xs = ap (take (length xs)) st ∙ front xs in
        subst (λ (v : ℕ × List ℕ). Has s at (list_text decimal (take v.0 v.1)) n × ValidData (data_of v)) l.value (
          has_as (ap (list_text decimal) (sym e)) l.has,
          record { at_most32 = omega (arith, l.bounded); small = subst (Every (λ x. x < 256)) (sym e) l.may; zeros = st ∙ ap (written zeros 0) (sym e) },
        )

-- a valid array has its 32 bytes
pub full : (d : Data) → ValidData d → length (take d.len d.bytes) ≡ d.len
full d v =
    let xs : List ℕ = take d.len d.bytes in
    let short : length xs ≤ 32 = omega (arith, length-take d.len d.bytes, v.at_most32) in
    let whole : length d.bytes ≡ 32 = ap length v.zeros ∙ length_written zeros 0 xs (omega arith) in
    length-take-le d.len d.bytes (omega (arith, v.at_most32))

bytes_complete : (s : List ℕ) (at : ℕ) (w : ℕ × List ℕ) (n : ℕ) → Has s at (data_text (data_of w)) n → ValidData (data_of w) → head_digit (drop n s) ≡ false
    → list_at (num_at 256) store_byte most_bytes zeros s at ≡ got w n
unfolding data_text
bytes_complete s at w n h v d =
    let xs : List ℕ = take w.0 w.1 in
    let l : length xs ≡ w.0 = full (data_of w) v in
    list_complete byte_reads store_byte decimals_open xs most_bytes zeros s at n v.small (omega (arith, v.at_most32)) h
    ∙ ap₂ (λ (x : ℕ) (y : List ℕ). got (x, y) n) l (stored_bytes xs 0 zeros (omega (arith, v.at_most32)) ∙ sym v.zeros)

pub data_reads : Reads data_at data_text ValidData
unfolding data_at
data_reads = map_reads data_text ValidData data_of (λ d. (d.len, d.bytes)) (record { sound = bytes_sound; complete = bytes_complete }) (λ d v. refl)

-- ---- what may be absent
module _ {A : Type 0} {rd : Reader A} {text : A → List ℕ} {May : A → Type 0} (r : Reads rd text May) (empty : A)
    (other : (v : A) → May v → (x : List ℕ) → starts_with null_text (text v ++ x) ≡ false) where
  There : Option A → Type 0
  There None = ⊥
  There (Some v) = May v

  abbrev value_of : Option A → A
  value_of None = empty
  value_of (Some v) = v

  back : (v : Option A) → There v → Some (value_of v) ≡ v
  unfolding There
  back None h = absurd h
  back (Some v) h = refl

  no_null : (v : Option A) → There v → (x : List ℕ) → starts_with null_text (option_text text v ++ x) ≡ false
  unfolding There
  no_null None h x = absurd h
  no_null (Some v) h x = other v h x

  to : (v : Option A) → NullOr None (option_text text) There v → Within May v
  unfolding There
  to None m = tt
  to (Some v) (is_some h o) = h

  fro : (v : Option A) → Within May v → NullOr None (option_text text) There v
  unfolding There
  fro None h = is_null
  fro (Some v) h = is_some h (no_null (Some v) h)

  some_reads : Reads (λ s at. map Some (rd s at)) (option_text text) There
  unfolding There
  some_reads = map_reads (option_text text) There Some value_of r back

  pub option_reads : Reads (option_at rd) (option_text text) (Within May)
  unfolding option_at
  option_reads = reads_as (null_reads None some_reads refl no_null) to fro

decimal_other : (n : ℕ) → n < 2 ^ 64 → (x : List ℕ) → starts_with null_text (decimal n ++ x) ≡ false
unfolding is_digit
decimal_other n h x = digit_first n 110 (117 ∷ 108 ∷ 108 ∷ []) x refl

pub tx_reads : Reads tx_at tx_text ValidTx
tx_reads = option_reads (num_reads (2 ^ 64) (omega arith)) 0 decimal_other

phase_other : (p : TwoPcPhase) → Unit {0} → (x : List ℕ) → starts_with null_text (phase_text p ++ x) ≡ false
unfolding starts_with
phase_other Prepare h x = refl
phase_other Committed h x = refl
phase_other Aborted h x = refl

state_any : (v : Option TwoPcPhase) → Unit {0} → Within (λ (p : TwoPcPhase). Unit {0}) v
state_any None h = tt
state_any (Some p) h = tt

pub state_reads : Reads state_at state_text (λ _. Unit {0})
state_reads = reads_as (option_reads phase_reads Prepare phase_other) (λ v m. tt) state_any
