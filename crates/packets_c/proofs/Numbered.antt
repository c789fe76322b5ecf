-- Numbers and bytes that fit are those of the packet that they ask for, and a packet's numbers and bytes ask for it.
-- Assumes nothing.
use Rattle.std.specs.Prelude.{Option, Some, None}
use mathlib.Core.Path.{◌≡◌, refl, sym, ap, ◌∙◌}
use mathlib.Core.Bool.{Bool, true, false, ◌&&◌}
use mathlib.Core.List.{List, [], ◌∷◌}
use mathlib.Core.Logic.{◌⊎◌, inl, inr, ⊎_elim}
use Prim.Native.Nat.{ℕ, zero, suc, ◌+◌, ◌^◌, ◌≤◌, ◌<◌}
use native.Mathlib.Omega.{arith}
use lib.Dec.{leb, ltb, eqb}
use lib.ListN.{length, take, drop, get_or, replicate, length-take}
use lib.Seq.{drop-cons, length-take-le}
use mir.Val.{bool_byte}
use borrow.Author.Tests.{le-leb, leb-true, eqb-true, lt-ltb, ltb-true}
use Rattle.loops.specs.Pick.{either}
use Rattle.marks.specs.Sets.{and_true, true_and}
use Rattle.texts.specs.Put.{written, length_written}
use Rattle.texts.specs.ListLaws.{Every, none, more}
use Rattle.packets.specs.Packets.{limits, ValidBitmap, ValidData, ValidTx}
use Rattle.packets.specs.declared.TwoPcPhase.{TwoPcPhase}
use Rattle.packets.specs.declared.TwoPcPhase.TheVariants.{Prepare, Committed, Aborted}
use Rattle.packets.specs.declared.Bitmap.{Bitmap}
use Rattle.packets.specs.declared.Data.{Data}
use Rattle.packets.proofs.Writes.{limits_true, limits_valid}
use Rattle.packets_c.specs.Console.{
  phase_number,
  phase_numbered,
  tx_there,
  tx_number,
  tx_numbered,
  state_there,
  state_number,
  state_numbered,
  data_asked,
  sizes_fit,
  ce_fits,
  pair_fits,
  piggyback_fits,
  pipeline_fits,
}
use Rattle.packets_c.proofs.Asked.{taken_back}

-- ---- lists
pub every_take : {P : ℕ → Type 0} (n : ℕ) (l : List ℕ) → Every P l → Every P (take n l)
every_take zero l h = none
every_take (suc n) [] h = none
every_take (suc n) (x ∷ l) (more h k) = more h (every_take n l k)

pub every_at : {P : ℕ → Type 0} (l : List ℕ) (i : ℕ) → P 0 → Every P l → P (get_or l i 0)
every_at [] i z h = z
every_at (x ∷ l) zero z (more h k) = h
every_at (x ∷ l) (suc i) z (more h k) = every_at l i z k

-- k elements from index i on
unfoldable pub picked : ℕ → ℕ → List ℕ → List ℕ
picked i zero m = []
picked i (suc k) m = get_or m i 0 ∷ picked (suc i) k m

pub pick : (k i : ℕ) (m : List ℕ) → i + k ≤ length m → take k (drop i m) ≡ picked i k m
unfolding picked
pick zero i m h = refl
pick (suc k) i m h = rw (drop-cons m i 0 (omega arith)) (ap (get_or m i 0 ∷◌) (pick k (suc i) m (omega arith)))

-- ---- numbers that fit are those of what they ask for, and the other way round
pub phase_back : (n : ℕ) → n ≤ 2 → phase_number (phase_numbered n) ≡ n
phase_back zero h = refl
phase_back (suc zero) h = refl
phase_back (suc (suc zero)) h = refl
phase_back (suc (suc (suc n))) h = absurd (omega arith)

pub phase_again : (p : TwoPcPhase) → phase_numbered (phase_number p) ≡ p
phase_again Prepare = refl
phase_again Committed = refl
phase_again Aborted = refl

pub phase_small : (p : TwoPcPhase) → phase_number p ≤ 2
phase_small Prepare = omega arith
phase_small Committed = omega arith
phase_small Aborted = omega arith

pub flag_back : (n : ℕ) → n ≤ 1 → bool_byte (eqb n 1) ≡ n
flag_back zero h = refl
flag_back (suc zero) h = refl
flag_back (suc (suc n)) h = absurd (omega arith)

pub flag_again : (b : Bool) → eqb (bool_byte b) 1 ≡ b
flag_again true = refl
flag_again false = refl

-- what may be absent: there, or not there and 0
pair_cases : (there n : ℕ) → pair_fits there n ≡ true → (there ≡ 1) ⊎ ((there ≡ 0) × (n ≡ 0))
pair_cases zero n h = inr (refl, eqb-true n 0 h)
pair_cases (suc zero) n h = inl refl
pair_cases (suc (suc there)) n h =
    let l = leb-true (suc (suc there)) 1 (and_true (leb (suc (suc there)) 1) _ h).0 in
    absurd (omega arith)

pub tx_back : (there n : ℕ) → pair_fits there n ≡ true
    → (tx_there (tx_numbered there n) ≡ there) × (tx_number (tx_numbered there n) ≡ n)
tx_back there n h =
    ⊎_elim (λ e. (rw e, rw e)) (λ w. (rw w.0, rw w.0 (sym w.1))) (pair_cases there n h)

pub tx_again : (p : Option ℕ) → tx_numbered (tx_there p) (tx_number p) ≡ p
tx_again None = refl
tx_again (Some n) = refl

pub tx_fits : (p : Option ℕ) → pair_fits (tx_there p) (tx_number p) ≡ true
tx_fits None = refl
tx_fits (Some n) = refl

pub tx_valid : (there n : ℕ) → n < 2 ^ 64 → ValidTx (tx_numbered there n)
tx_valid there n h = go (eqb there 0)
  where
    go : (b : Bool) → ValidTx (either b None (Some n))
    go true = tt
    go false = h

pub state_back : (there n : ℕ) → pair_fits there n ≡ true → n ≤ 2
    → (state_there (state_numbered there n) ≡ there) × (state_number (state_numbered there n) ≡ n)
state_back there n h l =
    ⊎_elim (λ e. (rw e, rw e (phase_back n l))) (λ w. (rw w.0, rw w.0 (sym w.1))) (pair_cases there n h)

pub state_again : (p : Option TwoPcPhase) → state_numbered (state_there p) (state_number p) ≡ p
state_again None = refl
state_again (Some p) = ap Some (phase_again p)

pub state_fits : (p : Option TwoPcPhase) → pair_fits (state_there p) (state_number p) ≡ true
state_fits None = refl
state_fits (Some p) = refl

pub state_small : (p : Option TwoPcPhase) → state_number p ≤ 2
state_small None = omega arith
state_small (Some p) = phase_small p

pub piggyback_fit : (a n b phase : ℕ) → piggyback_fits a n b phase ≡ true
    → (pair_fits a n ≡ true) × (pair_fits b phase ≡ true) × (phase ≤ 2)
piggyback_fit a n b phase h =
    let x = and_true (pair_fits a n) (pair_fits b phase && leb phase 2) h in
    let y = and_true (pair_fits b phase) (leb phase 2) x.1 in
    (x.0, y.0, leb-true phase 2 y.1)

pub piggyback_fits_lem : (t : Option ℕ) (s : Option TwoPcPhase)
    → piggyback_fits (tx_there t) (tx_number t) (state_there s) (state_number s) ≡ true
piggyback_fits_lem t s =
    true_and (pair_fits (tx_there t) (tx_number t)) _ (tx_fits t)
    (true_and (pair_fits (state_there s) (state_number s)) _ (state_fits s) (le-leb _ 2 (state_small s)))

-- ---- what the tests say of numbers that pass them
pub record Sized (entries bytes marks : ℕ) : Type 0 where
  pub few : entries ≤ 64
  pub small : bytes ≤ 32
  pub known : marks < 2 ^ entries

sized : (entries bytes marks : ℕ) → limits entries bytes ≡ true → marks < 2 ^ entries → Sized entries bytes marks
sized entries bytes marks h k =
    let b = limits_true entries bytes h in
    record { few = b.0; small = b.1; known = k }

pub record CeFit (m : List ℕ) : Type 0 where
  pub phase : get_or m 1 0 ≤ 2
  pub sizes : Sized (get_or m 3 0) (get_or m 2 0) (get_or m 4 0)

pub ce_fit : (m : List ℕ) → ce_fits m ≡ true → CeFit m
unfolding ce_fits
ce_fit m h =
    let a = and_true (leb (get_or m 1 0) 2) _ h in
    let b = and_true (limits (get_or m 3 0) (get_or m 2 0)) _ a.1 in
    record {
      phase = leb-true _ 2 a.0;
      sizes =
          sized (get_or m 3 0) (get_or m 2 0) (get_or m 4 0) b.0 (ltb-true (get_or m 4 0) (2 ^ get_or m 3 0) b.1);
    }

pub record PipelineFit (m : List ℕ) : Type 0 where
  pub state : get_or m 1 0 ≤ 2
  pub abort : get_or m 4 0 ≤ 1
  pub sizes : Sized (get_or m 2 0) (get_or m 6 0) (get_or m 3 0)
  pub piggyback : piggyback_fits (get_or m 8 0) (get_or m 9 0) (get_or m 10 0) (get_or m 11 0) ≡ true

pub pipeline_fit : (m : List ℕ) → pipeline_fits m ≡ true → PipelineFit m
unfolding pipeline_fits
pipeline_fit m h =
    let a = and_true (leb (get_or m 1 0) 2) _ h in
    let b = and_true (leb (get_or m 4 0) 1) _ a.1 in
    let c = and_true (sizes_fit (get_or m 2 0) (get_or m 6 0) (get_or m 3 0)) _ b.1 in
    let d = and_true (limits (get_or m 2 0) (get_or m 6 0)) _ c.0 in
    record {
      state = leb-true _ 2 a.0;
      abort = leb-true _ 1 b.0;
      sizes =
          sized (get_or m 2 0) (get_or m 6 0) (get_or m 3 0) d.0 (ltb-true (get_or m 3 0) (2 ^ get_or m 2 0) d.1);
      piggyback = c.1;
    }

-- ---- data that is asked for is valid, and valid data is the data that it asks for
pub data_valid : (bytes : List ℕ) (n : ℕ) → n ≤ 32 → n ≤ length bytes → Every (λ x. x < 256) bytes
    → ValidData (data_asked bytes n)
data_valid bytes n h k s =
    let e : take n (written (replicate 32 0) 0 (take n bytes)) ≡ take n bytes
    = ap (λ (j : ℕ). take j (written (replicate 32 0) 0 (take n bytes))) (sym (length-take-le n bytes k))
    ∙ taken_back (replicate 32 0) (take n bytes) in
    record {
      at_most32 = h;
      small = rw e (every_take n bytes s);
      zeros = ap (written (replicate 32 0) 0) (sym e);
    }

pub data_again : (d : Data) → ValidData d → data_asked d.bytes d.len ≡ d
data_again d v = ap (λ (x : List ℕ). record { len = d.len; bytes = x }) (sym v.zeros)

pub data_room : (d : Data) → ValidData d → d.len ≤ length d.bytes
data_room d v =
    let t = take d.len d.bytes in
    let k : 0 + length t ≤ 32 = omega (arith, length-take d.len d.bytes, v.at_most32) in
    let e : length d.bytes ≡ 32 = ap length v.zeros ∙ length_written (replicate 32 0) 0 t k in
    omega (arith, v.at_most32)

-- the sizes of a valid packet fit
pub sizes_fit_lem : {b : Bitmap} {d : Data} → ValidBitmap b → ValidData d → sizes_fit b.len d.len b.marks ≡ true
sizes_fit_lem {b} {d} v w =
    true_and (limits b.len d.len) (ltb b.marks (2 ^ b.len)) (limits_valid v w)
    (lt-ltb b.marks (2 ^ b.len) v.marks_lt)
