-- The C entries' slices and answers in each case.
-- Assumes nothing.
use Rattle.std.specs.Prelude.{Result, Ok, Err}
use Rattle.limits.specs.declared.refusals.Refusal.{Refusal}
use Rattle.loops.specs.Pick.{either}
use mathlib.Core.Logic.{◌⊎◌, inl, inr}
use mathlib.Core.Path.{◌≡◌, refl, sym, ap}
use mathlib.Core.Bool.{Bool, true, false}
use mathlib.Core.List.{List, ◌++◌}
use native.Mathlib.Nat.{zero-add}
use Prim.Native.Nat.{ℕ, ◌+◌, ◌^◌, ◌≤◌, ◌<◌}
use native.Mathlib.Omega.{arith}
use lib.Dec.{leb, ltb}
use lib.ListN.{length, take, drop}
use lib.Seq.{take_at}
use lib.Pow.{pow_mono}
use borrow.Author.Tests.{le-leb, lt-leb, lt-ltb}
use Rattle.limits.specs.declared.refusals.Refusal.TheVariants.{NoFit}
use Rattle.marks.specs.Sets.{and_true}
use Rattle.texts.specs.Put.{written}
use Rattle.packets.specs.Packets.{limits}
use Rattle.packets.specs.Reading.{ce_read, pipeline_read}
use Rattle.packets.proofs.Writes.{limits_true}
use Rattle.packets_c.specs.Console.{ce_told, pipeline_told, handed, sizes_fit}

-- what a list holds after a part was copied to its front
pub front_written : (d t ys : List ℕ) (n : ℕ) → ys ≡ t → n ≡ length t → ys ++ drop n d ≡ written d 0 t
unfolding written
front_written d t ys n e h = rw (e, h) (ap (λ (k : ℕ). t ++ drop k d) (sym (zero-add (length t))))

-- what a read leaves of a slice: refused, or not refused
pub handed_no : {P : Type 0} {r : Result P Refusal} {k : Refusal} (values : P → List ℕ) (d : List ℕ) → r ≡ Err k → d ≡ handed r values d
unfolding handed
handed_no values d e = rw e

pub handed_yes : {P : Type 0} {r : Result P Refusal} {p : P} (values : P → List ℕ) (d e : List ℕ) → r ≡ Ok p → e ≡ written d 0 (values p) → e ≡ handed r values d
unfolding handed
handed_yes values d e h f = rw h f

module _ (text : List ℕ) (len n b : ℕ) where
  pub ce_few : (n < 5) ⊎ (b < 32) → Err NoFit ≡ ce_told text len n b
  unfolding ce_told
  ce_few = elim [ inl h ↦ rw (lt-leb 5 n h) | inr k ↦ by (leb 5 n) (lt-leb 32 b k) ]
    where
      by : (t : Bool) → leb 32 b ≡ false → Err NoFit ≡ either t (either (leb 32 b) (ce_read text len) (Err NoFit)) (Err NoFit)
      by true e = rw e
      by false e = refl

  pub ce_as_read : 5 ≤ n → 32 ≤ b → ce_read text len ≡ ce_told text len n b
  unfolding ce_told
  ce_as_read h k = rw (le-leb 5 n h, le-leb 32 b k)

module _ (text : List ℕ) (len n b : ℕ) where
  pub pipeline_few : (n < 12) ⊎ (b < 32) → Err NoFit ≡ pipeline_told text len n b
  unfolding pipeline_told
  pipeline_few = elim [ inl h ↦ rw (lt-leb 12 n h) | inr k ↦ by (leb 12 n) (lt-leb 32 b k) ]
    where
      by : (t : Bool) → leb 32 b ≡ false → Err NoFit ≡ either t (either (leb 32 b) (pipeline_read text len) (Err NoFit)) (Err NoFit)
      by true e = rw e
      by false e = refl

  pub pipeline_as_read : 12 ≤ n → 32 ≤ b → pipeline_read text len ≡ pipeline_told text len n b
  unfolding pipeline_told
  pipeline_as_read h k = rw (le-leb 12 n h, le-leb 32 b k)

-- ---- texts and sizes

-- what is written at the start of a buffer is read from there
pub taken_back : (d t : List ℕ) → take (length t) (written d 0 t) ≡ t
unfolding written
taken_back d t = take_at t (drop (0 + length t) d) (length t) refl

-- a bitmap of 64 entries has one for every mark of a word
pub all_fit : (entries marks : ℕ) → 64 ≤ entries → marks < 2 ^ 64 → true ≡ ltb marks (2 ^ entries)
all_fit entries marks h k = sym (lt-ltb marks (2 ^ entries) (omega (arith, pow_mono h)))

-- so much data fits
pub sizes_small : (entries bytes marks : ℕ) → true ≡ sizes_fit entries bytes marks → bytes ≤ 32
sizes_small entries bytes marks h = (limits_true entries bytes (and_true (limits entries bytes) _ (sym h)).0).1
