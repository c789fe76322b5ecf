-- The limits, and what the writers answer in each case.
-- Assumes nothing.
use Rattle.std.specs.Prelude.{Option, Some, None, Ok, Err}
use mathlib.Core.Path.{◌≡◌, ap, ◌∙◌}
use mathlib.Core.Bool.{Bool, true, false}
use mathlib.Core.List.{List}
use Prim.Native.Nat.{ℕ, ◌+◌, ◌≤◌, ◌<◌}
use native.Mathlib.Omega.{arith}
use lib.Dec.{leb}
use lib.ListN.{length, length-append}
use borrow.Author.Tests.{le-leb, lt-leb, leb-true}
use Rattle.limits.specs.Limits.{bitmap_entries}
use Rattle.limits.specs.declared.refusals.Refusal.TheVariants.{BadPacket, NoFit}
use Rattle.marks.specs.Sets.{and_true, true_and}
use Rattle.texts.specs.Put.{Put, Room}
use Rattle.texts.specs.Decimal.{decimal}
use Rattle.texts.specs.Readers.{bool_text}
use Rattle.packets.specs.Packets.{
  most_bytes,
  limits,
  phase_text,
  bitmap_text,
  data_text,
  tx_text,
  state_text,
  ce_text,
  pipeline_text,
  Within,
  ValidBitmap,
  ValidData,
}
use Rattle.packets.specs.Writing.{text_len, wrote_of, left_of}
use Rattle.packets.specs.declared.Bitmap.{Bitmap}
use Rattle.packets.specs.declared.Data.{Data}
use Rattle.packets.specs.declared.TwoPcPhase.{TwoPcPhase}
use Rattle.packets.specs.declared.TwoPcPhase.TheVariants.{Prepare, Committed, Aborted}
use Rattle.packets.specs.declared.CeTwoPcPacket.{CeTwoPcPacket}
use Rattle.packets.specs.declared.TwoPcPacket.{TwoPcPacket}

pub limits_true : (a b : ℕ) → limits a b ≡ true → (a ≤ 64) × (b ≤ 32)
unfolding limits
limits_true a b h =
    let t = and_true (leb a bitmap_entries) (leb b most_bytes) h in
    (leb-true a bitmap_entries t.0, omega (arith, leb-true b most_bytes t.1))

pub limits_valid : {b : Bitmap} {d : Data} → ValidBitmap b → ValidData d → limits b.len d.len ≡ true
unfolding limits
limits_valid {b} {d} v w =
    true_and (leb b.len bitmap_entries) (leb d.len most_bytes)
    (le-leb b.len bitmap_entries v.at_most64) (le-leb d.len most_bytes (omega (arith, w.at_most32)))

-- within the limits what is measured is the text
pub measured : (fine : Bool) (t : List ℕ) (r : ℕ) → fine ≡ true → r ≡ text_len fine t → r ≡ length t
measured fine t r e h = h ∙ rw e

module _ (t d : List ℕ) (at : ℕ) where
  pub wrote_bad : (fine : Bool) → fine ≡ false → (Err BadPacket ≡ wrote_of fine t d at) × (d ≡ left_of fine t d at)
  unfolding wrote_of left_of
  wrote_bad fine e = (rw e, rw e)

  pub wrote_short : (fine : Bool) → fine ≡ true → length d < at + length t → (Err NoFit ≡ wrote_of fine t d at) × (d ≡ left_of fine t d at)
  unfolding wrote_of left_of
  wrote_short fine e h = (rw (e, lt-leb (at + length t) (length d) h), rw (e, lt-leb (at + length t) (length d) h))

pub wrote : {d : List ℕ} {at : ℕ} {t : List ℕ} {r : ℕ} {d' : List ℕ} (fine : Bool) → fine ≡ true → Room d at t → Put d at t r d'
    → (Ok r ≡ wrote_of fine t d at) × (d' ≡ left_of fine t d at)
unfolding wrote_of left_of
wrote {d} {at} {t} fine e h p = (
  rw (e, le-leb (at + length t) (length d) h.room) (ap (λ (x : ℕ). Ok x) p.next),
  rw (e, le-leb (at + length t) (length d) h.room) p.left,
)

pub phase_le : (p : TwoPcPhase) → length (phase_text p) ≤ 11
phase_le Prepare = omega arith
phase_le Committed = omega arith
phase_le Aborted = omega arith

pub state_le : (p : Option TwoPcPhase) → length (state_text p) ≤ 11
state_le None = omega arith
state_le (Some p) = phase_le p

-- what has no limit has none where it is there
pub any_within : {A : Type 0} (p : Option A) → Within (λ (x : A). Unit {0}) p
any_within None = tt
any_within (Some x) = tt

pub bool_le : (b : Bool) → length (bool_text b) ≤ 5
bool_le true = omega arith
bool_le false = omega arith

pub ce_length : (p : CeTwoPcPacket) → length (ce_text p) ≡ 51 + length (decimal p.term) + length (phase_text p.phase) + length (data_text p.proposal_data) + length (bitmap_text p.flags_bitmap)
unfolding ce_text
ce_length p = simp length-append (omega arith)

pub pipeline_length : (p : TwoPcPacket) → length (pipeline_text p) ≡ 137 + length (decimal p.transaction_id) + length (phase_text p.state) + length (bitmap_text p.flags_bitmap) + length (bool_text p.abort_flag) + length (decimal p.nack_tx_id) + length (data_text p.transaction_data) + length (decimal p.sender) + length (tx_text p.piggyback_tx) + length (state_text p.piggyback_state)
unfolding pipeline_text
pipeline_length p = simp length-append (omega arith)
