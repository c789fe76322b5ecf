-- The length of a capture packet's text, told from its parts, is the length of the text.
-- Assumes nothing.
use mathlib.Core.Path.{◌≡◌, refl}
use mathlib.Core.Bool.{Bool, true, false, ◌&&◌}
use mathlib.Core.List.{List, [], ◌∷◌}
use Prim.Native.Nat.{ℕ, ◌+◌, ◌≤◌, ◌<◌}
use native.Mathlib.Omega.{arith}
use lib.Dec.{leb, ltb}
use lib.ListN.{length, take}
use borrow.Author.Tests.{lt-ltb, le-leb}
use Rattle.loops.specs.Pick.{either}
use Rattle.texts.specs.Decimal.{decimal}
use Rattle.texts.specs.Readers.{list_text}
use Rattle.packets.specs.Packets.{most_bytes, limits, phase_text, data_text, ce_text, ce_within}
use Rattle.packets.specs.Writing.{text_len, data_len, bitmap_len, parts_len}
use Rattle.packets.specs.declared.Bitmap.{Bitmap}
use Rattle.packets.specs.declared.CeTwoPcPacket.{CeTwoPcPacket}
use Rattle.packets.specs.declared.Data.{Data}
use Rattle.packets.proofs.Texts.{bitmap_len_is}
use Rattle.packets.proofs.Writes.{ce_length}

-- two brackets at least
list_some : (xs : List ℕ) → 0 < length (list_text decimal xs)
unfolding list_text
list_some [] = omega arith
list_some (x ∷ r) = omega arith

data_some : (d : Data) → 0 < length (data_text d)
unfolding data_text
data_some d = list_some (take d.len d.bytes)

-- Data whose text has x bytes, at most 129 if it has a text, and the rest of a packet around it: h before, b behind.
by_limits : (s t : Bool) (x y h b : ℕ) → 0 < x → y ≡ h + x + b → either t x 0 ≤ 129
    → either (s && t) y 0 ≡ either (s && (ltb 0 (either t x 0) && leb (either t x 0) 129)) (h + either t x 0 + b) 0
by_limits true true x y h b some e k = rw (lt-ltb 0 x some, le-leb x 129 k) e
by_limits true false x y h b some e k = refl
by_limits false t x y h b some e k = refl

-- The bound holds of every packet that code can hold, whose bytes are below 256: `data_text_len` says so.
-- A list of larger numbers has a longer text.
pub parts_is : (p : CeTwoPcPacket) → data_len p.proposal_data ≤ 129
    → text_len (ce_within p) (ce_text p) ≡ parts_len p.term p.phase (data_len p.proposal_data) p.flags_bitmap
unfolding limits data_len parts_len
parts_is p small =
    let d : Data = p.proposal_data in
    let b : Bitmap = p.flags_bitmap in
    by_limits (leb b.len 64) (leb d.len most_bytes) (length (data_text d)) (length (ce_text p))
    (51 + length (decimal p.term) + length (phase_text p.phase)) (bitmap_len b)
    (data_some d)
    (rw (← bitmap_len_is b) (ce_length p))
    small
