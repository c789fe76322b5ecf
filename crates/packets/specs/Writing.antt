-- What the writers answer and leave, by RULES 5.6, and refusals 9 and 10 of RULES 15, for a packet with the text t;
-- `fine` says that it is within the limits. And how long a capture packet's text is, told from its parts: no rule;
-- proofs/Lengths has it equal to the text's length. Assumes nothing: these are definitions.
use Rattle.std.specs.Prelude.{Result, Ok, Err, Bool, ◌&&◌, List, ℕ, ◌+◌, ◌-◌, ◌*◌, leb, ltb, eqb, length}
use Rattle.limits.specs.Limits.{bitmap_entries}
use Rattle.limits.specs.declared.refusals.Refusal.{Refusal}
use Rattle.limits.specs.declared.refusals.Refusal.TheVariants.{BadPacket, NoFit}
use Rattle.loops.specs.Pick.{either}
use Rattle.marks.specs.Marks.{count_of}
use Rattle.texts.specs.Put.{written}
use Rattle.texts.specs.Decimal.{decimal}
use Rattle.packets.specs.Packets.{most_bytes, phase_text, data_text}
use Rattle.packets.specs.declared.TwoPcPhase.{TwoPcPhase}
use Rattle.packets.specs.declared.Bitmap.{Bitmap}
use Rattle.packets.specs.declared.Data.{Data}

-- the length of the text; a packet outside the limits has none
abbrev pub text_len : Bool → List ℕ → ℕ
text_len fine t = either fine (length t) 0

-- the length of the data's text; data of too many bytes has none
unfoldable pub data_len : Data → ℕ
data_len d = text_len (leb d.len most_bytes) (data_text d)

-- the length of a bitmap's text, by how many marks it has: `false` is longer than `true` by one byte
unfoldable pub bitmap_len : Bitmap → ℕ
bitmap_len b = either (eqb b.len 0) 2 (1 + 6 * b.len - count_of b.marks b.len)

-- the length of a packet's text from its term, its phase, the length k of its data's text, and its bitmap; names,
-- braces, commas and colons are 51 bytes. 0 if the bitmap has too many entries, if there is no data's text (k is 0),
-- or if k is more than a data's text can have: 129, for 32 bytes of three digits
unfoldable pub parts_len : ℕ → TwoPcPhase → ℕ → Bitmap → ℕ
parts_len t f k b =
    either (leb b.len bitmap_entries && (ltb 0 k && leb k 129))
    (51 + length (decimal t) + length (phase_text f) + k + bitmap_len b)
    0

-- the answer of a writer at index `at` of the buffer d: 9 outside the limits, then 10 if the text does not fit, else
-- the index behind the text
unfoldable pub wrote_of : Bool → List ℕ → List ℕ → ℕ → Result ℕ Refusal
wrote_of fine t d at = either fine (either (leb (at + length t) (length d)) (Ok (at + length t)) (Err NoFit)) (Err BadPacket)

-- the buffer afterwards: the text at its place and every other byte as it was, or, refused, all as it was
unfoldable pub left_of : Bool → List ℕ → List ℕ → ℕ → List ℕ
left_of fine t d at = either fine (either (leb (at + length t) (length d)) (written d at t) d) d
