-- The reading of a position's text writes the text that demand 3 means, and what that text gives is what the position
-- holds. Assumes nothing.
use Prim.Native.Nat.{ℕ, ◌+◌, ◌≤◌, ◌<◌}
use mathlib.Core.Bool.{Bool, true, ◌&&◌}
use mathlib.Core.List.{List}
use mathlib.Core.Path.{◌≡◌, refl, sym, ap₂, subst}
use lib.ListN.{length, take, drop}
use lib.Seq.{take_at}
use native.Mathlib.Omega.{arith}
use borrow.Author.Tests.{le-leb}
use Rattle.texts.specs.Put.{written}
use Rattle.std.specs.Prelude.{Result, Ok}
use Rattle.limits.specs.declared.refusals.Refusal.{Refusal}
use Rattle.packets.specs.Packets.{ce_text, limits, ce_within, ValidCe}
use Rattle.packets.specs.Writing.{wrote_of, left_of}
use Rattle.packets.specs.declared.CeTwoPcPacket.{CeTwoPcPacket}
use Rattle.merges.specs.declared.merging.Held.{Held}
use Rattle.merges.specs.declared.merging.Held.TheVariants.{Empty, Unreadable, Packet}
use Rattle.packets.proofs.Promises.{ce_promises}
use Rattle.room.specs.declared.room.RoomKind.{RoomKind}
use Rattle.room.specs.declared.room.RoomKind.TheVariants as kinds
use Rattle.room.specs.declared.room.Room.{Room}
use Rattle.room.specs.Rooms.{size_of, held_at, opened_by}
use Rattle.readings.specs.Readings.{ce_answer_by, ce_left_by, text_by, text_of, left_by, text_left}
use Rattle.readings.proofs.Answers.{place_held}
use Rattle.demand.specs.Demand.{text_in, held_text}
use Rattle.demand.specs.Texts.{SameTexts, TextsGive}
use Rattle.room.proofs.Moments.{Inv}
use Rattle.room.proofs.Calling.{opened}
use Rattle.demand.proofs.Demand.{ran}
use Rattle.demand.proofs.Values.{value_held, text_held}

-- ---- the text that a reading writes

record Written (s : List ℕ) (x : Result ℕ Refusal) (out : List ℕ) : Type 0 where
  answers : x ≡ Ok (length s)
  text : take (length s) out ≡ s

within : (p : CeTwoPcPacket) → ValidCe p → ce_within p ≡ true
unfolding limits
within p v = ap₂ (λ (x y : Bool). x && y) (le-leb p.flags_bitmap.len 64 v.bitmap.at_most64) (le-leb p.proposal_data.len 32 v.bytes.at_most32)

written_by : (p : CeTwoPcPacket) (h : Held) (out : List ℕ) → (h ≡ Packet → ValidCe p) → 596 ≤ length out → Written (text_in p h) (ce_answer_by p out h) (ce_left_by p out h)
unfolding wrote_of left_of written
written_by p Empty out v l = record { answers = refl; text = refl }
written_by p Unreadable out v l = record { answers = refl; text = refl }
written_by p Packet out v l =
    let w = v refl in
    let none : 0 + length (ce_text p) ≡ length (ce_text p) = omega arith in
    rw (within p w, le-leb (0 + length (ce_text p)) (length out) (omega (arith, ce_promises.short p w)))
    (record { answers = cc; text = take_at (ce_text p) (drop (0 + length (ce_text p)) out) (length (ce_text p)) (omega arith) })

-- ---- a moment of a room

module _ (r : Room) (i : Inv r) where
  written_in : (v : ℕ) (out : List ℕ) (x : RoomKind) → x ≡ kinds.Capture → 596 ≤ length out → Written (held_text r v) (text_by r v out x) (left_by r v out x)
  written_in v out x e l =
      subst (λ (y : RoomKind). Written (held_text r v) (text_by r v out y) (left_by r v out y)) (sym e)
      (written_by (held_at r v).packet (held_at r v).held out (i.held v).valid l)

  text_written : (v : ℕ) (out : List ℕ) → r.conf.kind ≡ kinds.Capture → v < size_of r → 596 ≤ length out → Written (held_text r v) (text_of r v out) (text_left r v out)
  text_written v out k h l = rw (place_held (size_of r) v h i.size) (written_in v out r.conf.kind k l)

  pub same_texts : SameTexts r
  same_texts =
      record {
        value = value_held r i;
        text = text_held r i;
        answers = λ v out k h l. (text_written v out k h l).answers;
        writes = λ v out k h l. (text_written v out k h l).text;
      }

pub texts_give : TextsGive
texts_give asked l e calls a h =
    let o = opened_by asked in
    let t = ran calls o (opened asked l e).inv in
    same_texts a (t.before a h).inv
