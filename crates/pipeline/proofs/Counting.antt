-- One position more that holds the packet, or does not; and the derived test for the same packet. Assumes nothing.
use Rattle.std.proofs.Common.{◌≡◌, ℕ, ◌+◌, ◌%◌, ◌^◌, ◌&&◌, Bool, true, false, Option, Some, None, List, eqb, get_or, refl}
use mathlib.Core.Bool.{beq}
use Rattle.std.specs.Option.{option_eq}
use Rattle.loops.specs.Upto.{upto, upto_turn}
use Rattle.marks.specs.Marks.{has}
use Rattle.pipeline.specs.Pipeline.{same_bool, same_piggyback, same_packet}
use Rattle.pipeline.specs.Round.{no_packet, is_covered, cover_at}
use Rattle.pipeline.specs.declared.two_pc_pipeline.Outcome.{Outcome}
use Rattle.pipeline.specs.declared.two_pc_pipeline.RoundPacket.{RoundPacket}

-- ---- the derived test

bool_eq : (a b : Bool) → beq a b ≡ same_bool a b
bool_eq true true = refl
bool_eq true false = refl
bool_eq false true = refl
bool_eq false false = refl

module _ (same : Outcome → Outcome → Bool) (is : (o p : Outcome) → same o p ≡ (eqb o.tx p.tx && beq o.committed p.committed)) where
  piggyback_eq : (a b : Option Outcome) → option_eq same a b ≡ same_piggyback a b
  piggyback_eq None None = refl
  piggyback_eq None (Some p) = refl
  piggyback_eq (Some o) None = refl
  piggyback_eq (Some o) (Some p) = rw (is o p, bool_eq)

  pub packet_eq : (a b : RoundPacket)
      → ((eqb a.tx b.tx && (eqb a.bits b.bits && (beq a.abort b.abort && (eqb a.nack b.nack && (beq a.fresh b.fresh && (eqb a.sender b.sender && option_eq same a.piggyback b.piggyback)))))))
      ≡ same_packet a b
  unfolding same_packet
  packet_eq a b = rw (bool_eq a.abort b.abort, bool_eq a.fresh b.fresh, piggyback_eq)

-- ---- the count

module _ (q : RoundPacket) (holding : ℕ) (ps : List RoundPacket) (i k : ℕ) (e : k ≡ upto i (cover_at q holding ps) 0) where
  pub cover_yes : true ≡ has holding i → true ≡ same_packet (get_or ps i no_packet) q → (k + 1) % 2 ^ 64 ≡ upto (i + 1) (cover_at q holding ps) 0
  unfolding cover_at is_covered
  cover_yes h s = upto_turn _ _ e (rw (← h, ← s))

  pub cover_out : false ≡ has holding i → k ≡ upto (i + 1) (cover_at q holding ps) 0
  unfolding cover_at is_covered
  cover_out h = upto_turn _ _ e (rw (← h))

  pub cover_other : true ≡ has holding i → false ≡ same_packet (get_or ps i no_packet) q → k ≡ upto (i + 1) (cover_at q holding ps) 0
  unfolding cover_at is_covered
  cover_other h s = upto_turn _ _ e (rw (← h, ← s))
