-- The data of a proposal: two bytes and a number's digits, of which 32 bytes have room for every word's.
-- Assumes nothing.
use mathlib.Core.Path.{◌≡◌, ap₂, ◌∙◌}
use mathlib.Core.List.{List, [], ◌∷◌}
use Prim.Native.Nat.{ℕ, ◌+◌, ◌^◌, ◌<◌}
use native.Mathlib.Omega.{arith}
use lib.ListN.{length, replicate}
use Rattle.texts.specs.Decimal.{decimal, decimal_word}
use Rattle.texts.specs.Put.{Put, Room, room_next, put_more}
use Rattle.packets.specs.Packets.{proposal_text, proposal_data}
use Rattle.packets.specs.declared.Data.{Data}

abbrev tx : List ℕ
tx = 116 ∷ 120 ∷ []

abbrev zeros : List ℕ
zeros = replicate 32 0

pub tx_room : (t r : ℕ) (d : List ℕ) → t < 2 ^ 64 → Put zeros 0 tx r d → Room d r (decimal t)
tx_room t r d h p = room_next (decimal t) p (record { room = omega (arith, decimal_word t h) })

pub tx_data : (t r s : ℕ) (d e : List ℕ) → Put zeros 0 tx r d → Put d r (decimal t) s e → ◌≡◌ {A = Data} (record { len = s; bytes = e }) (proposal_data t)
unfolding proposal_data
tx_data t r s d e p q =
    let a : Put zeros 0 (proposal_text t) s e = put_more (omega arith) p q in
    ap₂ (λ (x : ℕ) (y : List ℕ). record { len = x; bytes = y }) (a.next ∙ zero_sum (length (proposal_text t))) a.left
  where
    zero_sum : (x : ℕ) → 0 + x ≡ x
    zero_sum x = omega arith
