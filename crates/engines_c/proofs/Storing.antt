-- Numbers put into a list that may be too short for them. Assumes nothing.
use mathlib.Core.Path.{◌≡◌, refl, sym, ◌∙◌}
use mathlib.Core.List.{List, [], ◌∷◌, append-nil}
use Prim.Native.Nat.{ℕ, suc, ◌+◌, ◌-◌, ◌≤◌, ◌<◌}
use native.Mathlib.Numerals.{add-one}
use native.Mathlib.Omega.{arith}
use lib.ListN.{length, take, get_or, set}
use lib.Seq.{sets, take-suc, length-take-le, length-sets, set_out}
use Rattle.loops.specs.Table.{tabulate, filled}
use Rattle.merges.specs.declared.merging.Payload.{Payload}
use Rattle.engines_c.specs.Payloads.{payload_numbers, put_payload}
use Rattle.loops.specs.Stores.{sets_append}

-- a turn of a loop that stores one number behind the other
pub run_turn : (l from : List ℕ) (at i : ℕ) → i < length from → set (sets l at (take i from)) (at + i) (get_or from i 0) ≡ sets l at (take (i + 1) from)
run_turn l from at i h =
    let n : length (take i from) ≡ i = length-take-le i from (omega arith) in
    sym (rw (add-one i, take-suc from i 0 h, ← sets_append (take i from) (get_or from i 0 ∷ []) l at, n))

-- stores past the end leave a list alone
pub sets_out : (vs l : List ℕ) (i : ℕ) → length l ≤ i → sets l i vs ≡ l
sets_out [] l i h = refl
sets_out (v ∷ vs) l i h = rw (set_out l i v h) (sets_out vs l (suc i) (omega arith))

-- an array that is filled whole is its rule's list
pub filled_whole : {A : Type 0} (d : A) (k : ℕ) (f : ℕ → A) → filled d k k f ≡ tabulate k f
unfolding filled
filled_whole d k f = rw (none k, append-nil)
  where
    none : (k : ℕ) → k - k ≡ 0
    none k = omega arith

-- two runs of stores, of values that are known
pub put_two : (x first rest : List ℕ) (i j : ℕ) {a b f r : List ℕ} → b ≡ sets a j r → a ≡ sets x i f → f ≡ first → r ≡ rest → b ≡ sets (sets x i first) j rest
put_two x first rest i j e g h k = e ∙ rw (g, h, k)

pub put_payload_length : (at k : ℕ) (l : Payload) (xs : List ℕ) → length (put_payload at k l xs) ≡ length xs
unfolding put_payload
put_payload_length at k l xs =
    length-sets (sets xs (at + k) (payload_numbers l)) (at + (k + 6)) l.packet.proposal_data.bytes ∙ length-sets xs (at + k) (payload_numbers l)
