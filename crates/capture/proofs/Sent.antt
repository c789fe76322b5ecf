-- What a capture slot sends is one sum over the positions that flood. Assumes nothing.
use Rattle.std.proofs.Common.{◌≡◌, ℕ, zero, suc, ◌+◌, ◌-◌, ◌%◌, ◌^◌, ◌<◌, ◌≤◌, Bool, true, false, ◌&&◌, ltb, List, get_or, sym, refl, ap, ◌∙◌, add-zero, add-suc, arith, le-ltb, lt-ltb}
use native.Mathlib.Nat.{add-mod-mod}
use Rattle.limits.specs.Limits.{header_bytes}
use Rattle.loops.specs.Pick.{either}
use Rattle.loops.specs.Upto.{upto}
use Rattle.marks.specs.Marks.{has}
use Rattle.marks.specs.Sets.{has_marks}
use Rattle.merges.specs.Merging.{network_goal_of, no_payload}
use Rattle.merges.specs.declared.merging.Payload.{Payload}
use Rattle.engines.specs.Clamp.{at_most64}
use Rattle.engines.specs.Marked.{over_marks}
use Rattle.engines.specs.Network.{on_air, ticking}
use Rattle.engines.specs.Nodes.{floods, sets_of, tick_at, ticked_all}
use Rattle.engines.specs.declared.node.Node.{Node}
use Rattle.engines.proofs.FloodTicks.{floods_kept}
use Rattle.capture.specs.Ce.{payload_len, sent_at, sent_of}
use Rattle.capture.specs.Capture.{begun, goal_met, acted, finished, slot_of}
use Rattle.capture.specs.Sent.{sum_of, added_at, SlotSends}

-- a sum may wrap at each step or once
wrapped : (s l : ℕ) → (s % 2 ^ 64 + (l + header_bytes) % 2 ^ 64) % 2 ^ 64 ≡ (s + (l + header_bytes)) % 2 ^ 64
wrapped s l = omega arith

module _ (flooding : ℕ) (held : List Payload) where
  abbrev added : ℕ → ℕ
  added i = either (has flooding i) (payload_len (get_or held i no_payload) + header_bytes) 0

  sums : (k : ℕ) → upto k (λ i t. either (has flooding i) (sent_at held i t) t) 0 ≡ sum_of k added % 2 ^ 64
  unfolding upto sent_at on_air sum_of
  sums zero = refl
  sums (suc k) = rw (sums k) (by (has flooding k))
    where
      len : ℕ
      len = payload_len (get_or held k no_payload)

      by : (t : Bool) → either t ((sum_of k added % 2 ^ 64 + (len + header_bytes) % 2 ^ 64) % 2 ^ 64) (sum_of k added % 2 ^ 64) ≡ (sum_of k added + either t (len + header_bytes) 0) % 2 ^ 64
      by true = wrapped (sum_of k added) len
      by false = ap (λ (s : ℕ). s % 2 ^ 64) (sym (add-zero (sum_of k added)))

  sent_sum : sent_of flooding held ≡ sum_of 64 added % 2 ^ 64
  unfolding sent_of over_marks
  sent_sum = sums 64

-- numbers that agree below k, and nothing from there on
sum_same : (f g : ℕ → ℕ) (k : ℕ) → ((i : ℕ) → i < k → f i ≡ g i) → sum_of k f ≡ sum_of k g
unfolding sum_of
sum_same f g zero e = refl
sum_same f g (suc k) e = rw (sum_same f g k (λ i h. e i (omega arith)), e k (omega arith))

sum_short : (f : ℕ → ℕ) (n d : ℕ) → ((i : ℕ) → n ≤ i → f i ≡ 0) → sum_of (n + d) f ≡ sum_of n f
unfolding sum_of
sum_short f n zero e = rw (add-zero n)
sum_short f n (suc d) e = rw (add-suc n d, e (n + d) (omega arith)) (add-zero (sum_of (n + d) f) ∙ sum_short f n d e)

-- who floods once all are ticked flooded before
module _ (n : ℕ) (size : n ≤ 64) (l : List Node) where
  few : at_most64 n ≡ n
  few = omega arith

  flooding_at : (i : ℕ) → has (sets_of n (ticked_all n l)).flooding i ≡ (ltb i n && floods l i)
  unfolding sets_of ticked_all
  flooding_at i =
      has_marks (at_most64 n) (floods (upto (at_most64 n) tick_at l)) i
      ∙ ap (λ (k : ℕ). ltb i k && floods (upto (at_most64 n) tick_at l) i) few
      ∙ ap (λ (t : Bool). ltb i n && t) (floods_kept l (at_most64 n) i)

  whole : (held : List Payload) → sum_of 64 (added (sets_of n (ticked_all n l)).flooding held) ≡ sum_of n (λ i. either (floods l i) (payload_len (get_or held i no_payload) + header_bytes) 0)
  whole held =
      let f = added (sets_of n (ticked_all n l)).flooding held in
      let all : n + (64 - n) ≡ 64 = omega arith in
      ap (λ (k : ℕ). sum_of k f) (sym all)
      ∙ sum_short f n (64 - n) (λ i h. rw (flooding_at i, le-ltb i n h))
      ∙ sum_same f (λ i. either (floods l i) (payload_len (get_or held i no_payload) + header_bytes) 0) n (λ i h. rw (flooding_at i, lt-ltb i n h))

pub slot_sends : SlotSends
unfolding slot_of finished begun ticking goal_met acted
slot_sends ws conf c size = go (network_goal_of conf.graph.n c.held)
  where
    n : ℕ
    n = conf.graph.n

    go : (t : Bool) → (either t (goal_met conf (begun conf c)) (acted ws conf (begun conf c))).network.bytes_sent
        ≡ either t c.network.bytes_sent ((c.network.bytes_sent + sum_of n (added_at c)) % 2 ^ 64)
    go true = refl
    go false =
        ap (λ (s : ℕ). (c.network.bytes_sent + s) % 2 ^ 64) (sent_sum (sets_of n (ticked_all n c.network.nodes)).flooding c.held)
        ∙ add-mod-mod c.network.bytes_sent (sum_of 64 (added (sets_of n (ticked_all n c.network.nodes)).flooding c.held)) (2 ^ 64)
        ∙ ap (λ (s : ℕ). (c.network.bytes_sent + s) % 2 ^ 64) (whole n size c.network.nodes c.held)
