-- Each flood tick sends once. Assumes nothing.
use Rattle.std.proofs.Common.{◌≡◌, ℕ, ◌+◌, ◌*◌, ◌%◌, ◌^◌, Bool, true, false, ltb, List, get_or, sym, refl, ap, ◌∙◌, mul_comm, arith}
use native.Mathlib.Nat.{add-mod}
use Rattle.limits.specs.Limits.{header_bytes}
use Rattle.loops.specs.Pick.{either}
use Rattle.loops.specs.Upto.{upto_keeps}
use Rattle.loops.specs.Runs.{runs_keeps}
use Rattle.loops.specs.Wrap.{add64, mul64}
use Rattle.marks.specs.Marks.{has, count_of}
use Rattle.engines.specs.Clamp.{at_most64}
use Rattle.engines.specs.Network.{on_air}
use Rattle.engines.specs.Nodes.{no_node, reset_round, sets_of, ticked_all, flood_ticks}
use Rattle.engines.specs.declared.network.Network.{Network}
use Rattle.engines.specs.declared.network.RoundConf.{RoundConf}
use Rattle.engines.specs.declared.node.Node.{Node}
use Rattle.engines.specs.declared.node.NodeState.TheVariants.{Flood}
use Rattle.engines.proofs.FloodTicks.{kept_ticks, ticked_floods, times_wrap, each_more}
use Rattle.engines.proofs.Sums.{reset_alike}
use Rattle.flood.specs.Flood.{in_state, next_node, turn_at, turned_all, flood_plan, sent_after, flood_slot, reset_at, reset_all, started_by, flood_start, flood_round, is_over}
use Rattle.flood.specs.Sent.{SentFor, FloodSends}
use Rattle.flood.specs.declared.flood.FloodRun.{FloodRun}
use Rattle.flood.proofs.Sums.{state_alike, next_alike}

turned_ticks : (n repeats received : ℕ) (l : List Node) → flood_ticks (turned_all n repeats received l) ≡ flood_ticks l
unfolding turned_all turn_at
turned_ticks n repeats received l =
    upto_keeps flood_ticks (turn_at repeats received) l (at_most64 n)
    (λ i t. kept_ticks t i (next_node repeats (has received i) (get_or t i no_node)) (next_alike repeats (has received i) (get_or t i no_node)).flood)

-- at the start of a flood nobody's flood ticks change
pub start_ticks : (n initiator repeats : ℕ) (l : List Node) → flood_ticks (flood_start n initiator repeats l) ≡ flood_ticks l
unfolding flood_start reset_all reset_at
start_ticks n initiator repeats l = go (ltb initiator 64)
  where
    reset : flood_ticks (reset_all n l) ≡ flood_ticks l
    reset =
        upto_keeps flood_ticks reset_at l (at_most64 n)
        (λ i t. kept_ticks t i (reset_round (get_or t i no_node)) (reset_alike (get_or t i no_node)).flood)

    first : (t : List Node) → flood_ticks (started_by initiator repeats t) ≡ flood_ticks t
    first t =
        kept_ticks t initiator (in_state (get_or t initiator no_node) Flood repeats)
        (state_alike (get_or t initiator no_node) Flood repeats).flood

    go : (b : Bool) → flood_ticks (either b (started_by initiator repeats (reset_all n l)) (reset_all n l)) ≡ flood_ticks l
    go true = first (reset_all n l) ∙ reset
    go false = reset

-- what two sums share may be left out
cancel : (a b c : ℕ) → (a + c) % 2 ^ 64 ≡ (b + c) % 2 ^ 64 → a % 2 ^ 64 ≡ b % 2 ^ 64
cancel a b c e = omega arith

cross : (x y z t u v : ℕ) → (y + t) % 2 ^ 64 ≡ (x + u) % 2 ^ 64 → (z + u) % 2 ^ 64 ≡ (y + v) % 2 ^ 64 → (z + t) % 2 ^ 64 ≡ (x + v) % 2 ^ 64
cross x y z t u v p q =
    let left : z + t + (y + u) ≡ z + u + (y + t) = omega arith in
    let right : y + v + (x + u) ≡ x + v + (y + u) = omega arith in
    cancel (z + t) (x + v) (y + u)
    (ap (λ (s : ℕ). s % 2 ^ 64) left
    ∙ add-mod (z + u) (y + t) (2 ^ 64)
    ∙ ap (λ (s : ℕ). (s + (y + t) % 2 ^ 64) % 2 ^ 64) q
    ∙ ap (λ (s : ℕ). ((y + v) % 2 ^ 64 + s) % 2 ^ 64) p
    ∙ sym (add-mod (y + v) (x + u) (2 ^ 64))
    ∙ ap (λ (s : ℕ). s % 2 ^ 64) right)

module _ (ws : List ℕ) (conf : RoundConf) (bytes : ℕ) where
  slot_sends : (f : FloodRun) → SentFor (on_air bytes) f.network (flood_slot ws conf bytes f).network
  unfolding flood_slot sent_after
  slot_sends f =
      let n = conf.graph.n in
      let ticked = ticked_all n f.network.nodes in
      let s = sets_of n ticked in
      let p = flood_plan ws conf.settings.loss_rate conf.graph.adj s f.draw in
      let repeats = conf.settings.flood_repeats in
      each_more (on_air bytes) (count_of s.flooding 64) (flood_ticks f.network.nodes)
      (flood_ticks (turned_all n repeats p.received ticked)) f.network.bytes_sent
      (ap (λ (t : ℕ). t % 2 ^ 64) (turned_ticks n repeats p.received ticked) ∙ ticked_floods n f.network.nodes)

  -- from a to b and from b to c is from a to c
  sent_on : (a b c : Network) → SentFor (on_air bytes) a b → SentFor (on_air bytes) b c → SentFor (on_air bytes) a c
  sent_on a b c p q =
      join a.bytes_sent b.bytes_sent c.bytes_sent
      (flood_ticks a.nodes * on_air bytes) (flood_ticks b.nodes * on_air bytes) (flood_ticks c.nodes * on_air bytes) p q
    where
      join : (x y z t u v : ℕ) → (y + t % 2 ^ 64) % 2 ^ 64 ≡ (x + u % 2 ^ 64) % 2 ^ 64 → (z + u % 2 ^ 64) % 2 ^ 64 ≡ (y + v % 2 ^ 64) % 2 ^ 64 → (z + t % 2 ^ 64) % 2 ^ 64 ≡ (x + v % 2 ^ 64) % 2 ^ 64
      join x y z t u v p q = cross x y z (t % 2 ^ 64) (u % 2 ^ 64) (v % 2 ^ 64) p q

-- a length and a header, in 64 binary digits or not
aired : (k bytes : ℕ) → mul64 k (on_air bytes) ≡ mul64 k (bytes + header_bytes)
unfolding on_air
aired k bytes =
    ap (λ (x : ℕ). x % 2 ^ 64) (mul_comm k (add64 bytes header_bytes))
    ∙ sym (times_wrap (bytes + header_bytes) k)
    ∙ ap (λ (x : ℕ). x % 2 ^ 64) (mul_comm (bytes + header_bytes) k)

pub flood_sends : FloodSends
unfolding flood_round
flood_sends ws conf bytes f =
    let a = f.network in
    let b = (flood_round ws conf bytes f).network in
    let sent : SentFor (on_air bytes) a b =
    runs_keeps is_over (flood_slot ws conf bytes) (λ k g. SentFor (on_air bytes) a g.network)
    (λ k g p. sent_on ws conf bytes a g.network (flood_slot ws conf bytes g).network p (slot_sends ws conf bytes g))
    (λ g. SentFor (on_air bytes) a g.network) (λ k g p. p) conf.length f refl in
    ap (add64 b.bytes_sent) (sym (aired (flood_ticks a.nodes) bytes))
    ∙ sent
    ∙ ap (add64 a.bytes_sent) (aired (flood_ticks b.nodes) bytes)
