-- A stretch of a flood in which nothing but counts changes: each slot of it is `quietened`, and so are all of them
-- together. Assumes nothing.
use Rattle.std.proofs.Common.{◌≡◌, ℕ, suc, ◌+◌, ◌-◌, ◌*◌, ◌%◌, ◌^◌, ◌<◌, ◌≤◌, Bool, true, false, eqb, ltb, List, length, get_or, set, sym, refl, ap, ◌∙◌, true≢false, suc-mul, arith, below_more, ltb-true, ne_eqb}
use lib.Ieee.{Float}
use borrow.Author.Tests.{lt-leb}
use Rattle.loops.specs.Upto.{upto, upto_same}
use Rattle.loops.specs.Each.{each}
use Rattle.loops.specs.Leaps.{Leaps}
use Rattle.marks.specs.Marks.{has, count_of}
use Rattle.marks.specs.Laws.{has_none}
use Rattle.marks.specs.Sets.{has_marks, and_true}
use Rattle.loops.specs.Wrap.{mul64}
use Rattle.engines.specs.Clamp.{at_most64}
use Rattle.engines.specs.Metrics.{with_frames}
use Rattle.engines.specs.Network.{on_air}
use Rattle.engines.specs.Nodes.{no_node, is_flood, floods, sets_of, ticked, ticked_all}
use Rattle.engines.specs.Rounds.{Stepped}
use Rattle.engines.specs.Stretch.{passed, passed_all}
use Rattle.engines.specs.declared.words.Draw.{Draw}
use Rattle.engines.specs.declared.network.RoundConf.{RoundConf}
use Rattle.engines.specs.declared.node.Node.{Node}
use Rattle.engines.specs.declared.node.StateSets.{StateSets}
use Rattle.engines.specs.declared.node.NodeState.{NodeState}
use Rattle.engines.specs.declared.node.NodeState.TheVariants.{Listen, Flood, Sleep}
use Rattle.engines.proofs.Marking.{over_none, over_fixed}
use Rattle.engines.proofs.Rounds.{none_added, same_next, stepped_leap}
use Rattle.engines.proofs.Stretches.{add_both, pass_both, pass_get, pass_sets, pass_length, tick_sets, turn_passes, passed_state}
use Rattle.flood.specs.Flood.{hear_at, hearers_of, send_at, no_plan, flood_plan, after_flood, after_listen, next_node, turn_at, turned_all, nobody_floods, sent_after, flood_slot, is_over}
use Rattle.flood.specs.Quiet.{Alone, Quiet, quietened, QuietFor}
use Rattle.flood.specs.declared.flood.FloodPlan.{FloodPlan}
use Rattle.flood.specs.declared.flood.FloodRun.{FloodRun}

-- ---- how long it is

alone_less : (row listening k r : ℕ) (v : Node) → r ≤ k → Alone row listening k v → Alone row listening r v
alone_less row listening k r v h a g = (omega (arith, (a g).0), (a g).1)

-- one position more
pub alone_more : (links : List ℕ) (l : List Node) (listening k r i : ℕ) → ((j : ℕ) → j < i → 0 < k → Alone (get_or links j 0) listening k (get_or l j no_node))
    → QuietFor (get_or links i 0) listening k (get_or l i no_node) r → (j : ℕ) → j < i + 1 → 0 < r → Alone (get_or links j 0) listening r (get_or l j no_node)
alone_more links l listening k r i before q =
    below_more (λ (j : ℕ). 0 < r → Alone (get_or links j 0) listening r (get_or l j no_node)) i (λ j h p. alone_less (get_or links j 0) listening k r (get_or l j no_node) q.within (before j h (omega (arith, q.within)))) (λ p. q.alone p)

-- somebody floods
pub some_flood : (n : ℕ) (l : List Node) {s : StateSets} → s ≡ sets_of n l → (s.flooding ≡ 0 → ⊥) → nobody_floods n l ≡ false
unfolding nobody_floods
some_flood n l e some = ne_eqb (sets_of n l).flooding 0 (λ z. some (ap (λ (s : StateSets). s.flooding) e ∙ z))

-- ---- its plan

module _ (ws : List ℕ) (loss : Float) (links : List ℕ) where
  -- whom nobody hears draws nothing
  send_none : (listening i : ℕ) (p : FloodPlan) → hearers_of (get_or links i 0) listening ≡ 0 → send_at ws loss links listening i p ≡ p
  unfolding send_at
  send_none listening i p e = sym (over_none (hear_at ws loss) e refl)

  plan_quiet : (s : StateSets) (d : Draw) → ((i : ℕ) → i < 64 → has s.flooding i ≡ true → hearers_of (get_or links i 0) s.listening ≡ 0) → flood_plan ws loss links s d ≡ no_plan d
  unfolding flood_plan
  plan_quiet s d alone = over_fixed (send_at ws loss links s.listening) s.flooding (no_plan d) (λ i h m. send_none s.listening i (no_plan d) (alone i h m))

-- ---- its states

-- one position that turns without having heard anything
still : (repeats : ℕ) (s : NodeState) (v : Node) → v.state ≡ s → (is_flood v.state ≡ true → 1 < v.flood_remaining) → next_node repeats false (ticked v) ≡ passed 1 v
unfolding next_node ticked passed after_listen after_flood
still repeats Listen v e h = rw e
still repeats Sleep v e h = rw e
still repeats Flood v e h = rw (e, lt-leb v.flood_remaining 1 (h (ap is_flood e)))

turned_none : (n repeats : ℕ) (l : List Node) → turned_all n repeats 0 l ≡ upto (at_most64 n) (each no_node (next_node repeats false)) l
unfolding turned_all turn_at
turned_none n repeats l = upto_same _ _ l (at_most64 n) (λ i h t. ap (λ (b : Bool). set t i (next_node repeats b (get_or t i no_node))) (has_none i))

-- ---- its bytes

sent_one : (x b : ℕ) → (x + b % 2 ^ 64) % 2 ^ 64 ≡ (x + mul64 1 (b % 2 ^ 64)) % 2 ^ 64
sent_one x b = omega arith

-- a summand may wrap before the sum does
wrap_left : (x y : ℕ) → (x % 2 ^ 64 + y) % 2 ^ 64 ≡ (x + y) % 2 ^ 64
wrap_left x y = omega arith

wrap_right : (x y : ℕ) → (x + y % 2 ^ 64) % 2 ^ 64 ≡ (x + y) % 2 ^ 64
wrap_right x y = omega arith

-- b once more, where the product of b and the slots behind it is p
sent_both : (x b p : ℕ) → ((x + mul64 1 b) % 2 ^ 64 + p % 2 ^ 64) % 2 ^ 64 ≡ (x + (p + b) % 2 ^ 64) % 2 ^ 64
sent_both x b p = wrap_left (x + mul64 1 b) (p % 2 ^ 64) ∙ wrap_right (x + mul64 1 b) p ∙ first ∙ sym (wrap_right x (p + b))
  where
    first : (x + mul64 1 b + p) % 2 ^ 64 ≡ (x + (p + b)) % 2 ^ 64
    first = omega arith

sent_more : (x b k : ℕ) → ((x + mul64 1 b) % 2 ^ 64 + mul64 (suc k) b) % 2 ^ 64 ≡ (x + mul64 (suc (suc k)) b) % 2 ^ 64
sent_more x b k = rw (suc-mul (suc k) b) (sent_both x b (suc k * b))

-- ---- a slot of it

module _ (n : ℕ) (l : List Node) where
  flooder : (i : ℕ) → has (sets_of n l).flooding i ≡ true → (i < at_most64 n) × (is_flood (get_or l i no_node).state ≡ true)
  unfolding sets_of floods
  flooder i m =
      let b = and_true (ltb i (at_most64 n)) (is_flood (get_or l i no_node).state) (sym (has_marks (at_most64 n) (floods l) i) ∙ m) in
      (ltb-true i (at_most64 n) b.0, b.1)

  same_some : (long : length l ≡ 64) (k : ℕ) → nobody_floods n (passed_all n k l) ≡ nobody_floods n l
  unfolding nobody_floods
  same_some long k = ap (λ (s : StateSets). eqb s.flooding 0) (pass_sets n l long k)

passed_left : (v : Node) → is_flood v.state ≡ true → (passed 1 v).flood_remaining ≡ v.flood_remaining - 1
unfolding passed
passed_left v = go v.state refl
  where
    go : (s : NodeState) → v.state ≡ s → is_flood s ≡ true → (passed 1 v).flood_remaining ≡ v.flood_remaining - 1
    go Flood e h = rw e
    go Listen e h = absurd (true≢false (sym h))
    go Sleep e h = absurd (true≢false (sym h))

no_row : {conf : RoundConf} (k : ℕ) (f : FloodRun) → Quiet conf (suc k) f → f.network.slot < f.network.next_row
no_row k f q = omega (arith, q.rows)

module _ (ws : List ℕ) (conf : RoundConf) (bytes : ℕ) where
  abbrev n : ℕ
  n = conf.graph.n

  abbrev slot : FloodRun → FloodRun
  slot = flood_slot ws conf bytes

  slot_quiet : (k : ℕ) (f : FloodRun) → Quiet conf (suc k) f → slot f ≡ quietened conf bytes 1 f
  unfolding flood_slot quietened sent_after with_frames
  slot_quiet k f q =
      let w = f.network in
      let l = w.nodes in
      let long = q.small.nodes in
      let repeats = conf.settings.flood_repeats in
      let later : w.slot < w.next_row = no_row k f q in
      let plan : flood_plan ws conf.settings.loss_rate conf.graph.adj (sets_of n l) f.draw ≡ no_plan f.draw
      = plan_quiet ws conf.settings.loss_rate conf.graph.adj (sets_of n l) f.draw (λ i h m. let b = flooder n l i m in (q.alone i b.0 b.1).1) in
      let turned : turned_all n repeats 0 (ticked_all n l) ≡ passed_all n 1 l
      = turned_none n repeats (ticked_all n l)
      ∙ turn_passes n l long (next_node repeats false) (λ i h. still repeats (get_or l i no_node).state (get_or l i no_node) refl (λ g. let b : suc k < (get_or l i no_node).flood_remaining = (q.alone i h g).0 in omega arith)) in
      rw (
        tick_sets n l long,
        plan,
        turned,
        same_next w later conf.interval,
        none_added w.metrics.rx_attempts q.small.attempts,
        none_added w.metrics.rx_success q.small.success,
        same_some n l long 1,
        q.some,
        q.going,
        sent_one w.bytes_sent (count_of (sets_of n l).flooding 64 * on_air bytes),
      )

  -- ---- all of them

  -- what is left of a stretch behind its first slot
  alone_on : (k row listening : ℕ) (v : Node) → Alone row listening (suc k) v → Alone row listening k (passed 1 v)
  alone_on k row listening v a h =
      let g : is_flood v.state ≡ true = ap is_flood (sym (passed_state 1 v)) ∙ h in
      (omega (arith, (a g).0, passed_left v g), (a g).1)

  quiet_on : (k : ℕ) (f : FloodRun) → Quiet conf (suc k) f → Quiet conf k (quietened conf bytes 1 f)
  unfolding quietened
  quiet_on k f q =
      let l = f.network.nodes in
      let long = q.small.nodes in
      record {
        small =
            record {
              nodes = pass_length n 1 l ∙ long;
              sent = omega arith;
              timeouts = q.small.timeouts;
              attempts = q.small.attempts;
              success = q.small.success;
            };
        going = q.going;
        rows = omega (arith, q.rows);
        some = same_some n l long 1 ∙ q.some;
        alone = λ i h.
            rw (pass_sets n l long 1, pass_get n l long 1 i h)
            (alone_on k (get_or conf.graph.adj i 0) (sets_of n l).listening (get_or l i no_node) (q.alone i h));
      }

  quiet_joins : (k : ℕ) (f : FloodRun) → length f.network.nodes ≡ 64 → quietened conf bytes (suc k) (quietened conf bytes 1 f) ≡ quietened conf bytes (suc (suc k)) f
  unfolding quietened
  quiet_joins k f long =
      let w = f.network in
      let more : 1 + suc k ≡ suc (suc k) = omega arith in
      rw (
        pass_both n w.nodes long 1 (suc k),
        pass_sets n w.nodes long 1,
        add_both w.slot 1 (suc k),
        sent_more w.bytes_sent (mul64 (count_of (sets_of n w.nodes).flooding 64) (on_air bytes)) k,
        more,
      )

  slots_leap : Leaps is_over slot (Quiet conf) (quietened conf bytes)
  slots_leap =
      record {
        goes = λ k f q. q.going;
        one = λ f q. slot_quiet 0 f q;
        stays = λ k f q. rw (slot_quiet (suc k) f q) (quiet_on (suc k) f q);
        joins = λ k f q. rw (slot_quiet (suc k) f q) (quiet_joins k f q.small.nodes);
      }

  -- a stretch of a round is a step of it
  pub step_many : {left k : ℕ} {f g : FloodRun} → 0 < k → k ≤ left → Quiet conf k f → g ≡ quietened conf bytes k f
      → Stepped (λ (r : FloodRun). r.network) is_over slot conf left f (left - k) g
  step_many = stepped_leap (λ (r : FloodRun). r.network) is_over slot conf (Quiet conf) (quietened conf bytes) slots_leap no_row
