-- A stretch of a capture round in which nobody acts: each slot of it is `idled`, and so are all of them together. Assumes nothing.
use Rattle.std.proofs.Common.{◌≡◌, ℕ, suc, ◌+◌, ◌-◌, ◌^◌, ◌<◌, ◌≤◌, Bool, true, false, ◌&&◌, ltb, List, length, get_or, set, replicate, sym, refl, ap, ◌∙◌, true≢false, arith, ltb-true, lt-ltb}
use lib.Ieee.{Float}
use lib.ListN.{get_or-replicate}
use lib.Seq.{set-get_or}
use borrow.Author.Tests.{lt-leb}
use Rattle.loops.specs.Pick.{either}
use Rattle.loops.specs.Upto.{upto_holds, upto_same}
use Rattle.loops.specs.Downto.{downto}
use Rattle.loops.specs.Each.{each}
use Rattle.loops.specs.Runs.{go}
use Rattle.loops.specs.Leaps.{Leaps}
use Rattle.marks.specs.Marks.{has, count_of}
use Rattle.marks.specs.Laws.{has_none}
use Rattle.marks.specs.Sets.{has_marks, and_true}
use Rattle.merges.specs.Votes.{no_of}
use Rattle.merges.specs.Merging.{Merged, merge_of, redundant, no_payload, can_sleep_of}
use Rattle.merges.specs.declared.votes.Voting.{Voting}
use Rattle.merges.specs.declared.merging.Payload.{Payload}
use Rattle.engines.specs.Clamp.{at_most64}
use Rattle.engines.specs.Words.{shuffled}
use Rattle.engines.specs.Nodes.{no_node, is_listen, is_flood, listens, floods, sets_of, ticked, ticked_all}
use Rattle.capture.specs.Plan.{timed_out, tossed1, toss_at, coins_of, note_at, senders_of, unheard, first_kept, heard_from, capture_of, whom, tallied, capture_at, none_yet, captures_of, plan_after, plan_of}
use Rattle.capture.specs.Turns.{next_state, turned, turn_of, turn_at, turned_all, counted_slot}
use Rattle.capture.specs.Ce.{sent_at, sent_of, hearing_of, told_at, told_all}
use Rattle.capture.specs.Capture.{voting_of, begun, goal_met, news_of, applied, plan_for, acted, finished, slot_of, over, network_in}
use Rattle.engines.specs.Stretch.{passed, passed_all}
use Rattle.loops.specs.Wrap.{add64}
use Rattle.capture.specs.Idle.{Waits, Idle, idled}
use Rattle.engines.specs.declared.words.Draw.{Draw}
use Rattle.engines.specs.declared.node.Node.{Node}
use Rattle.engines.specs.declared.node.StateSets.{StateSets}
use Rattle.engines.specs.declared.node.NodeState.{NodeState}
use Rattle.engines.specs.declared.node.NodeState.TheVariants.{Listen, Flood, Sleep}
use Rattle.capture.specs.Plan.{Plan}
use Rattle.capture.specs.Turns.{News}
use Rattle.engines.specs.declared.metrics.MetricsCollector.{MetricsCollector}
use Rattle.capture.specs.Ce.{SlotMerges}
use Rattle.engines.specs.declared.network.Network.{Network}
use Rattle.engines.specs.declared.network.RoundConf.{RoundConf}
use Rattle.engines.specs.Network.{ticking}
use Rattle.engines.specs.Rounds.{Stepped}
use Rattle.engines.proofs.Rounds.{none_added, same_next, stepped_leap}
use Rattle.capture.specs.declared.capture.CeState.{CeState}
use Rattle.engines.proofs.Marking.{over_none, over_fixed}
use Rattle.engines.proofs.Stretches.{add_both, pass_both, pass_get, pass_sets, pass_length, tick_sets, tick_get, turn_passes, passed_state}

-- ---- its plan

abbrev idle_plan : Draw → Plan
idle_plan d = record { recovering = 0; hears = replicate 64 64; draw = d; ce_timeouts = 0; rx_attempts = 0; rx_success = 0 }

stays_64 : (t : ℕ) → t < 64 → set {A = ℕ} (replicate 64 64) t 64 ≡ replicate 64 64
stays_64 t h = ap (λ (x : ℕ). set {A = ℕ} (replicate 64 64) t x) (sym (get_or-replicate 64 t 64 0 h)) ∙ set-get_or (replicate 64 64) t 0

module _ (ws : List ℕ) (loss : Float) (links : List ℕ) where
  -- where nobody floods nobody is heard, and no word is drawn for it
  hears_nobody : (t : ℕ) (d : Draw) → capture_of ws loss links 0 t d ≡ unheard d
  unfolding capture_of heard_from first_kept senders_of shuffled go downto
  hears_nobody t d = rw (sym (over_none (note_at links t) {m = 0} {t = record { ids = replicate 64 0; count = 0 }} refl refl))

  captured_none : (d : Draw) (t : ℕ) → t < 64 → capture_at ws loss links 0 t (none_yet d) ≡ none_yet d
  unfolding capture_at tallied whom
  captured_none d t h = rw (hears_nobody t d) (ap (λ (l : List ℕ). record { hears = l; tally = record { draw = d; rx_attempts = 0; rx_success = 0 } }) (stays_64 t h))

  captures_none : (targets : ℕ) (d : Draw) → captures_of ws loss links targets 0 d ≡ none_yet d
  unfolding captures_of
  captures_none targets d = over_fixed (capture_at ws loss links 0) targets (none_yet d) (λ t h m. captured_none d t h)

  coins_none : (slot timeout : ℕ) (nodes : List Node) (listening : ℕ) (d : Draw) → ((i : ℕ) → i < 64 → has listening i ≡ true → timed_out slot timeout (get_or nodes i no_node) ≡ false)
      → coins_of ws slot timeout nodes listening d ≡ record { recovering = 0; draw = d }
  unfolding coins_of tossed1
  coins_none slot timeout nodes listening d early = over_fixed (toss_at ws slot timeout nodes) listening (record { recovering = 0; draw = d }) (λ i h m. rw (early i h m))

  plan_idle : (slot timeout : ℕ) (nodes : List Node) (s : StateSets) (d : Draw) → s.flooding ≡ 0
      → ((i : ℕ) → i < 64 → has s.listening i ≡ true → timed_out slot timeout (get_or nodes i no_node) ≡ false)
      → plan_of ws loss links slot timeout nodes s d ≡ idle_plan d
  unfolding plan_of plan_after count_of
  plan_idle slot timeout nodes s d silent early = rw (coins_none slot timeout nodes s.listening d early, silent, captures_none)

-- ---- its merges

record Told (held : List Payload) (t : SlotMerges) : Type 0 where
  same : t.held ≡ held
  news : t.new_info ≡ 0
  rests : t.can_sleep ≡ 0

module _ (s : Voting) (held : List Payload) where
  told_nothing : (i : ℕ) → i < 64 → hearing_of s (replicate 64 64) held i ≡ redundant (get_or held i no_payload)
  unfolding hearing_of
  told_nothing i h =
      ap (λ (x : ℕ). either {A = Merged} (ltb x 64) (merge_of (no_of s) s.n i (get_or held i no_payload) (get_or held x no_payload)) (redundant (get_or held i no_payload)))
      (get_or-replicate 64 i 64 0 h)

  told_one : (i : ℕ) (t : SlotMerges) → i < 64 → can_sleep_of s.n (get_or held i no_payload) ≡ false → Told held t → Told held (told_at s (replicate 64 64) held i t)
  unfolding told_at
  told_one i t h awake p =
      rw (told_nothing i h)
      (record { same = ap (λ (l : List Payload). set l i (get_or held i no_payload)) p.same ∙ set-get_or held i no_payload; news = p.news; rests = rw awake p.rests })

  told_idle : ((i : ℕ) → i < at_most64 s.n → can_sleep_of s.n (get_or held i no_payload) ≡ false) → Told held (told_all s (replicate 64 64) held)
  unfolding told_all
  told_idle awake =
      upto_holds (Told held) (told_at s (replicate 64 64) held) (at_most64 s.n) (λ i t h p. told_one i t (omega arith) (awake i h) p)
      (record { held = held; new_info = 0; goal_reached = 0; can_sleep = 0 }) (record { same = refl; news = refl; rests = refl })

-- ---- its states

turn_none : (slot : ℕ) (w : News) → w.recovering ≡ 0 → w.new_info ≡ 0 → w.can_sleep ≡ 0 → (i : ℕ) (v : Node) → turn_of slot w i v ≡ turned slot false false false false v
unfolding turn_of turned
turn_none slot w r n c i v = rw (r, n, c, has_none i)

settled : (slot : ℕ) (s : NodeState) (v : Node) → v.state ≡ s → is_flood v.state ≡ false → turned slot false false false false (ticked v) ≡ passed 1 v
unfolding turned ticked passed next_state
settled slot Listen v e h = rw e
settled slot Sleep v e h = rw e
settled slot Flood v e h = absurd (true≢false (rw e at h))

ticked_last : (v : Node) → (ticked v).last_progress_slot ≡ v.last_progress_slot
unfolding ticked
ticked_last v = go v.state refl
  where
    go : (s : NodeState) → v.state ≡ s → (ticked v).last_progress_slot ≡ v.last_progress_slot
    go Listen e = rw e
    go Flood e = rw e
    go Sleep e = rw e

passed_last : (k : ℕ) (v : Node) → (passed k v).last_progress_slot ≡ v.last_progress_slot
unfolding passed
passed_last k v = go v.state refl
  where
    go : (s : NodeState) → v.state ≡ s → (passed k v).last_progress_slot ≡ v.last_progress_slot
    go Listen e = rw e
    go Flood e = rw e
    go Sleep e = rw e

module _ (n : ℕ) (l : List Node) where
  none_floods : (sets_of n l).flooding ≡ 0 → (i : ℕ) → i < at_most64 n → is_flood (get_or l i no_node).state ≡ false
  unfolding sets_of floods
  none_floods e i h =
      sym (ap (λ (b : Bool). b && is_flood (get_or l i no_node).state) (lt-ltb i (at_most64 n) h)) ∙ sym (has_marks (at_most64 n) (floods l) i) ∙ ap (λ (x : ℕ). has x i) e ∙ has_none i

  listens_at : (i : ℕ) → has (sets_of n l).listening i ≡ true → (i < at_most64 n) × (is_listen (get_or l i no_node).state ≡ true)
  unfolding sets_of listens
  listens_at i e = let p = and_true (ltb i (at_most64 n)) (listens l i) (sym (has_marks (at_most64 n) (listens l) i) ∙ e) in (ltb-true i (at_most64 n) p.0, p.1)

-- ---- a slot

sent_none : (held : List Payload) → sent_of 0 held ≡ 0
unfolding sent_of
sent_none held = sym (over_none (sent_at held) {m = 0} {t = 0} refl refl)

uncounted : (d : Draw) (m : MetricsCollector) → m.ce_timeouts < 2 ^ 64 → m.rx_attempts < 2 ^ 64 → m.rx_success < 2 ^ 64 → counted_slot (idle_plan d) m ≡ m
unfolding counted_slot
uncounted d m a b c = rw (none_added m.ce_timeouts a, none_added m.rx_attempts b, none_added m.rx_success c)

module _ (ws : List ℕ) (conf : RoundConf) (c : CeState) (k : ℕ) (q : Idle conf (suc k) c) where
  abbrev pos : ℕ
  pos = conf.graph.n

  abbrev w : Network
  w = c.network

  early : (i : ℕ) → i < 64 → has (sets_of pos (ticked_all pos w.nodes)).listening i ≡ true → timed_out w.slot conf.settings.listen_timeout (get_or (ticked_all pos w.nodes) i no_node) ≡ false
  unfolding timed_out
  early i h e =
      let p = listens_at pos w.nodes i (rw (tick_sets pos w.nodes q.small.nodes) at e) in
      let v = get_or w.nodes i no_node in
      rw (tick_get pos w.nodes q.small.nodes i p.0, ticked_last v)
      (lt-leb conf.settings.listen_timeout (w.slot - v.last_progress_slot) (omega (arith, (q.waits i p.0).early p.1)))

  slot_plan : plan_for ws conf (begun conf c) ≡ idle_plan c.draw
  unfolding begun ticking
  slot_plan =
      plan_idle ws conf.settings.loss_rate conf.graph.adj w.slot conf.settings.listen_timeout (ticked_all pos w.nodes) (sets_of pos (ticked_all pos w.nodes)) c.draw
      (ap (λ (s : StateSets). s.flooding) (tick_sets pos w.nodes q.small.nodes) ∙ q.silent) early

  slot_nodes : (m : News) → m.recovering ≡ 0 → m.new_info ≡ 0 → m.can_sleep ≡ 0 → turned_all pos w.slot m (ticked_all pos w.nodes) ≡ passed_all pos 1 w.nodes
  unfolding turned_all
  slot_nodes m r e s =
      upto_same (turn_at w.slot m) (each no_node (turned w.slot false false false false)) (ticked_all pos w.nodes) (at_most64 pos)
      (λ i h l. ap (λ (v : Node). set l i v) (turn_none w.slot m r e s i (get_or l i no_node))) ∙
      turn_passes pos w.nodes q.small.nodes (turned w.slot false false false false)
      (λ i h. settled w.slot (get_or w.nodes i no_node).state (get_or w.nodes i no_node) refl (none_floods pos w.nodes q.silent i h))

  slot_applied : applied conf (begun conf c) (idle_plan c.draw) (told_all (voting_of conf) (replicate 64 64) c.held) ≡ idled conf 1 c
  unfolding begun ticking idled
  slot_applied =
      let t = told_idle (voting_of conf) c.held q.awake in
      rw (
        slot_nodes (news_of (idle_plan c.draw) (told_all (voting_of conf) (replicate 64 64) c.held)) refl t.news t.rests,
        t.same,
        same_next w (omega (arith, q.rows)) conf.interval,
        tick_sets pos w.nodes q.small.nodes,
        q.silent,
        sent_none c.held,
        none_added w.bytes_sent q.small.sent,
        uncounted c.draw w.metrics q.small.timeouts q.small.attempts q.small.success,
        q.going,
      )

  pub slot_idle : slot_of ws conf c ≡ idled conf 1 c
  unfolding slot_of finished acted begun
  slot_idle =
      ap (λ (b : Bool). either {A = CeState} b (goal_met conf (begun conf c)) (acted ws conf (begun conf c))) q.goal ∙
      ap (λ (p : Plan). applied conf (begun conf c) p (told_all (voting_of conf) p.hears c.held)) slot_plan ∙ slot_applied

-- ---- several slots

module _ (conf : RoundConf) where
  idled_both : (a b : ℕ) (c : CeState) → length c.network.nodes ≡ 64 → idled conf b (idled conf a c) ≡ idled conf (a + b) c
  unfolding idled
  idled_both a b c long = rw (pass_both conf.graph.n c.network.nodes long a b, add_both c.network.slot a b)

  still_waits : (k slot timeout : ℕ) (v w : Node) → w ≡ passed 1 v → Waits slot timeout (suc (suc k)) v → Waits (add64 slot 1) timeout (suc k) w
  still_waits k slot timeout v w e h =
      record {
        early = λ l.
            let at = ap (λ (x : Node). x.last_progress_slot) e ∙ passed_last 1 v in
            let p = h.early (ap is_listen (sym (ap (λ (x : Node). x.state) e ∙ passed_state 1 v)) ∙ l) in
            omega arith;
      }

  still_idle : (k : ℕ) (c : CeState) → Idle conf (suc (suc k)) c → Idle conf (suc k) (idled conf 1 c)
  unfolding idled
  still_idle k c q =
      let n = conf.graph.n in
      let w = c.network in
      let long = q.small.nodes in
      record {
        small = record { nodes = pass_length n 1 w.nodes ∙ long; sent = q.small.sent; timeouts = q.small.timeouts; attempts = q.small.attempts; success = q.small.success };
        going = q.going;
        rows = omega (arith, q.rows);
        goal = q.goal;
        silent = ap (λ (s : StateSets). s.flooding) (pass_sets n w.nodes long 1) ∙ q.silent;
        waits = λ i h. still_waits k w.slot conf.settings.listen_timeout (get_or w.nodes i no_node) (get_or (passed_all n 1 w.nodes) i no_node) (pass_get n w.nodes long 1 i h) (q.waits i h);
        awake = q.awake;
      }

module _ (ws : List ℕ) (conf : RoundConf) where
  idle_leaps : Leaps over (slot_of ws conf) (Idle conf) (idled conf)
  idle_leaps =
      record {
        goes = λ k c q. q.going;
        one = λ c q. slot_idle ws conf c 0 q;
        stays = λ k c q. rw (slot_idle ws conf c (suc k) q) (still_idle conf k c q);
        joins = λ k c q. rw (slot_idle ws conf c (suc k) q) (idled_both conf 1 (suc k) c q.small.nodes ∙ ap (λ (x : ℕ). idled conf x c) (more k));
      }
    where
      more : (k : ℕ) → 1 + suc k ≡ suc (suc k)
      more k = omega arith

  -- a step by a stretch
  pub stepped_idle : {left k : ℕ} {c t : CeState} → 0 < k → k ≤ left → Idle conf k c → t ≡ idled conf k c → Stepped network_in over (slot_of ws conf) conf left c (left - k) t
  stepped_idle = stepped_leap network_in over (slot_of ws conf) conf (Idle conf) (idled conf) idle_leaps (λ k c q. omega (arith, q.rows))
