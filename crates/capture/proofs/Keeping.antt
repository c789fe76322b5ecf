-- Who is heard hears nobody, and so keeps what it holds. Assumes nothing.
use Rattle.std.proofs.Common.{◌≡◌, ℕ, zero, suc, ◌<◌, Bool, true, false, not, ◌&&◌, eqb, ltb, List, length, get_or, set, sym, refl, ap, ◌∙◌, inl, inr, true≢false, arith, get_or-set_other, get_or-set_same, ltb-false, ltb-true, eqb-true}
use lib.Seq.{set_out}
use borrow.Author.Tests.{eqb-false}
use Rattle.loops.specs.Pick.{either}
use Rattle.loops.specs.Upto.{upto}
use Rattle.marks.specs.Marks.{has}
use Rattle.marks.specs.Sets.{and_true, has_marks}
use Rattle.merges.specs.Merging.{no_payload, network_goal_of}
use Rattle.merges.specs.declared.merging.Payload.{Payload}
use Rattle.engines.specs.Clamp.{at_most64}
use Rattle.engines.specs.Marked.{place}
use Rattle.engines.specs.Nodes.{no_node, is_listen, is_flood, listens, floods, sets_of}
use Rattle.engines.specs.declared.node.Node.{Node}
use Rattle.engines.specs.declared.node.NodeState.{NodeState}
use Rattle.engines.specs.declared.node.NodeState.TheVariants.{Listen, Flood, Sleep}
use Rattle.engines.specs.declared.network.RoundConf.{RoundConf}
use Rattle.capture.specs.Plan.{targets_of, Hears}
use Rattle.capture.specs.Ce.{told_all}
use Rattle.capture.specs.Capture.{voting_of, begun, goal_met, plan_for, acted, finished, slot_of}
use Rattle.capture.specs.Senders.{heard_in, SendersKeep}
use Rattle.capture.specs.declared.capture.CeState.{CeState}
use Rattle.capture.proofs.Neighbours.{any_default, plan_hears, plan_long, plan_others}
use Rattle.capture.proofs.Telling.{nobody_heard, answer, told_held}

-- a position floods or listens, not both
module _ (n : ℕ) (l : List Node) (s : ℕ) (q : has (sets_of n l).flooding s ≡ true) where
  flooder : (s < at_most64 n) × (is_flood (get_or l s no_node).state ≡ true)
  unfolding sets_of floods
  flooder = let p = and_true (ltb s (at_most64 n)) (floods l s) (sym (has_marks (at_most64 n) (floods l) s) ∙ q) in (ltb-true s (at_most64 n) p.0, p.1)

  not_listening : has (sets_of n l).listening s ≡ false
  unfolding sets_of listens
  not_listening = has_marks (at_most64 n) (listens l) s ∙ by (ltb s (at_most64 n)) (get_or l s no_node).state flooder.1
    where
      by : (t : Bool) (v : NodeState) → is_flood v ≡ true → (t && is_listen v) ≡ false
      by t Listen e = absurd (true≢false (sym e))
      by true Flood e = refl
      by false Flood e = refl
      by t Sleep e = absurd (true≢false (sym e))

no_target : (a b t : ℕ) → has a t ≡ false → has (targets_of a b) t ≡ false
unfolding targets_of
no_target a b t e = has_marks 64 (λ j. has a j && not (has b j)) t ∙ by (ltb t 64) (has a t) (has b t) e
  where
    by : (x y z : Bool) → y ≡ false → (x && (y && not z)) ≡ false
    by x true z e = absurd (true≢false e)
    by true false z e = refl
    by false false z e = refl

-- a place that is put what stands there stays
stays : (f : ℕ → Payload) (l : List Payload) (k s : ℕ) → f s ≡ get_or l s no_payload → get_or (upto k (place no_payload (λ i v. f i)) l) s no_payload ≡ get_or l s no_payload
unfolding upto
stays f l zero s e = refl
stays f l (suc k) s e = by (stays f l k s e) (eqb s k) refl (ltb k (length t)) refl
  where
    t : List Payload
    t = upto k (place no_payload (λ i v. f i)) l

    by : get_or t s no_payload ≡ get_or l s no_payload → (b : Bool) → eqb s k ≡ b → (d : Bool) → ltb k (length t) ≡ d → get_or (set t k (f k)) s no_payload ≡ get_or l s no_payload
    by ih false q d r = get_or-set_other t k s (f k) no_payload (eqb-false s k q) ∙ ih
    by ih true q true r =
        let z : s ≡ k = eqb-true s k q in
        ap (λ (i : ℕ). get_or (set t k (f k)) i no_payload) z ∙ get_or-set_same t k (f k) no_payload (ltb-true k (length t) r) ∙ ap f (sym z) ∙ e
    by ih true q false r = ap (λ (x : List Payload). get_or x s no_payload) (set_out t k (f k) (ltb-false k (length t) r)) ∙ ih

module _ (ws : List ℕ) (conf : RoundConf) (c : CeState) where
  abbrev n : ℕ
  n = conf.graph.n

  abbrev d : CeState
  d = begun conf c

  abbrev hears : List ℕ
  hears = (plan_for ws conf d).hears

  long : length hears ≡ 64
  long = plan_long ws conf.settings.loss_rate conf.graph.adj d.network.slot conf.settings.listen_timeout d.network.nodes (sets_of n d.network.nodes) d.draw

  deaf : (s : ℕ) → has (sets_of n d.network.nodes).flooding s ≡ true → get_or hears s 0 ≡ 64
  deaf s q =
      plan_others ws conf.settings.loss_rate conf.graph.adj d.network.slot conf.settings.listen_timeout d.network.nodes (sets_of n d.network.nodes) d.draw s
      (let h = (flooder n d.network.nodes s q).0 in omega arith) (no_target (sets_of n d.network.nodes).listening (plan_for ws conf d).recovering s (not_listening n d.network.nodes s q))

  told : (s : ℕ) → get_or hears s 0 ≡ 64 → get_or (told_all (voting_of conf) hears d.held).held s no_payload ≡ get_or d.held s no_payload
  told s e =
      ap (λ (l : List Payload). get_or l s no_payload) (told_held (voting_of conf) hears d.held)
      ∙ stays (λ i. (answer (voting_of conf) hears d.held i).payload) d.held (at_most64 n) s
      (ap (λ m. m.payload) (nobody_heard (voting_of conf) d.held s (get_or hears s 0) (omega (arith, e))))

  keeps : (s : ℕ) → get_or hears s 0 ≡ 64 → get_or (slot_of ws conf c).held s no_payload ≡ get_or c.held s no_payload
  unfolding slot_of finished acted goal_met begun
  keeps s e = by (network_goal_of n c.held)
    where
      by : (b : Bool) → get_or (either b (goal_met conf d) (acted ws conf d)).held s no_payload ≡ get_or c.held s no_payload
      by true = refl
      by false = told s e

  pub senders_keep : SendersKeep ws conf c
  unfolding heard_in
  senders_keep =
      record {
        deaf = λ s q. any_default hears s 64 0 (let h = (flooder n d.network.nodes s q).0 in omega (arith, long)) ∙ deaf s q;
        keeps = λ t s e h. from t s e h (plan_hears ws conf.settings.loss_rate conf.graph.adj d.network.slot conf.settings.listen_timeout d.network.nodes (sets_of n d.network.nodes) d.draw t);
      }
    where
      from : (t s : ℕ) → get_or hears t 64 ≡ s → s < 64 → Hears conf.graph.adj (sets_of n d.network.nodes).flooding t (get_or hears t 64) → get_or (slot_of ws conf c).held s no_payload ≡ get_or c.held s no_payload
      from t s e h (inl q) = absurd (omega (arith, e, q))
      from t s e h (inr q) = keeps s (deaf s (rw (← e) q.floods))
