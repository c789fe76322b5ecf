-- Rounds of no slots: nobody is ticked, and the round ends where it started. Assumes nothing.
use Prim.Native.Nat.{ℕ, zero, suc}
use mathlib.Core.List.{List, [], ◌∷◌}
use mathlib.Core.Path.{◌≡◌, refl, sym, ap, ◌∙◌, subst}
use lib.Dec.{ltb, leb}
use Rattle.std.specs.Result.{is_ok}
use lib.ListN.{get_or, set}
use native.Mathlib.Omega.{arith}
use Rattle.loops.specs.Upto.{upto, upto_holds}
use Rattle.loops.specs.Runs.{go, tell}
use Rattle.merges.proofs.Safety.{either_cases}
use Rattle.engines.specs.Clamp.{at_most64}
use Rattle.engines.specs.Nodes.{no_node, reset_round, Alike}
use Rattle.engines.specs.declared.words.Draw.{Draw}
use Rattle.engines.specs.declared.node.Node.{Node}
use Rattle.engines.specs.declared.node.NodeState.TheVariants.{Flood}
use Rattle.engines.specs.declared.network.Network.{Network}
use Rattle.engines.proofs.Sums.{alike, reset_alike}
use Rattle.capture.specs.Turns.{started, started_all}
use Rattle.capture.specs.Capture.{start_of, after_round}
use Rattle.flood.specs.Flood.{in_state, reset_at, reset_all, flood_start, flood_round}
use Rattle.flood.specs.declared.flood.FloodRun.{FloodRun}
use Rattle.pipeline.specs.Pipeline.{no_state, progressed, progress_at, progress_all}
use Rattle.pipeline.specs.Round.{initiator_of, preparing, start_draw, round_test, PipelineAnswer, flood_from, flood_of, close_round, run_round, round_answer}
use Rattle.pipeline.specs.declared.two_pc_pipeline.NodeTwoPcState.{NodeTwoPcState}
use Rattle.pipeline.specs.declared.pipeline.PipelinePart.{PipelinePart}
use Rattle.pipeline.specs.declared.prepare.Prepared.{Prepared}
use Rattle.pipeline.specs.declared.pipeline.PipelineConf.{PipelineConf}
use Rattle.room.specs.declared.room.Room.{Room}
use Rattle.room.specs.Capturing.{network_after, proposer}
use Rattle.room.specs.Pipelining.{pipe_conf, pipeline_test, pipeline_part}
use Rattle.room.specs.Rooms.{size_of, with_pipeline, RoundAnswer, pipeline_of}
use Rattle.room.specs.Slots.{stages_from, capture_slots, pipeline_slots}
use Rattle.demand.specs.Cases.{Unmoved, CaptureOfNoSlots}
use Rattle.demand.proofs.Resting.{start, early_none, round_is}

-- ---- counts stay

after : {u v w : Node} → Alike u v → Alike v w → Alike u w
after x y = record { listen = x.listen ∙ y.listen; flood = x.flood ∙ y.flood; sleep = x.sleep ∙ y.sleep }

-- each position of a has the counts that it has in b
abbrev Kept : List Node → List Node → Type 0
Kept a b = (v : ℕ) → Alike (get_or a v no_node) (get_or b v no_node)

-- a change of one position
one_kept : (g : Node → Node) → ((v : Node) → Alike (g v) v) → (l : List Node) (i : ℕ) → Kept (set l i (g (get_or l i no_node))) l
one_kept g h [] i v = alike no_node
one_kept g h (x ∷ l) zero zero = h x
one_kept g h (x ∷ l) zero (suc v) = alike (get_or l v no_node)
one_kept g h (x ∷ l) (suc i) zero = alike x
one_kept g h (x ∷ l) (suc i) (suc v) = one_kept g h l i v

-- .. and of any number of them
all_kept : (g : ℕ → Node → Node) → ((i : ℕ) (v : Node) → Alike (g i v) v) → (k : ℕ) (l : List Node) → Kept (upto k (λ i t. set t i (g i (get_or t i no_node))) l) l
all_kept g h k l =
    upto_holds (λ (t : List Node). Kept t l) (λ i t. set t i (g i (get_or t i no_node))) k (λ i t _ p v. after (one_kept (g i) (h i) t i v) (p v)) l (λ v. alike (get_or l v no_node))

started_kept : (n initiator slot : ℕ) (l : List Node) → Kept (started_all n initiator slot l) l
unfolding started_all started
started_kept n initiator slot l = all_kept (started initiator slot) (λ i v. record { listen = refl; flood = refl; sleep = refl }) (at_most64 n) l

-- ---- capture rounds

pub capture_none : CaptureOfNoSlots
unfolding start_of after_round go tell network_after capture_slots stages_from
capture_none ws numbers used cursor r n k p z l room =
    let s = start ws numbers used cursor r in
    let e = round_is ws numbers used cursor r s [] (early_none ws numbers used cursor r k n p (omega arith))
    (rw z) (rw z) refl (omega arith) in
    record {
      accepted = ap (λ (q : RoundAnswer). q.told) e;
      drawn = ap (λ (q : RoundAnswer). q.cursor) e;
      rows = ap (λ (q : RoundAnswer). q.used) e ∙ omega arith;
      ticks = rw z;
      unmoved = record {
        slot = ap (λ (q : RoundAnswer). q.room.network.slot) e;
        bytes = ap (λ (q : RoundAnswer). q.room.network.bytes_sent) e;
        counts = subst (λ (q : RoundAnswer). Kept q.room.network.nodes r.network.nodes) (sym e) (started_kept (size_of r) (proposer r.capture) r.network.slot r.network.nodes);
      };
    }

-- ---- pipeline rounds

-- q is where w was
record Idle (w q : Network) : Type 0 where
  slot : q.slot ≡ w.slot
  sent : q.bytes_sent ≡ w.bytes_sent
  counts : Kept q.nodes w.nodes

start_kept : (m i repeats : ℕ) (l : List Node) → Kept (flood_start m i repeats l) l
unfolding flood_start reset_all reset_at
start_kept m i repeats l =
    let reset = all_kept (λ j. reset_round) (λ j. reset_alike) (at_most64 m) l in
    either_cases (λ (t : List Node). Kept t l) (ltb i 64)
    (λ e v. after (one_kept (λ v. in_state v Flood repeats) (λ v. record { listen = refl; flood = refl; sleep = refl }) (reset_all m l) i v) (reset v))
    (λ e. reset)

progress_kept : (m t done : ℕ) (ss : List NodeTwoPcState) (l : List Node) → Kept (progress_all m t done ss l) l
unfolding progress_all progress_at
progress_kept m t done ss l =
    all_kept (λ i. progressed done (leb t (get_or ss i no_state).log.len)) (λ i v. record { listen = refl; flood = refl; sleep = refl }) (at_most64 m) l

module _ (ws : List ℕ) (conf : PipelineConf) (w : Network) (p : PipelinePart) (z : conf.round.length ≡ 0) where
  flood_none : (i : ℕ) (prep : Prepared) → flood_of ws conf w i prep ≡ flood_from conf w i prep.draw
  unfolding flood_of flood_round go
  flood_none i prep = rw z

  run_idle : (d : Draw) → Idle w (run_round ws conf w p d).network
  unfolding run_round close_round flood_from
  run_idle d =
      let n = conf.round.graph.n in
      let i = initiator_of conf p in
      let prep = preparing ws conf w.slot p i d in
      let e = flood_none i prep in
      record {
        slot = ap (λ (f : FloodRun). f.network.slot) e;
        sent = ap (λ (f : FloodRun). f.network.bytes_sent) e;
        counts = λ v. after (progress_kept n conf.transactions _ _ (flood_of ws conf w i prep).network.nodes v)
            (subst (λ (f : FloodRun). Kept f.network.nodes w.nodes) (sym e) (start_kept n i conf.round.settings.flood_repeats w.nodes) v);
      }

  same_idle : Idle w w
  same_idle = record { slot = refl; sent = refl; counts = λ v. alike (get_or w.nodes v no_node) }

  answer_idle : (numbers used cursor : ℕ) → Idle w (round_answer ws numbers used conf w p cursor).network
  unfolding round_answer
  answer_idle numbers used cursor =
      either_cases (λ (a : PipelineAnswer). Idle w a.network) (is_ok (round_test ws numbers used conf w p cursor))
      (λ e. run_idle (start_draw cursor))
      (λ e. same_idle)

pub pipeline_none : (ws : List ℕ) (numbers used cursor : ℕ) (r : Room) → r.conf.round.length ≡ 0 → Unmoved r (pipeline_of ws numbers used r cursor).room
unfolding pipeline_of pipeline_part
pipeline_none ws numbers used cursor r z =
    let a = answer_idle ws (pipe_conf r.conf) r.network r.pipeline z numbers used cursor in
    either_cases (λ (q : PipelineAnswer). Unmoved r (with_pipeline r q.network q.part)) (is_ok (pipeline_test r.conf r.pipeline.stop r.network.slot))
    (λ e. record { slot = a.slot; bytes = a.sent; counts = a.counts })
    (λ e. record { slot = refl; bytes = refl; counts = λ v. alike (get_or r.network.nodes v no_node) })

pub no_slots : (ws : List ℕ) (cursor : ℕ) (r : Room) → r.conf.round.length ≡ 0 → pipeline_slots ws cursor r ≡ []
unfolding pipeline_slots stages_from
no_slots ws cursor r z = rw z
