-- RULES 11.9, the logs, over a whole round: what each step keeps, each position keeps, and so the room.
-- Assumes nothing.
use Rattle.std.proofs.Common.{ℕ, zero, suc, Bool, true, false, Option, Some, None, List, [], ◌∷◌, get_or, set}
use Rattle.std.specs.Result.{is_ok}
use lib.Ieee.{Float}
use Rattle.loops.specs.Pick.{either}
use Rattle.loops.specs.Upto.{upto_holds}
use Rattle.marks.specs.Marks.{has}
use Rattle.engines.specs.Marked.{over_marks}
use Rattle.pipeline.specs.Pending.{merge_votes, merge_abort, vote_of, fast_of, abort_all}
use Rattle.engines.specs.Nodes.{sets_of}
use Rattle.pipeline.specs.declared.process.AllProcessed.{AllProcessed}
use Rattle.pipeline.specs.Pipeline.{parts_of, new_tx, old_tx, is_fresh, begin_tx, prepare_round, is_new, learnt, hear_new, merge_round, take_up, process_one, no_state, process_at, process_all}
use Rattle.pipeline.specs.Round.{size_of, facts_of, initiator_of, preparing, flood_of, processing, close_round, run_round, start_draw, round_test, PipelineAnswer, round_answer}
use Rattle.engines.specs.declared.network.Network.{Network}
use Rattle.engines.specs.declared.words.Draw.{Draw}
use Rattle.pipeline.specs.declared.two_pc_pipeline.TxLog.{TxLog}
use Rattle.pipeline.specs.declared.two_pc_pipeline.NodeTwoPcState.{NodeTwoPcState}
use Rattle.pipeline.specs.declared.two_pc_pipeline.Vote.{Vote}
use Rattle.pipeline.specs.declared.two_pc_pipeline.Outcome.{Outcome}
use Rattle.pipeline.specs.declared.two_pc_pipeline.RoundPacket.{RoundPacket}
use Rattle.pipeline.specs.declared.two_pc_pipeline.Records.{Records}
use Rattle.pipeline.specs.declared.two_pc_pipeline.Txs.{Txs}
use Rattle.flood.specs.declared.flood.FloodRun.{FloodRun}
use Rattle.pipeline.specs.declared.prepare.Prepared.{Prepared}
use Rattle.pipeline.specs.declared.process.RoundFacts.{RoundFacts}
use Rattle.pipeline.specs.declared.process.Carried.{Carried}
use Rattle.pipeline.specs.declared.pipeline.PipelineConf.{PipelineConf}
use Rattle.pipeline.specs.declared.pipeline.PipelinePart.{PipelinePart}
use Rattle.pipeline.proofs.Growth.{Grown, grown_same, grown_more, Kept, finalize_kept, judged_kept, aborts_kept, open_kept, votes_kept, abort_kept, own_kept}

-- ---- a round

pub begin_kept : (ws : List ℕ) (p : Float) (i r slot t : ℕ) (txs : Txs) (s : NodeTwoPcState) (d : Draw) → Kept s (begin_tx ws p i r slot t txs s d).state
unfolding begin_tx
begin_kept ws p i r slot t txs s d = by (is_fresh t txs)
  where
    v : Vote
    v = vote_of ws p i 0 false d

    by : (b : Bool) → Kept s (either b (new_tx r slot txs s v) (old_tx txs s d)).state
    by true = open_kept txs.counter v.bits v.abort s
    by false = grown_same s.log

pub prepare_kept : (ws : List ℕ) (p : Float) (i : ℕ) (facts : RoundFacts) (t : ℕ) (txs : Txs) (records : Records) (pb : Option Outcome) (s : NodeTwoPcState) (d : Draw) → Kept s (prepare_round ws p i facts t txs records pb s d).state
unfolding prepare_round
prepare_kept ws p i facts t txs records pb s d =
    grown_more (begin_kept ws p i facts.round facts.slot t txs s d) (judged_kept facts.n facts.round _ (begin_tx ws p i facts.round facts.slot t txs s d).state)

hear_kept : (ws : List ℕ) (p : Float) (i : ℕ) (q : RoundPacket) (s : NodeTwoPcState) (d : Draw) → Kept s (hear_new ws p i q s d).state
unfolding hear_new
hear_kept ws p i q s d = by (is_new q s)
  where
    v : Vote
    v = vote_of ws p i q.bits q.abort d

    by : (b : Bool) → Kept s (either b (learnt q s v) (record { state = s; draw = d })).state
    by true = open_kept q.tx v.bits v.abort s
    by false = grown_same s.log

merge_kept : (i : ℕ) (q : RoundPacket) (s : NodeTwoPcState) → Kept s (merge_round i q s)
unfolding merge_round
merge_kept i q s =
    grown_more (votes_kept q.tx q.bits s) (grown_more (abort_kept q.tx q.abort (merge_votes q.tx q.bits s)) (own_kept i q.tx (merge_abort q.tx q.abort (merge_votes q.tx q.bits s))))

take_kept : (b : Option Outcome) (s : NodeTwoPcState) → Kept s (take_up b s)
unfolding take_up
take_kept None s = grown_same s.log
take_kept (Some o) s = finalize_kept o.tx o.committed s

pub process_kept : (ws : List ℕ) (p : Float) (facts : RoundFacts) (rounds : List ℕ) (q : RoundPacket) (i : ℕ) (s : NodeTwoPcState) (l : Carried) → Kept s (process_one ws p facts rounds q i s l).state
unfolding process_one
process_kept ws p facts rounds q i s l =
    let h = (hear_new ws p i q s l.draw).state in
    let m = merge_round i q h in
    let a = abort_all (fast_of m) m in
    let t = take_up q.piggyback a in
    grown_more (hear_kept ws p i q s l.draw) (grown_more (merge_kept i q h) (grown_more (aborts_kept (fast_of m) m) (grown_more (take_kept q.piggyback a) (judged_kept facts.n facts.round rounds t))))

-- every position's log, by its place
abbrev pub log_of : List NodeTwoPcState → ℕ → TxLog
log_of ss j = (get_or ss j no_state).log

abbrev pub AllKept : List NodeTwoPcState → List NodeTwoPcState → Type 0
AllKept ss ts = (j : ℕ) → Grown (log_of ss j) (log_of ts j)

pub set_kept : (ss : List NodeTwoPcState) (i : ℕ) (s : NodeTwoPcState) → Kept (get_or ss i no_state) s → AllKept ss (set ss i s)
set_kept [] i s h j = grown_same (log_of [] j)
set_kept (x ∷ ss) zero s h zero = h
set_kept (x ∷ ss) zero s h (suc j) = grown_same (log_of ss j)
set_kept (x ∷ ss) (suc i) s h zero = grown_same x.log
set_kept (x ∷ ss) (suc i) s h (suc j) = set_kept ss i s h j

pub all_more : (a b c : List NodeTwoPcState) → AllKept a b → AllKept b c → AllKept a c
all_more a b c g h j = grown_more (g j) (h j)

at_kept : (ws : List ℕ) (p : Float) (facts : RoundFacts) (rounds : List ℕ) (q : RoundPacket) (i : ℕ) (x : AllProcessed) → AllKept x.states (process_at ws p facts rounds q i x).states
unfolding process_at
at_kept ws p facts rounds q i x = set_kept x.states i _ (process_kept ws p facts rounds q i (get_or x.states i no_state) x.carried)

pub processed_kept : (ws : List ℕ) (p : Float) (facts : RoundFacts) (rounds : List ℕ) (q : RoundPacket) (parts : ℕ) (g : AllProcessed) → AllKept g.states (process_all ws p facts rounds q parts g).states
unfolding process_all over_marks
processed_kept ws p facts rounds q parts g =
    upto_holds (λ (x : AllProcessed). AllKept g.states x.states) (λ i x. either (has parts i) (process_at ws p facts rounds q i x) x) 64 (λ i x _. turn i x) g (λ j. grown_same (log_of g.states j))
  where
    pick : (b : Bool) (x y : AllProcessed) → AllKept g.states x.states → AllKept g.states y.states → AllKept g.states (either b x y).states
    pick true x y a c = a
    pick false x y a c = c

    turn : (i : ℕ) (x : AllProcessed) → AllKept g.states x.states → AllKept g.states (either (has parts i) (process_at ws p facts rounds q i x) x).states
    turn i x a = pick (has parts i) (process_at ws p facts rounds q i x) x (all_more g.states x.states (process_at ws p facts rounds q i x).states a (at_kept ws p facts rounds q i x)) a

pub close_kept : (ws : List ℕ) (conf : PipelineConf) (p : PipelinePart) (i : ℕ) (prep : Prepared) (f : FloodRun)
    → AllKept (set p.states i prep.state) (close_round ws conf p i prep f).part.states
unfolding close_round processing
close_kept ws conf p i prep f =
    processed_kept ws conf.round.settings.abort_probability (facts_of conf p f.network.slot) prep.txs.rounds prep.packet
    (parts_of (size_of conf) i (sets_of (size_of conf) f.network.nodes).sleeping)
    (record {
      states = set p.states i prep.state;
      carried = record { draw = f.draw; records = prep.records; piggyback = None; answers = 0 };
    })

pub preparing_kept : (ws : List ℕ) (conf : PipelineConf) (slot : ℕ) (p : PipelinePart) (i : ℕ) (d : Draw)
    → AllKept p.states (set p.states i (preparing ws conf slot p i d).state)
unfolding preparing
preparing_kept ws conf slot p i d =
    set_kept p.states i (preparing ws conf slot p i d).state
    (prepare_kept ws conf.round.settings.abort_probability i (facts_of conf p slot) conf.transactions p.txs p.records p.piggyback
    (get_or p.states i no_state) d)

-- A round that is run leaves every log as it was, with something behind it.
pub run_kept : (ws : List ℕ) (conf : PipelineConf) (w : Network) (p : PipelinePart) (d : Draw) → AllKept p.states (run_round ws conf w p d).part.states
unfolding run_round
run_kept ws conf w p d =
    let i = initiator_of conf p in
    let prep = preparing ws conf w.slot p i d in
    all_more p.states (set p.states i prep.state) (run_round ws conf w p d).part.states (preparing_kept ws conf w.slot p i d)
    (close_kept ws conf p i prep (flood_of ws conf w i prep))

-- .. and so does a call, refused or not.
pub answer_kept : (ws : List ℕ) (numbers used : ℕ) (conf : PipelineConf) (w : Network) (p : PipelinePart) (cursor : ℕ)
    → AllKept p.states (round_answer ws numbers used conf w p cursor).part.states
unfolding round_answer
answer_kept ws numbers used conf w p cursor =
    pick (is_ok (round_test ws numbers used conf w p cursor)) _ _ (run_kept ws conf w p (start_draw cursor)) (λ j. grown_same (log_of p.states j))
  where
    pick : (b : Bool) (r s : PipelineAnswer) → AllKept p.states r.part.states → AllKept p.states s.part.states → AllKept p.states (either b r s).part.states
    pick true r s a c = a
    pick false r s a c = c
