-- Words that have run short stay so over what follows the flood in a round. Assumes nothing.
use Rattle.std.proofs.Common.{◌≡◌, ℕ, true, None, List, get_or, set}
use lib.Ieee.{Float}
use Rattle.engines.specs.Nodes.{sets_of}
use Rattle.engines.specs.declared.words.Draw.{Draw}
use Rattle.engines.proofs.Cursor.{Later, later_same, later_trans, next_later, either_later, marks_later}
use Rattle.pipeline.specs.Pending.{vote_of}
use Rattle.pipeline.specs.declared.process.AllProcessed.{AllProcessed}
use Rattle.pipeline.specs.Pipeline.{parts_of, is_new, hear_new, is_answer, answer_nack, process_one, no_state, process_at, process_all}
use Rattle.pipeline.specs.Round.{size_of, facts_of, processing, close_round}
use Rattle.pipeline.specs.declared.two_pc_pipeline.NodeTwoPcState.{NodeTwoPcState}
use Rattle.pipeline.specs.declared.two_pc_pipeline.RoundPacket.{RoundPacket}
use Rattle.flood.specs.declared.flood.FloodRun.{FloodRun}
use Rattle.pipeline.specs.declared.prepare.Prepared.{Prepared}
use Rattle.pipeline.specs.declared.process.Learnt.{Learnt}
use Rattle.pipeline.specs.declared.process.RoundFacts.{RoundFacts}
use Rattle.pipeline.specs.declared.process.Carried.{Carried}
use Rattle.pipeline.specs.declared.pipeline.PipelineConf.{PipelineConf}
use Rattle.pipeline.specs.declared.pipeline.PipelinePart.{PipelinePart}

module _ (ws : List ℕ) where
  new_later : (p : Float) (i : ℕ) (q : RoundPacket) (s : NodeTwoPcState) (d : Draw) → Later ws d (hear_new ws p i q s d).draw
  unfolding hear_new vote_of
  new_later p i q s d = either_later ws (λ (l : Learnt). l.draw) d (is_new q s) _ _ (next_later ws d) (later_same ws d)

  answer_later : (nack : ℕ) (s : NodeTwoPcState) (l : Carried) → Later ws l.draw (answer_nack nack s l).draw
  unfolding answer_nack
  answer_later nack s l = either_later ws (λ (x : Carried). x.draw) l.draw (is_answer nack s) _ _ (later_same ws l.draw) (later_same ws l.draw)

  one_later : (p : Float) (facts : RoundFacts) (rounds : List ℕ) (q : RoundPacket) (i : ℕ) (s : NodeTwoPcState) (l : Carried) → Later ws l.draw (process_one ws p facts rounds q i s l).carried.draw
  unfolding process_one
  one_later p facts rounds q i s l = later_trans ws (new_later p i q s l.draw) (answer_later q.nack _ _)

  at_later : (p : Float) (facts : RoundFacts) (rounds : List ℕ) (q : RoundPacket) (i : ℕ) (g : AllProcessed) → Later ws g.carried.draw (process_at ws p facts rounds q i g).carried.draw
  unfolding process_at
  at_later p facts rounds q i g = one_later p facts rounds q i (get_or g.states i no_state) g.carried

  all_later : (p : Float) (facts : RoundFacts) (rounds : List ℕ) (q : RoundPacket) (parts : ℕ) (g : AllProcessed) → Later ws g.carried.draw (process_all ws p facts rounds q parts g).carried.draw
  unfolding process_all
  all_later p facts rounds q parts g = marks_later ws (λ (x : AllProcessed). x.carried.draw) (process_at ws p facts rounds q) (at_later p facts rounds q) parts g

  pub close_short : (conf : PipelineConf) (p : PipelinePart) (i : ℕ) (prep : Prepared) (f : FloodRun) → f.draw.short ≡ true → (close_round ws conf p i prep f).draw.short ≡ true
  unfolding close_round processing
  close_short conf p i prep f =
      (all_later conf.round.settings.abort_probability (facts_of conf p f.network.slot) prep.txs.rounds prep.packet
      (parts_of (size_of conf) i (sets_of (size_of conf) f.network.nodes).sleeping)
      (record {
        states = set p.states i prep.state;
        carried = record { draw = f.draw; records = prep.records; piggyback = None; answers = 0 };
      })
      ).stays
