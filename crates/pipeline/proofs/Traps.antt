-- RULES 10.5, 10.8 and 10.9, as laws over any state: nack 0 asks for nothing, an abort goes to its transaction
-- only, and what a receiver judges enters no record. (Covered by bytes: Covering.) And a round is refused for nothing
-- but what RULES 15 names. Assumes nothing.
use Rattle.std.proofs.Common.{◌≡◌, ℕ, ◌+◌, ◌-◌, ◌*◌, ◌/◌, ◌<◌, ◌≤◌, Bool, false, ◌&&◌, ltb, leb, true, Ok, List, refl, ◌∙◌, arith, le-ltb, lt-ltb, le-leb, ne_eqb}
use lib.Ieee.{Float}
use borrow.Author.Tests.{lt-leb}
use Rattle.limits.specs.Limits.{last_slot}
use Rattle.graph.specs.Links.{size_test}
use Rattle.marks.specs.Marks.{has}
use Rattle.marks.specs.Sets.{has_marks, or_false}
use Rattle.merges.proofs.Safety.{either_cases}
use Rattle.engines.specs.Marked.{with_mark}
use Rattle.engines.specs.Network.{length_test, late_test}
use Rattle.engines.specs.Rows.{rows_refused}
use Rattle.engines.specs.declared.network.Network.{Network}
use Rattle.pipeline.specs.Pending.{merge_abort, fast_of}
use Rattle.pipeline.specs.Pipeline.{hear_new, merge_round, record_aborts, is_answer, answer_nack, process_one}
use Rattle.pipeline.specs.Round.{size_of, run_round, due_of_round, is_done, early_test, start_draw, run_test}
use Rattle.pipeline.specs.Round.{round_test}
use Rattle.pipeline.specs.declared.two_pc_pipeline.NodeTwoPcState.{NodeTwoPcState}
use Rattle.pipeline.specs.declared.two_pc_pipeline.RoundPacket.{RoundPacket}
use Rattle.pipeline.specs.declared.process.Carried.{Carried}
use Rattle.pipeline.specs.declared.process.RoundFacts.{RoundFacts}
use Rattle.pipeline.specs.declared.pipeline.PipelineConf.{PipelineConf}
use Rattle.pipeline.specs.declared.pipeline.PipelinePart.{PipelinePart}

-- Whoever hears nack 0 answers nothing, even if it has logged transaction 0.
pub nothing_asked : (s : NodeTwoPcState) (l : Carried) → answer_nack 0 s l ≡ l
unfolding answer_nack is_answer
nothing_asked s l = refl

-- what is known of transaction u is as it was: the log, what is pending, the votes, and whether an abort is known of
-- it
pub record Untouched (u : ℕ) (s x : NodeTwoPcState) : Type 0 where
  pub log : x.log ≡ s.log
  pub pending : x.pending ≡ s.pending
  pub votes : x.votes ≡ s.votes
  pub aborts : has x.aborts u ≡ has s.aborts u

-- An abort of transaction t leaves what is known of every other one.
pub abort_of_one : (t u : ℕ) (abort : Bool) (s : NodeTwoPcState) → u < 64 → (u ≡ t → ⊥)
    → Untouched u s (merge_abort t abort s)
unfolding merge_abort with_mark
abort_of_one t u abort s l ne =
    either_cases (Untouched u s) (abort && has s.pending t)
    (λ e.
    record {
      log = refl;
      pending = refl;
      votes = refl;
      aborts = has_marks 64 _ u ∙ rw (lt-ltb u 64 l, ne_eqb u t ne) (or_false (has s.aborts u));
    })
    (λ e. record { log = refl; pending = refl; votes = refl; aborts = refl })

-- an answer to a nack records nothing
answer_records : (nack : ℕ) (s : NodeTwoPcState) (l : Carried) → (answer_nack nack s l).records ≡ l.records
unfolding answer_nack
answer_records nack s l =
    either_cases (λ (x : Carried). x.records ≡ l.records) (is_answer nack s) (λ e. refl) (λ e. refl)

-- What a position adds to the records are its fast aborts. Whatever it judges in the same step is none of them.
pub only_fast : (ws : List ℕ) (p : Float) (facts : RoundFacts) (rounds : List ℕ) (q : RoundPacket) (i : ℕ)
    (s : NodeTwoPcState) (l : Carried)
    → let merged = merge_round i q (hear_new ws p i q s l.draw).state in
    (process_one ws p facts rounds q i s l).carried.records ≡ record_aborts facts.slot (fast_of merged) l.records
unfolding process_one
only_fast ws p facts rounds q i s l = answer_records q.nack _ _

-- A round of 1 to 64 positions that goes on, before its bound, that ends by the last slot, with words enough and place
-- for its rows, is accepted.
module _ (ws : List ℕ) (numbers used : ℕ) (conf : PipelineConf) (w : Network) (p : PipelinePart) (cursor : ℕ) where
  early_none : 0 < size_of conf → size_of conf ≤ 64 → p.stop ≡ false → w.slot < conf.bound
      → w.slot + conf.round.length ≤ last_slot → early_test conf w.slot p.stop ≡ Ok tt
  unfolding early_test size_test length_test
  early_none least most going before short =
      let on : is_done conf w.slot p.stop ≡ false = rw going (lt-leb conf.bound w.slot before) in
      let fit : leb (w.slot + conf.round.length) last_slot ≡ true = le-leb (w.slot + conf.round.length) last_slot short in
      rw (lt-ltb 0 (size_of conf) least, le-leb (size_of conf) 64 most, on, fit)

  late_none : (run_round ws conf w p (start_draw cursor)).draw.short ≡ false
      → (used + due_of_round ws conf w p (start_draw cursor)) * 5 ≤ numbers
      → run_test ws numbers used conf w p cursor ≡ Ok tt
  unfolding run_test late_test rows_refused
  late_none enough fit =
      let due = due_of_round ws conf w p (start_draw cursor) in
      rw (enough, le-ltb numbers (used * 5) (omega arith), le-ltb ((numbers - used * 5) / 5) due (omega arith))

  pub accepted_else : 0 < size_of conf → size_of conf ≤ 64 → p.stop ≡ false → w.slot < conf.bound
      → w.slot + conf.round.length ≤ last_slot → (run_round ws conf w p (start_draw cursor)).draw.short ≡ false
      → (used + due_of_round ws conf w p (start_draw cursor)) * 5 ≤ numbers
      → round_test ws numbers used conf w p cursor ≡ Ok tt
  unfolding round_test
  accepted_else least most going before short enough fit =
      rw (early_none least most going before short) (late_none enough fit)
