-- A pipeline round step by step, and its refusals. Assumes nothing.
use Rattle.std.proofs.Common.{◌≡◌, ℕ, ◌+◌, ◌-◌, ◌*◌, ◌/◌, ◌<◌, ◌≤◌, Bool, true, false, not, Ok, Err, Some, None, ltb, List, ◌++◌, length, take, drop, sym, refl, ap, ◌∙◌, true≢false, arith}
use lib.Seq.{sets}
use mir.Val.{bool_byte}
use Rattle.std.specs.Result.{result_and}
use Rattle.loops.specs.Pick.{either}
use Rattle.limits.specs.Limits.{positions, last_slot}
use Rattle.limits.specs.Refusals.{Tested, holds_or}
use Rattle.limits.specs.declared.refusals.Refusal.{Refusal}
use Rattle.limits.specs.declared.refusals.Refusal.TheVariants.{Stopped}
use Rattle.limits.proofs.Tests.{held, first_held, second_held}
use Rattle.graph.specs.Links.{size_test}
use Rattle.graph.proofs.Rules.{size_parts}
use Rattle.engines.specs.Nodes.{inc, sets_of}
use Rattle.engines.specs.Network.{length_test, late_test}
use Rattle.engines.specs.Rounds.{placed}
use Rattle.engines.proofs.Rounds.{length_fits, late_fits, placed_whole}
use Rattle.flood.specs.Flood.{flood_round, flood_rows, flooded_of}
use Rattle.flood.proofs.Flooding.{told_short, told_whole}
use Rattle.pipeline.specs.Pending.{join_marks}
use Rattle.pipeline.specs.declared.process.AllProcessed.{AllProcessed}
use Rattle.pipeline.specs.Pipeline.{parts_of, shortest_log, progress_all, stops_at}
use Rattle.pipeline.specs.Round.{size_of, deliver_all, covered_of, initiator_of, preparing, bytes_of, flood_from, counted_in, processing, close_round, flood_of, run_round, RoundSurveyed, rows_of_round, is_done, early_test, start_draw, run_test, round_test, PipelineAnswer, refused_with, accepted_with, round_answer, round_buffer}
use Rattle.engines.specs.declared.words.Draw.{Draw}
use Rattle.engines.specs.declared.network.Network.{Network}
use Rattle.engines.specs.declared.node.Node.{Node}
use Rattle.engines.specs.declared.node.StateSets.{StateSets}
use Rattle.engines.specs.declared.metrics.MetricsCollector.{MetricsCollector}
use Rattle.engines.specs.declared.network.Survey.{Survey}
use Rattle.flood.specs.declared.flood.FloodRun.{FloodRun}
use Rattle.pipeline.specs.declared.two_pc_pipeline.NodeTwoPcState.{NodeTwoPcState}
use Rattle.pipeline.specs.declared.two_pc_pipeline.RoundPacket.{RoundPacket}
use Rattle.pipeline.specs.declared.prepare.Prepared.{Prepared}
use Rattle.pipeline.specs.declared.process.Carried.{Carried}
use Rattle.pipeline.specs.declared.pipeline.PipelineConf.{PipelineConf}
use Rattle.pipeline.specs.declared.pipeline.PipelinePart.{PipelinePart}
use Rattle.pipeline.specs.declared.pipeline.RoundRun.{RoundRun}
use Rattle.pipeline.proofs.Shortage.{close_short}

-- ---- a run

module _ (ws : List ℕ) (conf : PipelineConf) (w : Network) (p : PipelinePart) (d : Draw) {i : ℕ} (a : i ≡ initiator_of conf p)
    {prep : Prepared} (b : prep ≡ preparing ws conf w.slot p i d) {bytes : ℕ} (c : bytes ≡ bytes_of conf prep.packet)
    {start : FloodRun} (e : start ≡ flood_from conf w i prep.draw) where
  pub rows_same : flood_rows ws conf.round bytes start ≡ rows_of_round ws conf w p d
  unfolding rows_of_round
  rows_same = rw (c, e, b, a)

  pub run_whole : {x : Survey FloodRun} → Some x ≡ flooded_of ws conf.round bytes start → {r : RoundRun} → r ≡ close_round ws conf p i prep x.run
      → RoundSurveyed ws conf w p d r x.due
  unfolding run_round flood_of
  run_whole {x} v {r} g =
      let t = told_whole ws conf.round bytes start v in
      let h : r ≡ run_round ws conf w p d = rw (t.run, c, e, b, a) at g in
      record {
        short = ap (λ (x : RoundRun). x.draw.short) h;
        run = λ z. h;
        rows = λ z. t.due ∙ ap length rows_same;
      }

  lacking : None ≡ flooded_of ws conf.round bytes start → (run_round ws conf w p d).draw.short ≡ true
  unfolding run_round flood_of
  lacking v =
      rw (← a, ← b, ← c, ← e) (close_short ws conf p i prep (flood_round ws conf.round bytes start) (told_short ws conf.round bytes start v))

  pub run_short : (at : ℕ) → None ≡ flooded_of ws conf.round bytes start → RoundSurveyed ws conf w p d (record { network = w; part = p; draw = record { at = at; short = true } }) 0
  run_short at v = record { short = sym (lacking v); run = λ z. absurd (true≢false z); rows = λ z. absurd (true≢false z) }

pub close_is : (ws : List ℕ) (conf : PipelineConf) (p : PipelinePart) (i : ℕ) (prep : Prepared) (f : FloodRun)
    {s : StateSets} {parts holding covered done round : ℕ} {payloads : List RoundPacket} {states : List NodeTwoPcState} {carried : Carried} {nodes : List Node} {stop : Bool} {metrics : MetricsCollector}
    → s ≡ sets_of (size_of conf) f.network.nodes
    → parts ≡ parts_of (size_of conf) i s.sleeping
    → payloads ≡ deliver_all prep.packet parts p.payloads
    → holding ≡ join_marks p.holding parts
    → covered ≡ covered_of prep.packet (size_of conf) holding payloads
    → ◌≡◌ {A = AllProcessed} (record { states = states; carried = carried }) (processing ws conf p i prep f parts)
    → done ≡ shortest_log (size_of conf) states
    → nodes ≡ progress_all (size_of conf) conf.transactions done states f.network.nodes
    → stop ≡ stops_at conf.transactions done prep.txs.counter p.round
    → metrics ≡ counted_in f.network.metrics (bool_byte (ltb 0 prep.packet.nack)) carried.answers (size_of conf) covered
    → round ≡ either stop p.round (inc p.round)
    → ◌≡◌ {A = RoundRun}
    (record {
      network =
          record {
            nodes = nodes;
            metrics = metrics;
            slot = f.network.slot;
            next_row = f.network.next_row;
            bytes_sent = f.network.bytes_sent;
          };
      part =
          record {
            round = round;
            stop = stop;
            states = states;
            txs = prep.txs;
            piggyback = carried.piggyback;
            records = carried.records;
            payloads = payloads;
            holding = holding;
          };
      draw = carried.draw;
    })
    (close_round ws conf p i prep f)
unfolding close_round
close_is ws conf p i prep f es ep ey eh ec eg ed ea et em er = rw (← es, ← ep, ← ey, ← eh, ← eg, ← ed, ← et, ← ec, em, er, ea)

-- ---- refusals

module _ (conf : PipelineConf) (slot : ℕ) (stop : Bool) (e : early_test conf slot stop ≡ Ok tt) where
  -- what an accepted opening of a round knows of the positions, of the room, and of the round's length
  pub early_size : (0 < size_of conf) × (size_of conf ≤ positions)
  unfolding early_test
  early_size = size_parts (size_of conf) (first_held (size_test (size_of conf)) _ tt e)

  rest : result_and (holds_or (not (is_done conf slot stop)) Stopped) (length_test conf.round slot) ≡ Ok tt
  unfolding early_test
  rest = second_held (size_test (size_of conf)) _ tt e

  pub early_going : not (is_done conf slot stop) ≡ true
  early_going = held (not (is_done conf slot stop)) Stopped (first_held (holds_or (not (is_done conf slot stop)) Stopped) (length_test conf.round slot) tt rest)

  pub early_length : slot + conf.round.length ≤ last_slot
  early_length = length_fits conf.round slot (second_held (holds_or (not (is_done conf slot stop)) Stopped) (length_test conf.round slot) tt rest)

module _ (ws : List ℕ) (numbers used : ℕ) (conf : PipelineConf) (w : Network) (p : PipelinePart) (cursor : ℕ) where
  -- a round that is accepted is refused neither early nor by its run
  pub refusal_none : round_test ws numbers used conf w p cursor ≡ Ok tt → (early_test conf w.slot p.stop ≡ Ok tt) × (run_test ws numbers used conf w p cursor ≡ Ok tt)
  unfolding round_test
  refusal_none h = (first_held (early_test conf w.slot p.stop) (run_test ws numbers used conf w p cursor) tt h, second_held (early_test conf w.slot p.stop) (run_test ws numbers used conf w p cursor) tt h)

module _ (ws rows : List ℕ) (used : ℕ) (conf : PipelineConf) (w : Network) (p : PipelinePart) (cursor : ℕ) where
  -- what is owed of the answer and of the buffer
  abbrev Owed : PipelineAnswer → List ℕ → Type 0
  Owed r final = (r ≡ round_answer ws (length rows) used conf w p cursor) × (final ≡ round_buffer ws rows used conf w p cursor)

  refused : (k : Refusal) → round_test ws (length rows) used conf w p cursor ≡ Err k → Owed (refused_with (Err k) w p cursor used) rows
  unfolding round_answer round_buffer
  refused k q = (rw q, rw q)

  pub refused_early : {k : Refusal} → Err k ≡ early_test conf w.slot p.stop → Owed (refused_with (Err k) w p cursor used) rows
  unfolding round_test
  refused_early {k} e = refused k (rw (← e))

  module _ (a : Ok tt ≡ early_test conf w.slot p.stop) {x : RoundRun} {due : ℕ} (v : RoundSurveyed ws conf w p (start_draw cursor) x due) {late : Tested} (c : late ≡ late_test (length rows) used x.draw.short due) where
    -- what is refused by the run that was made is refused by the whole one, and the other way round
    whole : late ≡ run_test ws (length rows) used conf w p cursor
    unfolding late_test run_test
    whole = c ∙ by x.draw.short refl
      where
        all : List ℕ
        all = rows_of_round ws conf w p (start_draw cursor)

        by : (s : Bool) → x.draw.short ≡ s → late_test (length rows) used x.draw.short due ≡ late_test (length rows) used (run_round ws conf w p (start_draw cursor)).draw.short (length all / 5)
        by true q = rw (← v.short, q)
        by false q = let n : length all / 5 ≡ due = omega (arith, v.rows q) in rw (← v.short, n)

    told : round_test ws (length rows) used conf w p cursor ≡ late
    unfolding round_test
    told = rw (← a) (sym whole)

    pub refused_late : {k : Refusal} → Err k ≡ late → Owed (refused_with (Err k) w p cursor used) rows
    refused_late {k} n = refused k (told ∙ sym n)

    module _ (none : Ok tt ≡ late) where
      -- nothing is refused, so no word was missing, and the rows fit
      pub fits_all : (x.draw.short ≡ false) × ((used + due) * 5 ≤ length rows)
      fits_all = late_fits (length rows) used due x.draw.short (sym c ∙ sym none)

      pub due_all : due * 5 ≡ length (rows_of_round ws conf w p (start_draw cursor))
      due_all = v.rows fits_all.0

      pub accepted : {final : List ℕ} → final ≡ sets rows (used * 5) (rows_of_round ws conf w p (start_draw cursor)) → Owed (accepted_with (used + due) x) final
      unfolding round_answer round_buffer
      accepted e =
          let n : length (rows_of_round ws conf w p (start_draw cursor)) / 5 ≡ due = omega (arith, due_all) in
          (rw (told, ← none, n, v.run fits_all.0), rw (told, ← none) e)

-- the rows that are due, written into the part that is lent for them
pub part_whole : (rows l : List ℕ) (used due : ℕ) → due * 5 ≡ length l → (used + due) * 5 ≤ length rows
    → let size = (used + due) * 5 - used * 5 in
    take (used * 5) rows ++ (placed (take size (drop (used * 5) rows)) 0 l ++ drop size (drop (used * 5) rows)) ≡ sets rows (used * 5) l
part_whole rows l used due e h =
    let z : (used + due) * 5 - used * 5 ≡ due * 5 = omega arith in
    rw z (placed_whole rows l (used * 5) due (sym e) (omega arith))
