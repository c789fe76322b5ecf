-- Demand 3, one call at a time: a pipeline round. Assumes nothing.
use Rattle.std.proofs.Common.{◌≡◌, ℕ, ◌+◌, ◌<◌, ◌≤◌, Bool, ltb, leb, Ok, List, [], get_or, refl, arith}
use Rattle.std.specs.Result.{is_ok}
use Rattle.loops.specs.Pick.{either}
use Rattle.limits.specs.Limits.{last_slot}
use Rattle.limits.specs.Refusals.{Tested}
use Rattle.limits.proofs.Tests.{second_held, ok_told}
use Rattle.marks.specs.Marks.{has}
use Rattle.graph.specs.Links.{size_test}
use Rattle.merges.proofs.Safety.{either_cases}
use Rattle.engines.specs.Clamp.{at_most64}
use Rattle.engines.specs.Nodes.{reset_round, sets_of, ticked_all}
use Rattle.engines.specs.declared.words.Draw.{Draw}
use Rattle.engines.specs.declared.node.Node.{Node}
use Rattle.engines.specs.declared.node.NodeState.TheVariants.{Flood}
use Rattle.engines.proofs.Sums.{Counts, reset_alike, kept_counts, all_counts, ticked_counts, next_counts, inc_is}
use Rattle.flood.specs.Flood.{in_state, next_node, turn_at, turned_all, flood_plan, flood_slot, is_over, reset_at, reset_all, flood_start, flood_round}
use Rattle.flood.specs.declared.flood.FloodRun.{FloodRun}
use Rattle.flood.proofs.Sums.{next_alike}
use Rattle.pipeline.specs.Pipeline.{no_state, progressed, progress_at, progress_all}
use Rattle.pipeline.specs.Round.{initiator_of, preparing, bytes_of, flood_from, flood_of, close_round, run_round, early_test, start_draw, round_test, PipelineAnswer, round_answer}
use Rattle.pipeline.specs.declared.prepare.Prepared.{Prepared}
use Rattle.pipeline.proofs.Rounding.{early_length}
use Rattle.pipeline.proofs.KeptLogs.{close_kept, preparing_kept}
use Rattle.room.specs.declared.room.Room.{Room}
use Rattle.room.specs.declared.room.RoomConf.{RoomConf}
use Rattle.room.specs.Kinds.{pipeline_only, positions_of}
use Rattle.room.specs.Pipelining.{pipe_conf, pipeline_test, pipeline_part}
use Rattle.room.specs.Rooms.{size_of, held_at, with_pipeline, pipeline_of}
use Rattle.room.specs.Slots.{flooding, pipeline_slots}
use Rattle.room.proofs.Holding.{grown_same}
use Rattle.room.proofs.Moments.{Inv, same_logs, Way, Quiet, first_quiet, last_quiet, Slot, round_way}
use Rattle.room.proofs.Calling.{refused_way}

-- a slot of the flood
flood_slot_lem : (ws : List ℕ) (r : Room) (i : ℕ) (prep : Prepared) (f : FloodRun) → Inv (flooding r i prep f) → f.network.slot < last_slot
    → Slot (flooding r i prep f) (flooding r i prep (flood_slot ws r.conf.round (bytes_of (pipe_conf r.conf) prep.packet) f))
unfolding flood_slot turned_all turn_at
flood_slot_lem ws r i prep f v h =
    let l = ticked_all (size_of r) f.network.nodes in
    let p = flood_plan ws r.conf.round.settings.loss_rate r.conf.round.graph.adj (sets_of (size_of r) l) f.draw in
    let repeats = r.conf.round.settings.flood_repeats in
    record {
      inv = record {
        size = v.size;
        counts = next_counts (omega arith)
            (all_counts (λ j. next_node repeats (has p.received j)) (λ j. next_alike repeats (has p.received j)) (at_most64 (size_of r)) l
            (ticked_counts f.network.nodes v.size (omega arith) v.counts));
        term = v.term;
        held = v.held;
      };
      le = record { fixed = refl; logs = same_logs (flooding r i prep f); term = omega arith; held = λ u q t. grown_same (held_at r u) q };
      slot = inc_is f.network.slot (omega arith);
    }

-- the start of a flood touches no count
start_counts : {n slot : ℕ} (m i repeats : ℕ) (l : List Node) → Counts n slot l → Counts n slot (flood_start m i repeats l)
unfolding flood_start reset_all reset_at
start_counts {n} {slot} m i repeats l c =
    let fresh : Counts n slot (reset_all m l) = all_counts (λ j. reset_round) (λ j. reset_alike) (at_most64 m) l c in
    either_cases (λ (t : List Node). Counts n slot t) (ltb i 64)
    (λ e. kept_counts (λ v. in_state v Flood repeats) (λ v. record { listen = refl; flood = refl; sleep = refl }) (reset_all m l) i fresh)
    (λ e. fresh)

abbrev prep_in : List ℕ → Room → ℕ → Draw → Prepared
prep_in ws r i d = preparing ws (pipe_conf r.conf) r.network.slot r.pipeline i d

-- what the initiator does before the flood, and the start of the flood
prepared_quiet : (ws : List ℕ) (r : Room) (i : ℕ) (d : Draw) → Inv r
    → Quiet r (flooding r i (prep_in ws r i d) (flood_from (pipe_conf r.conf) r.network i (prep_in ws r i d).draw))
unfolding flood_from
prepared_quiet ws r i d v =
    record {
      inv = record { size = v.size; counts = start_counts (size_of r) i r.conf.round.settings.flood_repeats r.network.nodes v.counts; term = v.term; held = v.held };
      le = record {
        fixed = refl;
        logs = preparing_kept ws (pipe_conf r.conf) r.network.slot r.pipeline i d;
        term = omega arith;
        held = λ u q t. grown_same (held_at r u) q;
      };
      slot = refl;
    }

-- what everybody does after it
closed_quiet : (ws : List ℕ) (r : Room) (i : ℕ) (prep : Prepared) (f : FloodRun) → Inv (flooding r i prep f)
    → Quiet (flooding r i prep f)
    (with_pipeline r (close_round ws (pipe_conf r.conf) r.pipeline i prep f).network (close_round ws (pipe_conf r.conf) r.pipeline i prep f).part)
unfolding close_round progress_all progress_at
closed_quiet ws r i prep f v =
    let x = (close_round ws (pipe_conf r.conf) r.pipeline i prep f).part in
    record {
      inv = record {
        size = v.size;
        counts = all_counts (λ j. progressed _ (leb r.conf.transactions (get_or x.states j no_state).log.len)) (λ j w. record { listen = refl; flood = refl; sleep = refl }) (at_most64 (size_of r)) f.network.nodes v.counts;
        term = v.term;
        held = v.held;
      };
      le = record {
        fixed = refl;
        logs = close_kept ws (pipe_conf r.conf) r.pipeline i prep f;
        term = omega arith;
        held = λ u q t. grown_same (held_at r u) q;
      };
      slot = refl;
    }

ran_way : (ws : List ℕ) (r : Room) (cursor : ℕ) → Inv r → r.network.slot + r.conf.round.length ≤ last_slot
    → Way r (pipeline_slots ws cursor r)
    (with_pipeline r (run_round ws (pipe_conf r.conf) r.network r.pipeline (start_draw cursor)).network (run_round ws (pipe_conf r.conf) r.network r.pipeline (start_draw cursor)).part)
unfolding pipeline_slots run_round flood_of flood_round flood_from
ran_way ws r cursor v h =
    let conf = pipe_conf r.conf in
    let i = initiator_of conf r.pipeline in
    let prep = prep_in ws r i (start_draw cursor) in
    let q = prepared_quiet ws r i (start_draw cursor) v in
    let w = round_way is_over (flood_slot ws r.conf.round (bytes_of conf prep.packet)) (flooding r i prep) (λ f. flood_slot_lem ws r i prep f) r.conf.round.length
    (flood_from conf r.network i prep.draw) q.inv h in
    last_quiet (first_quiet q w) (closed_quiet ws r i prep _ w.inv)

-- what an accepted round knows
round_fine : (c : RoomConf) (stop : Bool) (slot : ℕ) → pipeline_test c stop slot ≡ Ok tt → early_test (pipe_conf c) slot stop ≡ Ok tt
unfolding pipeline_test
round_fine c stop slot e = second_held (pipeline_only c.kind) _ tt (second_held (size_test (positions_of c)) _ tt e)

pub pipeline_way : (ws : List ℕ) (numbers used cursor : ℕ) (r : Room) → Inv r
    → Way r (either (is_ok (pipeline_of ws numbers used r cursor).told) (pipeline_slots ws cursor r) []) (pipeline_of ws numbers used r cursor).room
unfolding pipeline_of pipeline_part round_answer
pipeline_way ws numbers used cursor r v =
    either_cases Told (is_ok early)
    (λ b. either_cases Told (is_ok late)
    (λ c. ran_way ws r cursor v (early_length (pipe_conf r.conf) r.network.slot r.pipeline.stop (round_fine r.conf r.pipeline.stop r.network.slot (ok_told early b))))
    (λ c. refused_way late (pipeline_slots ws cursor r) r v c))
    (λ b. refused_way early (pipeline_slots ws cursor r) r v b)
  where
    Told : PipelineAnswer → Type 0
    Told a = Way r (either (is_ok a.told) (pipeline_slots ws cursor r) []) (with_pipeline r a.network a.part)

    early : Tested
    early = pipeline_test r.conf r.pipeline.stop r.network.slot

    late : Tested
    late = round_test ws numbers used (pipe_conf r.conf) r.network r.pipeline cursor
