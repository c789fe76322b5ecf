-- RULES 11.6, in a room: the round on the parts that it moves, with its refusals. Assumes nothing.
use Rattle.std.specs.Prelude.{ℕ, Bool, is_ok, List}
use Rattle.std.specs.Result.{result_and}
use Rattle.loops.specs.Pick.{either}
use Rattle.limits.specs.Refusals.{Tested}
use Rattle.graph.specs.Links.{size_test}
use Rattle.engines.specs.declared.network.Network.{Network}
use Rattle.pipeline.specs.Round.{early_test, PipelineAnswer, refused_with, round_answer, round_buffer}
use Rattle.pipeline.specs.declared.pipeline.PipelineConf.{PipelineConf}
use Rattle.pipeline.specs.declared.pipeline.PipelinePart.{PipelinePart}
use Rattle.room.specs.Kinds.{positions_of, pipeline_only}
use Rattle.room.specs.declared.room.RoomConf.{RoomConf}

abbrev pub pipe_conf : RoomConf → PipelineConf
pipe_conf c = record { round = c.round; transactions = c.transactions; bound = c.bound }

-- the refusals that are known before it runs: 2, 11, and 14 and 15 by the engine
unfoldable pub pipeline_test : RoomConf → Bool → ℕ → Tested
pipeline_test c stop slot =
    result_and (size_test (positions_of c)) (result_and (pipeline_only c.kind) (early_test (pipe_conf c) slot stop))

-- 16 and 17 by the engine. A refused round leaves all as it was.
unfoldable pub pipeline_part : List ℕ → ℕ → ℕ → RoomConf → Network → PipelinePart → ℕ → PipelineAnswer
pipeline_part ws numbers used c w p cursor =
    let told = pipeline_test c p.stop w.slot in
    either (is_ok told) (round_answer ws numbers used (pipe_conf c) w p cursor) (refused_with told w p cursor used)

unfoldable pub pipeline_rows : List ℕ → List ℕ → ℕ → RoomConf → Network → PipelinePart → ℕ → List ℕ
pipeline_rows ws rows used c w p cursor =
    either (is_ok (pipeline_test c p.stop w.slot)) (round_buffer ws rows used (pipe_conf c) w p cursor) rows
