-- RULES 17, the rounds of a room: one after the other, as long as none is refused. Assumes
-- nothing.
use Rattle.std.specs.Prelude.{ℕ, Bool, not, is_ok, List, length}
use Rattle.loops.specs.Pick.{either}
use Rattle.loops.specs.Runs.{runs}
use Rattle.limits.specs.Refusals.{Tested}
use Rattle.engines.specs.Nodes.{inc}
use Rattle.pipeline.specs.Round.{PipelineAnswer, round_answer, round_buffer}
use Rattle.pipeline.specs.declared.pipeline.PipelineConf.{PipelineConf}
use Rattle.pipeline_c.specs.declared.rounds.Played.{Played}

-- What the last round told, a buffer, and the room whose rows it takes.
pub record Playing : Type 0 where
  pub told : Tested
  pub rows : List ℕ
  pub played : Played

-- the number of rounds accepted, with one more of which this was told
unfoldable pub count_after : ℕ → Tested → ℕ
count_after count told = either (is_ok told) (inc count) count

-- behind a round, of which the answer is a and which leaves these rows
abbrev pub noted : ℕ → List ℕ → PipelineAnswer → Playing
noted count rows a =
    record {
      told = a.told;
      rows = rows;
      played =
          record {
            cursor = a.cursor;
            used = a.used;
            count = count_after count a.told;
            network = a.network;
            part = a.part;
          };
    }

unfoldable pub play_round : List ℕ → PipelineConf → Playing → Playing
play_round ws conf w =
    let t = w.played in
    noted t.count (round_buffer ws w.rows t.used conf t.network t.part t.cursor)
    (round_answer ws (length w.rows) t.used conf t.network t.part t.cursor)

abbrev pub is_refused : Playing → Bool
is_refused w = not (is_ok w.told)

-- At most k rounds, and none behind one that was refused.
unfoldable pub play_rounds : List ℕ → PipelineConf → ℕ → Playing → Playing
play_rounds ws conf k w = runs is_refused (play_round ws conf) k w
