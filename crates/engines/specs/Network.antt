-- RULES 7.1, 7.3, 7.5, 3.5, 11.3 and 11.6, and refusals 15 to 17 of RULES 15: what both kinds of room have and both
-- kinds of round move, and the rules that both kinds of round share. Assumes nothing.
use Rattle.std.specs.Prelude.{ℕ, ◌+◌, Bool, not, List, [], length, replicate, nat_le, leb}
use Rattle.std.specs.Result.{result_and}
use Rattle.std.proofs.lemmas.List.Edits.{sets}
use Rattle.loops.specs.Pick.{either}
use Rattle.loops.specs.Wrap.{add64}
use Rattle.limits.specs.Limits.{last_slot, header_bytes}
use Rattle.limits.specs.Refusals.{Tested, holds_or}
use Rattle.limits.specs.declared.refusals.Refusal.TheVariants.{TooLong, WordsShort, RowsShort}
use Rattle.engines.specs.Metrics.{no_metrics}
use Rattle.engines.specs.Nodes.{inc, no_node, ticked_all}
use Rattle.engines.specs.Rows.{is_due, next_row, row_of, cells, rows_refused}
use Rattle.engines.specs.declared.node.Node.{Node}
use Rattle.engines.specs.declared.rows.Row.{Row}
use Rattle.engines.specs.declared.metrics.MetricsCollector.{MetricsCollector}
use Rattle.engines.specs.declared.network.Network.{Network}
use Rattle.engines.specs.declared.network.RoundConf.{RoundConf}

-- slot 0, nothing counted, nothing sent, and a row due at once
unfoldable pub new_network : Network
new_network = record { nodes = replicate 64 no_node; metrics = no_metrics; slot = 0; next_row = 0; bytes_sent = 0 }

-- ---- a slot

-- with other positions
abbrev pub with_nodes : Network → List Node → Network
with_nodes w l = record { nodes = l; metrics = w.metrics; slot = w.slot; next_row = w.next_row; bytes_sent = w.bytes_sent }

-- first every position is ticked in its state
unfoldable pub ticking : RoundConf → Network → Network
ticking conf w = with_nodes w (ticked_all conf.graph.n w.nodes)

-- behind a slot: the next one, and the next row slot; positions, counts and bytes as the slot left them
abbrev pub behind_slot : RoundConf → Network → List Node → MetricsCollector → ℕ → Network
behind_slot conf w l m bytes =
    record { nodes = l; metrics = m; slot = inc w.slot; next_row = next_row w.next_row conf.interval w.slot; bytes_sent = bytes }

-- ---- bytes

-- what one transmission takes: the radio's header and the payload, which may be empty
unfoldable pub on_air : ℕ → ℕ
on_air len = add64 len header_bytes

-- ---- rows

-- A row, if it is due in this slot.
unfoldable pub due_row : ℕ → Row → List ℕ
due_row slot r = either (is_due r.slot slot) (cells r) []

-- The row of a slot, if one is due. It shows the slot at which it was due, and the positions ticked.
unfoldable pub slot_row : RoundConf → Network → List ℕ
slot_row conf w = due_row w.slot (row_of w.next_row conf.graph.n (ticked_all conf.graph.n w.nodes))

-- A row put behind the first `at` numbers of a buffer, if it has place for it.
unfoldable pub written_at : List ℕ → ℕ → List ℕ → List ℕ
written_at rows at row = either (nat_le (at + length row) (length rows)) (sets rows at row) rows

-- .. and how many numbers are used then
unfoldable pub written_end : ℕ → ℕ → List ℕ → ℕ
written_end numbers at row = either (nat_le (at + length row) numbers) (at + length row) at

-- ---- refusals of a round

-- 15: start and full length together do not pass the last slot
unfoldable pub length_test : RoundConf → ℕ → Tested
length_test conf slot = holds_or (leb (slot + conf.length) last_slot) TooLong

-- 16: every draw of the run found a word. 17: its rows fit.
unfoldable pub late_test : ℕ → ℕ → Bool → ℕ → Tested
late_test numbers used short due =
    result_and (holds_or (not short) WordsShort) (holds_or (not (rows_refused numbers used due)) RowsShort)
