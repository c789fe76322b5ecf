-- RULES 10.1, 10.6, 10.7, 10.9 and 4.2: what a position knows of transactions. A log is an ordered list
-- of outcomes, with room for 64, and is only ever added to. Transactions have numbers below 64. Assumes nothing.
use Rattle.std.specs.Prelude.{ℕ, ◌+◌, ◌-◌, Bool, true, false, not, ◌&&◌, ◌||◌, Option, Some, None, List, ◌==◌, nat_le, nat_lt, slice_index, slice_index_or, slice_set, Float}
use Rattle.std.specs.Option.{unwrap_or}
use Rattle.loops.specs.Pick.{either}
use Rattle.loops.specs.Upto.{upto}
use Rattle.loops.specs.Downto.{downto}
use Rattle.marks.specs.Marks.{has, marks, all_of}
use Rattle.engines.specs.Clamp.{at_most64}
use Rattle.engines.specs.Marked.{over_marks, with_mark}
use Rattle.engines.specs.Words.{next_of, lost_of}
use Rattle.engines.specs.declared.words.Draw.{Draw}
use Rattle.engines.specs.declared.words.Drawn.{Drawn}
use Rattle.pipeline.specs.declared.two_pc_pipeline.LogEntry.{LogEntry}
use Rattle.pipeline.specs.declared.two_pc_pipeline.TxLog.{TxLog}
use Rattle.pipeline.specs.declared.two_pc_pipeline.NodeTwoPcState.{NodeTwoPcState}
use Rattle.pipeline.specs.declared.two_pc_pipeline.Vote.{Vote}

-- ---- sets

unfoldable pub join_marks : ℕ → ℕ → ℕ
join_marks a b = marks 64 (λ j. has a j || has b j)

unfoldable pub common_marks : ℕ → ℕ → ℕ
common_marks a b = marks 64 (λ j. has a j && has b j)

unfoldable pub without_mark : ℕ → ℕ → ℕ
without_mark m i = marks 64 (λ j. has m j && not (j == i))

-- ---- logs

abbrev pub no_entry : LogEntry
no_entry = record { tx = 0; committed = false }

-- The transactions that a log has, a mark each.
unfoldable pub logged_at : List LogEntry → ℕ → ℕ → ℕ
logged_at l k m = with_mark m (slice_index_or l k no_entry).tx

unfoldable pub logged_of : TxLog → ℕ
logged_of g = upto (at_most64 g.len) (logged_at g.entries) 0

-- The outcome of the first entry with this transaction: from the last entry to the first, the later finding stands.
unfoldable pub outcome_at : List LogEntry → ℕ → ℕ → Bool → Bool
outcome_at l t k o = either ((slice_index_or l (k - 1) no_entry).tx == t) (slice_index_or l (k - 1) no_entry).committed o

unfoldable pub outcome_of : TxLog → ℕ → Bool
outcome_of g t = downto (at_most64 g.len) (outcome_at g.entries t) false

-- One entry more, behind the others, where there is room for it.
unfoldable pub pushed : ℕ → Bool → TxLog → TxLog
pushed t o g =
    either (nat_lt g.len 64 && nat_lt t 64)
    (record { len = g.len + 1; entries = slice_set g.entries g.len (record { tx = t; committed = o }) })
    g

-- ---- what is pending

-- `finalize_tx`: a transaction leaves what is pending and enters the log, unless the log has it.
abbrev pub settled : ℕ → Bool → NodeTwoPcState → NodeTwoPcState
settled t o s =
    record { log = pushed t o s.log; pending = without_mark s.pending t; aborts = s.aborts; votes = s.votes }

unfoldable pub finalize_tx : ℕ → Bool → NodeTwoPcState → NodeTwoPcState
finalize_tx t o s = either (has (logged_of s.log) t) s (settled t o s)

-- `check_unanimity`: every position has voted yes, and nobody no.
unfoldable pub unanimous_of : ℕ → NodeTwoPcState → ℕ → Bool
unanimous_of n s t = has s.pending t && (not (has s.aborts t) && all_of n (λ j. has (slice_index s.votes t) j))

-- A transaction becomes pending, with the votes known of it.
abbrev pub opened_in : ℕ → ℕ → Bool → NodeTwoPcState → NodeTwoPcState
opened_in t bits abort s =
    record {
      log = s.log;
      pending = with_mark s.pending t;
      aborts = either abort (with_mark s.aborts t) (without_mark s.aborts t);
      votes = slice_set s.votes t bits;
    }

unfoldable pub open_tx : ℕ → ℕ → Bool → NodeTwoPcState → NodeTwoPcState
open_tx t bits abort s = either (nat_lt t 64) (opened_in t bits abort s) s

-- `merge_votes_up_to`: yes votes go to all that is pending up to the packet's transaction ..
unfoldable pub votes_at : ℕ → ℕ → ℕ → List ℕ → List ℕ
votes_at top bits t vs = either (nat_le t top) (slice_set vs t (join_marks (slice_index vs t) bits)) vs

abbrev pub with_votes : List ℕ → NodeTwoPcState → NodeTwoPcState
with_votes vs s = record { log = s.log; pending = s.pending; aborts = s.aborts; votes = vs }

unfoldable pub merge_votes : ℕ → ℕ → NodeTwoPcState → NodeTwoPcState
merge_votes top bits s = with_votes (over_marks s.pending (votes_at top bits) s.votes) s

-- .. and an abort to that transaction only.
abbrev pub with_abort : ℕ → NodeTwoPcState → NodeTwoPcState
with_abort t s = record { log = s.log; pending = s.pending; aborts = with_mark s.aborts t; votes = s.votes }

unfoldable pub merge_abort : ℕ → Bool → NodeTwoPcState → NodeTwoPcState
merge_abort t abort s = either (abort && has s.pending t) (with_abort t s) s

-- `detect_gap`: the lowest transaction below this one that is neither logged nor pending.
unfoldable pub gap_at : ℕ → ℕ → Option ℕ → Option ℕ
gap_at known t None = either (has known t) None (Some t)
gap_at known t (Some g) = Some g

unfoldable pub gap_of : ℕ → NodeTwoPcState → Option ℕ
gap_of current s = upto (at_most64 current) (gap_at (join_marks (logged_of s.log) s.pending)) None

-- Nack 0 means that nothing is asked for.
unfoldable pub nack_of : ℕ → NodeTwoPcState → ℕ
nack_of current s = unwrap_or (gap_of current s) 0

-- ---- votes and judgements

-- The own vote on a new transaction takes one draw, whatever the abort probability: no, if the unit lies below it.
abbrev pub voted_by : Float → ℕ → ℕ → Bool → Drawn → Vote
voted_by p i bits abort x =
    record {
      bits = either (lost_of x.word p) bits (with_mark bits i);
      abort = either (lost_of x.word p) true abort;
      draw = x.draw;
    }

unfoldable pub vote_of : List ℕ → Float → ℕ → ℕ → Bool → Draw → Vote
vote_of ws p i bits abort d = voted_by p i bits abort (next_of ws d)

-- Pending transactions are judged once as many rounds have passed since their start as there are positions. All
-- positions that hear of a transaction hear of it in the round of its start, the only one in which its data is on
-- air: so the room holds that round once.
unfoldable pub is_judged : ℕ → ℕ → ℕ → Bool
is_judged n r start = nat_le (start + n) r

unfoldable pub judge_at : ℕ → ℕ → List ℕ → ℕ → NodeTwoPcState → NodeTwoPcState
judge_at n r rounds t s = either (is_judged n r (slice_index rounds t)) (finalize_tx t (unanimous_of n s t) s) s

-- The same in two steps: which transactions are ripe, and the judgement of one.
unfoldable pub ripe_of : ℕ → ℕ → List ℕ → ℕ
ripe_of n r rounds = marks 64 (λ t. is_judged n r (slice_index rounds t))

unfoldable pub settle_at : ℕ → ℕ → NodeTwoPcState → NodeTwoPcState
settle_at n t s = finalize_tx t (unanimous_of n s t) s

unfoldable pub judged : ℕ → ℕ → List ℕ → NodeTwoPcState → NodeTwoPcState
judged n r rounds s = over_marks s.pending (judge_at n r rounds) s

-- Fast aborts: what is pending and has an abort is logged as aborted at once.
unfoldable pub fast_of : NodeTwoPcState → ℕ
fast_of s = common_marks s.pending s.aborts

abbrev pub abort_at : ℕ → NodeTwoPcState → NodeTwoPcState
abort_at t s = finalize_tx t false s

unfoldable pub abort_all : ℕ → NodeTwoPcState → NodeTwoPcState
abort_all fast s = over_marks fast abort_at s

-- A position that has the packet's transaction pending, and knows of no abort of it, gives its own yes, to all that
-- is pending up to it.
unfoldable pub own_vote : ℕ → ℕ → NodeTwoPcState → NodeTwoPcState
own_vote i top s = either (has s.pending top && not (has s.aborts top)) (merge_votes top (with_mark 0 i) s) s
