-- RULES 11.9, the logs: whatever a round does, each log is the old log with something behind it. Assumes
-- nothing.
use Rattle.std.proofs.Common.{◌≡◌, ℕ, ◌<◌, ◌≤◌, Bool, true, false, ◌&&◌, ltb, List, get_or, refl, ◌∙◌, arith, get_or-set_other}
use Rattle.loops.specs.Pick.{either}
use Rattle.merges.proofs.Safety.{either_cases}
use Rattle.loops.specs.Upto.{upto_holds}
use Rattle.marks.specs.Marks.{has}
use Rattle.engines.specs.Marked.{over_marks}
use Rattle.pipeline.specs.Pending.{no_entry, logged_of, pushed, finalize_tx, unanimous_of, open_tx, merge_votes}
use Rattle.pipeline.specs.Pending.{merge_abort, is_judged, judge_at, judged, abort_at, abort_all, own_vote}
use Rattle.pipeline.specs.declared.two_pc_pipeline.TxLog.{TxLog}
use Rattle.pipeline.specs.declared.two_pc_pipeline.NodeTwoPcState.{NodeTwoPcState}

-- Every entry of a is still there in b, at its place, with its transaction and its outcome.
pub record Grown (a b : TxLog) : Type 0 where
  pub longer : a.len ≤ b.len
  pub kept : (k : ℕ) → k < a.len → get_or b.entries k no_entry ≡ get_or a.entries k no_entry

pub grown_same : (a : TxLog) → Grown a a
grown_same a = record { longer = omega arith; kept = λ k h. refl }

pub grown_more : {a b c : TxLog} → Grown a b → Grown b c → Grown a c
grown_more g h =
    record {
      longer = omega (arith, g.longer, h.longer);
      kept = λ k l. h.kept k (omega (arith, g.longer)) ∙ g.kept k l;
    }

pub pushed_grown : (t : ℕ) (o : Bool) (g : TxLog) → Grown g (pushed t o g)
unfolding pushed
pushed_grown t o g =
    either_cases (Grown g) (ltb g.len 64 && ltb t 64)
    (λ b. record {
      longer = omega arith;
      kept = λ k h. get_or-set_other g.entries _ k _ no_entry (apart k g.len h);
    })
    (λ b. grown_same g)
  where
    apart : (k n : ℕ) → k < n → k ≡ n → ⊥
    apart k n h q = omega arith

-- the same of a position
abbrev pub Kept : NodeTwoPcState → NodeTwoPcState → Type 0
Kept s t = Grown s.log t.log

pick_kept : (b : Bool) (s x y : NodeTwoPcState) → Kept s x → Kept s y → Kept s (either b x y)
pick_kept true s x y p q = p
pick_kept false s x y p q = q

pub finalize_kept : (t : ℕ) (o : Bool) (s : NodeTwoPcState) → Kept s (finalize_tx t o s)
unfolding finalize_tx
finalize_kept t o s = pick_kept (has (logged_of s.log) t) s s _ (grown_same s.log) (pushed_grown t _ s.log)

pub over_kept : (m : ℕ) (f : ℕ → NodeTwoPcState → NodeTwoPcState) → ((t : ℕ) (s : NodeTwoPcState) → Kept s (f t s)) → (s : NodeTwoPcState) → Kept s (over_marks m f s)
unfolding over_marks
over_kept m f h s =
    upto_holds (λ (x : NodeTwoPcState). Kept s x) (λ i x. either (has m i) (f i x) x) 64 (λ i x _ p. grown_more p (pick_kept (has m i) x (f i x) x (h i x) (grown_same x.log))) s (grown_same s.log)

pub judged_kept : (n r : ℕ) (rounds : List ℕ) (s : NodeTwoPcState) → Kept s (judged n r rounds s)
unfolding judged judge_at
judged_kept n r rounds s =
    over_kept s.pending (judge_at n r rounds)
    (λ t x. pick_kept (is_judged n r (get_or rounds t 0)) x (finalize_tx t (unanimous_of n x t) x) x (finalize_kept t (unanimous_of n x t) x) (grown_same x.log)) s

pub aborts_kept : (fast : ℕ) (s : NodeTwoPcState) → Kept s (abort_all fast s)
unfolding abort_all
aborts_kept fast s = over_kept fast abort_at (λ t x. finalize_kept t false x) s

pub open_kept : (t bits : ℕ) (abort : Bool) (s : NodeTwoPcState) → Kept s (open_tx t bits abort s)
unfolding open_tx
open_kept t bits abort s = pick_kept (ltb t 64) s _ s (grown_same s.log) (grown_same s.log)

pub votes_kept : (top bits : ℕ) (s : NodeTwoPcState) → Kept s (merge_votes top bits s)
unfolding merge_votes
votes_kept top bits s = grown_same s.log

pub abort_kept : (t : ℕ) (abort : Bool) (s : NodeTwoPcState) → Kept s (merge_abort t abort s)
unfolding merge_abort
abort_kept t abort s = pick_kept (abort && has s.pending t) s _ s (grown_same s.log) (grown_same s.log)

pub own_kept : (i top : ℕ) (s : NodeTwoPcState) → Kept s (own_vote i top s)
unfolding own_vote
own_kept i top s = pick_kept (has s.pending top && mathlib.Core.Bool.not (has s.aborts top)) s _ s (votes_kept top (Rattle.engines.specs.Marked.with_mark 0 i) s) (grown_same s.log)
