-- A number that is no transaction's enters no record. Assumes nothing.
use Rattle.std.proofs.Common.{◌≡◌, ℕ, ◌≤◌, Bool, true, false, ◌&&◌, ltb, List, length, sym, refl, subst, ap₂, le-ltb}
use lib.Seq.{set_out}
use Rattle.loops.specs.Pick.{either}
use Rattle.marks.specs.Marks.{has}
use Rattle.pipeline.specs.Pending.{logged_of, pushed}
use Rattle.pipeline.specs.Pipeline.{record_tx, recorded_in}
use Rattle.pipeline.specs.declared.two_pc_pipeline.TxLog.{TxLog}
use Rattle.pipeline.specs.declared.two_pc_pipeline.Records.{Records}

push_out : (t : ℕ) (o : Bool) (g : TxLog) → 64 ≤ t → pushed t o g ≡ g
unfolding pushed
push_out t o g l = rw (le-ltb t 64 l) (by _ (ltb g.len 64))
  where
    by : (a : TxLog) (x : Bool) → either (x && false) a g ≡ g
    by a true = refl
    by a false = refl

pub recorded_out : (t : ℕ) (o : Bool) (slot : ℕ) (b : Records) → length b.ends ≡ 64 → 64 ≤ t → record_tx t o slot b ≡ b
unfolding record_tx
recorded_out t o slot b h l = by (has (logged_of b.log) t)
  where
    by : (x : Bool) → either x b (recorded_in t o slot b) ≡ b
    by true = refl
    by false = ap₂ (λ (g : TxLog) (e : List ℕ). record { log = g; ends = e }) (push_out t o b.log l) (set_out b.ends t slot (subst (λ (n : ℕ). n ≤ t) (sym h) l))
