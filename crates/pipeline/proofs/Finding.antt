-- Two searches that end early: the first entry of a log with a transaction, and the lowest gap. Assumes nothing.
use Rattle.std.proofs.Common.{◌≡◌, ◌≢◌, ℕ, zero, suc, ◌+◌, ◌<◌, ◌≤◌, Bool, true, false, Some, None, List, get_or, refl, ap, ◌∙◌, sub-one, arith, eq-eqb, ne_eqb}
use Rattle.std.proofs.Math.Decide.{dec_lt}
use Rattle.loops.specs.Upto.{upto, upto_more}
use Rattle.loops.specs.Downto.{downto}
use Rattle.marks.specs.Marks.{has}
use Rattle.engines.specs.Clamp.{at_most64}
use Rattle.pipeline.specs.Pending.{no_entry, outcome_at, outcome_of, gap_at, gap_of, join_marks, logged_of}
use Rattle.pipeline.specs.declared.two_pc_pipeline.LogEntry.{LogEntry}
use Rattle.pipeline.specs.declared.two_pc_pipeline.TxLog.{TxLog}
use Rattle.pipeline.specs.declared.two_pc_pipeline.NodeTwoPcState.{NodeTwoPcState}

module _ (l : List LogEntry) (t : ℕ) where
  abbrev Not : ℕ → Type 0
  Not k = (i : ℕ) → i < k → (get_or l i no_entry).tx ≢ t

  -- entries of other transactions change nothing
  none_found : (k : ℕ) (o : Bool) → Not k → downto k (outcome_at l t) o ≡ o
  unfolding downto outcome_at
  none_found zero o h = refl
  none_found (suc j) o h = rw (sub-one, ne_eqb _ _ (h j (omega arith))) (none_found j o (λ i b. h i (omega arith)))

  -- the first of this one is found, whatever stands behind it
  first_found : (n k : ℕ) (o : Bool) → k < n → Not k → (get_or l k no_entry).tx ≡ t → downto n (outcome_at l t) o ≡ (get_or l k no_entry).committed
  unfolding downto outcome_at
  first_found zero k o b h e = absurd (omega arith)
  first_found (suc j) k o b h e = by (dec_lt k j) (λ c. first_found j k _ c h e)
    where
      last : k ≡ j → downto (suc j) (outcome_at l t) o ≡ (get_or l k no_entry).committed
      last q = rw (← q, sub-one, eq-eqb _ _ e) (none_found k _ h)

      by : Dec (k < j) → (k < j → downto (suc j) (outcome_at l t) o ≡ (get_or l k no_entry).committed) → downto (suc j) (outcome_at l t) o ≡ (get_or l k no_entry).committed
      by (yes c) ih = ih c
      by (no c) ih = last (omega arith)

pub outcome_first : (g : TxLog) (t k : ℕ) → k < at_most64 g.len → Not g.entries t k → (get_or g.entries k no_entry).tx ≡ t → (get_or g.entries k no_entry).committed ≡ outcome_of g t
unfolding outcome_of
outcome_first g t k b h e = rw (first_found g.entries t (at_most64 g.len) k false b h e)

pub outcome_none : (g : TxLog) (t k : ℕ) → at_most64 g.len ≤ k → Not g.entries t k → false ≡ outcome_of g t
unfolding outcome_of
outcome_none g t k b h = rw (none_found g.entries t (at_most64 g.len) false (λ i c. h i (omega arith)))

-- a gap that is found stays
gap_stays : (known n m t : ℕ) → m ≤ n → upto m (gap_at known) None ≡ Some t → upto n (gap_at known) None ≡ Some t
unfolding upto gap_at
gap_stays known zero m t b e = let z : 0 ≡ m = omega arith in ap (λ (k : ℕ). upto k (gap_at known) None) z ∙ e
gap_stays known (suc n) m t b e = by (dec_lt m (suc n)) (λ c. gap_stays known n m t c e)
  where
    by : Dec (m < suc n) → (m ≤ n → upto n (gap_at known) None ≡ Some t) → upto (suc n) (gap_at known) None ≡ Some t
    by (yes c) ih = rw (ih (omega arith))
    by (no c) ih = let z : suc n ≡ m = omega arith in ap (λ (k : ℕ). upto k (gap_at known) None) z ∙ e

pub gap_more : (known t : ℕ) → upto t (gap_at known) None ≡ None → has known t ≡ true → upto (t + 1) (gap_at known) None ≡ None
unfolding gap_at
gap_more known t e h = rw (upto_more, e, h)

pub gap_found : (current t : ℕ) (s : NodeTwoPcState) {known : ℕ} → known ≡ join_marks (logged_of s.log) s.pending → t < at_most64 current → upto t (gap_at known) None ≡ None → has known t ≡ false → Some t ≡ gap_of current s
unfolding gap_of gap_at
gap_found current t s {known} q b e h = let z : upto (t + 1) (gap_at known) None ≡ Some t = rw (upto_more, e, h) in rw (← q, gap_stays known (at_most64 current) (t + 1) t (omega arith) z)

pub gap_none : (current t : ℕ) (s : NodeTwoPcState) {known : ℕ} → known ≡ join_marks (logged_of s.log) s.pending → t ≤ at_most64 current → at_most64 current ≤ t → upto t (gap_at known) None ≡ None → None ≡ gap_of current s
unfolding gap_of
gap_none current t s {known} q b c e = let z : t ≡ at_most64 current = omega arith in rw (← q, ← z, e)
