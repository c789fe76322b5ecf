-- What a target hears, step by step. Assumes nothing.
use Rattle.std.proofs.Common.{◌≡◌, ℕ, ◌+◌, Bool, true, false, List, replicate, refl}
use lib.Ieee.{Float}
use Rattle.loops.specs.Pick.{either}
use Rattle.engines.specs.Settings.{is_lossy}
use Rattle.engines.specs.Marked.{over_marks}
use Rattle.engines.specs.Words.{Order, shuffled}
use Rattle.capture.specs.Plan.{examine1, Senders, note_at, senders_of, first_kept, heard_from, capture_of, coins_of, targets_in, Captured, capture_at, none_yet, captures_of, plan_after, plan_of}
use Rattle.engines.specs.declared.words.Draw.{Draw}
use Rattle.marks.specs.Marks.{count_of}
use Rattle.engines.specs.declared.node.Node.{Node}
use Rattle.engines.specs.declared.node.StateSets.{StateSets}
use Rattle.capture.specs.declared.plan.Coins.{Coins}
use Rattle.capture.specs.declared.plan.Heard.{Heard}
use Rattle.capture.specs.declared.plan.Reception.{Reception}
use Rattle.capture.specs.Plan.{Plan}

both : (b : Bool) (g h : Heard) (k : ℕ) → g.examined ≡ k → h.examined ≡ k → (either b g h).examined ≡ k
both true g h k p q = p
both false g h k p q = q

pub examined_more : (ws ids : List ℕ) (loss : Float) (h : Heard) → (examine1 ws ids loss h).examined ≡ h.examined + 1
unfolding examine1
examined_more ws ids loss h = both (is_lossy loss) _ _ (h.examined + 1) refl refl

-- the senders, then their order, then the first that survives
pub capture_is : (ws : List ℕ) (loss : Float) (links : List ℕ) (flooding t : ℕ) (d : Draw) {ids ids' : List ℕ} {count : ℕ} {e : Draw} {r : Heard}
    → ◌≡◌ {A = Senders} (record { ids = ids; count = count }) (over_marks flooding (note_at links t) (record { ids = replicate 64 0; count = 0 }))
    → ◌≡◌ {A = Order} (record { ids = ids'; draw = e }) (shuffled ws count (record { ids = ids; draw = d }))
    → r ≡ first_kept ws loss count (record { ids = ids'; draw = e })
    → r ≡ capture_of ws loss links flooding t d
unfolding capture_of heard_from senders_of
capture_is ws loss links flooding t d g s f = rw (← g, ← s) f

-- the coins, then the targets, then what each hears
pub plan_is : (ws : List ℕ) (loss : Float) (links : List ℕ) (slot timeout : ℕ) (nodes : List Node) (s : StateSets) (d : Draw) {c : Coins} {ts k : ℕ} {hears : List ℕ} {q : Reception}
    → c ≡ coins_of ws slot timeout nodes s.listening d
    → ts ≡ targets_in s c.recovering
    → ◌≡◌ {A = Captured} (record { hears = hears; tally = q }) (over_marks ts (capture_at ws loss links s.flooding) (none_yet c.draw))
    → k ≡ count_of c.recovering 64
    → ◌≡◌ {A = Plan} (record { recovering = c.recovering; hears = hears; draw = q.draw; ce_timeouts = k; rx_attempts = q.rx_attempts; rx_success = q.rx_success }) (plan_of ws loss links slot timeout nodes s d)
unfolding plan_of plan_after captures_of
plan_is ws loss links slot timeout nodes s d ec et eq ek = rw (← ec, ← et, ← eq, ek)
