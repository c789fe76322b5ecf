-- RULES 8.3, 8.4 and 3.4, one slot from its coins to its captures: what the words decide, before anything is merged.
-- A link from s to t says that t hears s: row s of the links has mark t. Assumes nothing.
use Rattle.std.specs.Prelude.{◌≡◌, ℕ, ◌+◌, ◌-◌, ◌%◌, ◌^◌, ◌<◌, Bool, true, not, None, Some, ◌&&◌, ◌⊎◌, List, replicate, nat_le, slice_index, slice_index_or, slice_set, Float}
use mir.Val.{bool_byte}
use Rattle.std.specs.Option.{is_some, unwrap_or}
use Rattle.loops.specs.Pick.{either}
use Rattle.loops.specs.Runs.{runs}
use Rattle.marks.specs.Marks.{has, marks, count_of}
use Rattle.engines.specs.Marked.{over_marks, with_mark}
use Rattle.engines.specs.Words.{next_of, coin_of, lost_of, Order, shuffled}
use Rattle.engines.specs.Settings.{is_lossy}
use Rattle.engines.specs.Nodes.{no_node}
use Rattle.engines.specs.declared.words.Draw.{Draw}
use Rattle.engines.specs.declared.words.Drawn.{Drawn}
use Rattle.engines.specs.declared.node.Node.{Node}
use Rattle.engines.specs.declared.node.StateSets.{StateSets}
use Rattle.capture.specs.declared.plan.Coins.{Coins}
use Rattle.capture.specs.declared.plan.Heard.{Heard}
use Rattle.capture.specs.declared.plan.Reception.{Reception}

-- ---- coins

-- A position is due once the slots since its last progress have reached the timeout.
unfoldable pub timed_out : ℕ → ℕ → Node → Bool
timed_out slot timeout v = nat_le timeout (slot - v.last_progress_slot)

-- A due position tosses a coin; a yes makes it recover.
abbrev pub tossed_by : ℕ → Coins → Drawn → Coins
tossed_by i c x = record { recovering = either (coin_of x.word) (with_mark c.recovering i) c.recovering; draw = x.draw }

unfoldable pub tossed1 : List ℕ → ℕ → ℕ → Node → ℕ → Coins → Coins
tossed1 ws slot timeout v i c = either (timed_out slot timeout v) (tossed_by i c (next_of ws c.draw)) c

abbrev pub toss_at : List ℕ → ℕ → ℕ → List Node → ℕ → Coins → Coins
toss_at ws slot timeout nodes i c = tossed1 ws slot timeout (slice_index_or nodes i no_node) i c

-- All coins come first, over the listening positions in rising order.
unfoldable pub coins_of : List ℕ → ℕ → ℕ → List Node → ℕ → Draw → Coins
coins_of ws slot timeout nodes listening d = over_marks listening (toss_at ws slot timeout nodes) (record { recovering = 0; draw = d })

-- ---- captures

-- A list of up to 64 positions: the first `count` numbers.
pub record Senders : Type 0 where
  pub ids : List ℕ
  pub count : ℕ

-- s is noted if the target hears it
unfoldable pub note_at : List ℕ → ℕ → ℕ → Senders → Senders
note_at links t s f = either (has (slice_index links s) t) (record { ids = slice_set f.ids f.count s; count = f.count + 1 }) f

-- The flooding positions that have t as neighbour, rising.
unfoldable pub senders_of : List ℕ → ℕ → ℕ → Senders
senders_of links flooding t = over_marks flooding (note_at links t) (record { ids = replicate 64 0; count = 0 })

-- One sender is examined: with a loss above 0 it takes a draw to survive, else it survives without.
abbrev pub drawn_by : List ℕ → Float → Heard → Drawn → Heard
drawn_by ids loss h x = record { examined = h.examined + 1; src = either (lost_of x.word loss) None (Some (slice_index ids h.examined)); draw = x.draw }

unfoldable pub examine1 : List ℕ → List ℕ → Float → Heard → Heard
examine1 ws ids loss h =
    either (is_lossy loss)
    (drawn_by ids loss h (next_of ws h.draw))
    (record { examined = h.examined + 1; src = Some (slice_index ids h.examined); draw = h.draw })

abbrev pub is_found : Heard → Bool
is_found h = is_some h.src

abbrev pub unheard : Draw → Heard
unheard d = record { examined = 0; src = None; draw = d }

-- The senders in their shuffled order, until one survives.
unfoldable pub first_kept : List ℕ → Float → ℕ → Order → Heard
first_kept ws loss count o = runs is_found (examine1 ws o.ids loss) count (unheard o.draw)

unfoldable pub heard_from : List ℕ → Float → Senders → Draw → Heard
heard_from ws loss f d = first_kept ws loss f.count (shuffled ws f.count (record { ids = f.ids; draw = d }))

-- What target t hears.
unfoldable pub capture_of : List ℕ → Float → List ℕ → ℕ → ℕ → Draw → Heard
capture_of ws loss links flooding t d = heard_from ws loss (senders_of links flooding t) d

-- Whom each target hears (64: nobody), and what was counted: every sender examined is an attempt, every survivor a
-- success.
pub record Captured : Type 0 where
  pub hears : List ℕ
  pub tally : Reception

unfoldable pub whom : Heard → ℕ
whom h = unwrap_or h.src 64

unfoldable pub tallied : Reception → Heard → Reception
tallied p h =
    record {
      draw = h.draw;
      rx_attempts = (p.rx_attempts + h.examined) % 2 ^ 64;
      rx_success = (p.rx_success + bool_byte (is_found h)) % 2 ^ 64;
    }

abbrev pub heard_at : ℕ → Captured → Heard → Captured
heard_at t p h = record { hears = slice_set p.hears t (whom h); tally = tallied p.tally h }

unfoldable pub capture_at : List ℕ → Float → List ℕ → ℕ → ℕ → Captured → Captured
capture_at ws loss links flooding t p = heard_at t p (capture_of ws loss links flooding t p.tally.draw)

-- The targets: who listens and does not recover.
unfoldable pub targets_of : ℕ → ℕ → ℕ
targets_of listening recovering = marks 64 (λ t. has listening t && not (has recovering t))

-- .. of a slot with these states
abbrev pub targets_in : StateSets → ℕ → ℕ
targets_in s recovering = targets_of s.listening recovering

abbrev pub none_yet : Draw → Captured
none_yet d = record { hears = replicate 64 64; tally = record { draw = d; rx_attempts = 0; rx_success = 0 } }

-- Then the captures, target by target in rising order.
unfoldable pub captures_of : List ℕ → Float → List ℕ → ℕ → ℕ → Draw → Captured
captures_of ws loss links targets flooding d = over_marks targets (capture_at ws loss links flooding) (none_yet d)

-- ---- the plan

-- A mark for each position that recovers; whom each position hears, 64 where nobody; the cursor, and the slot's
-- counts.
pub record Plan : Type 0 where
  pub recovering : ℕ
  pub hears : List ℕ
  pub draw : Draw
  pub ce_timeouts : ℕ
  pub rx_attempts : ℕ
  pub rx_success : ℕ

abbrev pub planned : Coins → Captured → Plan
planned c p =
    record {
      recovering = c.recovering;
      hears = p.hears;
      draw = p.tally.draw;
      ce_timeouts = count_of c.recovering 64;
      rx_attempts = p.tally.rx_attempts;
      rx_success = p.tally.rx_success;
    }

unfoldable pub plan_after : List ℕ → Float → List ℕ → StateSets → Coins → Plan
plan_after ws loss links s c = planned c (captures_of ws loss links (targets_in s c.recovering) s.flooding c.draw)

-- The plan of a slot: coins, then captures. Every recovery counts as one timeout.
unfoldable pub plan_of : List ℕ → Float → List ℕ → ℕ → ℕ → List Node → StateSets → Draw → Plan
plan_of ws loss links slot timeout nodes s d = plan_after ws loss links s (coins_of ws slot timeout nodes s.listening d)

-- What a plan may say of target t: that it hears nobody, or a flooding position that has it as neighbour.
pub record Sender (links : List ℕ) (flooding t s : ℕ) : Type 0 where
  pub position : s < 64
  pub floods : has flooding s ≡ true
  pub linked : has (slice_index links s) t ≡ true

abbrev pub Hears : List ℕ → ℕ → ℕ → ℕ → Type 0
Hears links flooding t s = (s ≡ 64) ⊎ Sender links flooding t s

-- What a mark among the recovering says of position i.
pub record Recovers (slot timeout : ℕ) (nodes : List Node) (listening i : ℕ) : Type 0 where
  pub listens : has listening i ≡ true
  pub due : timed_out slot timeout (slice_index_or nodes i no_node) ≡ true
