-- Refusal 16 over the plan of a capture slot: its draws bring the cursor to a later one. Assumes nothing.
use Rattle.std.proofs.Common.{ℕ, false, List, get_or}
use lib.Ieee.{Float}
use Rattle.engines.specs.Settings.{is_lossy}
use Rattle.engines.specs.Words.{shuffled}
use Rattle.engines.specs.Nodes.{no_node}
use Rattle.capture.specs.Plan.{timed_out, tossed1, toss_at, coins_of, senders_of, examine1, is_found, unheard, first_kept, heard_from, capture_of, tallied, Captured, capture_at, targets_in, none_yet, captures_of, plan_after, plan_of}
use Rattle.engines.specs.declared.words.Draw.{Draw}
use Rattle.engines.specs.declared.node.Node.{Node}
use Rattle.engines.specs.declared.node.StateSets.{StateSets}
use Rattle.capture.specs.declared.plan.Coins.{Coins}
use Rattle.capture.specs.declared.plan.Heard.{Heard}
use Rattle.engines.proofs.Cursor.{Later, later_same, later_trans, next_later, either_later, marks_later, go_later, shuffled_later}

module _ (ws : List ℕ) where
  toss_later : (slot timeout : ℕ) (v : Node) (i : ℕ) (c : Coins) → Later ws c.draw (tossed1 ws slot timeout v i c).draw
  unfolding tossed1
  toss_later slot timeout v i c = either_later ws (λ (c : Coins). c.draw) c.draw (timed_out slot timeout v) _ c (next_later ws c.draw) (later_same ws c.draw)

  pub coins_later : (slot timeout : ℕ) (nodes : List Node) (listening : ℕ) (d : Draw) → Later ws d (coins_of ws slot timeout nodes listening d).draw
  unfolding coins_of
  coins_later slot timeout nodes listening d = marks_later ws (λ (c : Coins). c.draw) (toss_at ws slot timeout nodes) (λ i c. toss_later slot timeout (get_or nodes i no_node) i c) listening (record { recovering = 0; draw = d })

  examine_later : (ids : List ℕ) (loss : Float) (h : Heard) → Later ws h.draw (examine1 ws ids loss h).draw
  unfolding examine1
  examine_later ids loss h = either_later ws (λ (h : Heard). h.draw) h.draw (is_lossy loss) _ _ (next_later ws h.draw) (later_same ws h.draw)

  pub capture_later : (loss : Float) (links : List ℕ) (flooding t : ℕ) (d : Draw) → Later ws d (capture_of ws loss links flooding t d).draw
  unfolding capture_of heard_from first_kept
  capture_later loss links flooding t d =
      let f = senders_of links flooding t in
      let o = shuffled ws f.count (record { ids = f.ids; draw = d }) in
      later_trans ws (shuffled_later ws f.count (record { ids = f.ids; draw = d })) (go_later ws (λ (h : Heard). h.draw) is_found (examine1 ws o.ids loss) (examine_later o.ids loss) f.count false (unheard o.draw))

  captured_later : (loss : Float) (links : List ℕ) (flooding t : ℕ) (p : Captured) → Later ws p.tally.draw (capture_at ws loss links flooding t p).tally.draw
  unfolding capture_at tallied
  captured_later loss links flooding t p = capture_later loss links flooding t p.tally.draw

  -- the plan of a slot
  pub plan_later : (loss : Float) (links : List ℕ) (slot timeout : ℕ) (nodes : List Node) (s : StateSets) (d : Draw) → Later ws d (plan_of ws loss links slot timeout nodes s d).draw
  unfolding plan_of plan_after captures_of
  plan_later loss links slot timeout nodes s d =
      let c = coins_of ws slot timeout nodes s.listening d in
      later_trans ws (coins_later slot timeout nodes s.listening d)
      (marks_later ws (λ (p : Captured). p.tally.draw) (capture_at ws loss links s.flooding) (captured_later loss links s.flooding) (targets_in s c.recovering) (none_yet c.draw))
