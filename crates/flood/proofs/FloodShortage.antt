-- Words that have run short stay so to the end of a flood. Assumes nothing.
use Rattle.std.proofs.Common.{◌≡◌, ℕ, true, List, get_or}
use lib.Ieee.{Float, binary64, eq, of_bits}
use Rattle.loops.specs.Runs.{runs}
use Rattle.engines.specs.Nodes.{sets_of, ticked_all}
use Rattle.engines.specs.declared.network.RoundConf.{RoundConf}
use Rattle.engines.specs.declared.node.StateSets.{StateSets}
use Rattle.engines.specs.declared.words.Draw.{Draw}
use Rattle.engines.proofs.Cursor.{Later, later_same, next_later, either_later, marks_later, go_later}
use Rattle.flood.specs.Flood.{framed, hear_at, hearers_of, send_at, no_plan, flood_plan, flood_slot, is_over}
use Rattle.flood.specs.declared.flood.FloodPlan.{FloodPlan}
use Rattle.flood.specs.declared.flood.FloodRun.{FloodRun}

module _ (ws : List ℕ) where
  hear_later : (loss : Float) (j : ℕ) (p : FloodPlan) → Later ws p.draw (hear_at ws loss j p).draw
  unfolding hear_at framed
  hear_later loss j p = either_later ws (λ (q : FloodPlan). q.draw) p.draw (eq loss (of_bits binary64 0)) _ _ (later_same ws p.draw) (next_later ws p.draw)

  send_later : (loss : Float) (links : List ℕ) (listening i : ℕ) (p : FloodPlan) → Later ws p.draw (send_at ws loss links listening i p).draw
  unfolding send_at
  send_later loss links listening i p = marks_later ws (λ (q : FloodPlan). q.draw) (hear_at ws loss) (hear_later loss) (hearers_of (get_or links i 0) listening) p

  plan_later : (loss : Float) (links : List ℕ) (s : StateSets) (d : Draw) → Later ws d (flood_plan ws loss links s d).draw
  unfolding flood_plan
  plan_later loss links s d = marks_later ws (λ (q : FloodPlan). q.draw) (send_at ws loss links s.listening) (send_later loss links s.listening) s.flooding (no_plan d)

  slot_later : (conf : RoundConf) (bytes : ℕ) (f : FloodRun) → Later ws f.draw (flood_slot ws conf bytes f).draw
  unfolding flood_slot
  slot_later conf bytes f =
      plan_later conf.settings.loss_rate conf.graph.adj (sets_of conf.graph.n (ticked_all conf.graph.n f.network.nodes)) f.draw

  pub flood_short : (conf : RoundConf) (bytes k : ℕ) (f : FloodRun) → f.draw.short ≡ true → (runs is_over (flood_slot ws conf bytes) k f).draw.short ≡ true
  flood_short conf bytes k f = (go_later ws (λ (g : FloodRun). g.draw) is_over (flood_slot ws conf bytes) (slot_later conf bytes) k (is_over f) f).stays
