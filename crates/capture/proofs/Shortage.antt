-- Words that have run short stay so to the end of a round. Assumes nothing.
use Rattle.std.proofs.Common.{◌≡◌, ℕ, true, List}
use Rattle.loops.specs.Runs.{runs}
use Rattle.merges.specs.Merging.{network_goal_of}
use Rattle.engines.specs.Nodes.{sets_of}
use Rattle.capture.specs.Capture.{begun, goal_met, acted, finished, slot_of, over}
use Rattle.engines.specs.declared.network.RoundConf.{RoundConf}
use Rattle.capture.specs.declared.capture.CeState.{CeState}
use Rattle.engines.proofs.Cursor.{Later, later_same, either_later, go_later}
use Rattle.capture.proofs.PlanCursor.{plan_later}

module _ (ws : List ℕ) (conf : RoundConf) where
  finished_later : (c : CeState) → Later ws c.draw (finished ws conf c).draw
  unfolding finished goal_met acted
  finished_later c =
      either_later ws (λ (s : CeState). s.draw) c.draw (network_goal_of conf.graph.n c.held) (goal_met conf c) (acted ws conf c)
      (later_same ws c.draw)
      (plan_later ws conf.settings.loss_rate conf.graph.adj c.network.slot conf.settings.listen_timeout c.network.nodes (sets_of conf.graph.n c.network.nodes) c.draw)

  slot_later : (c : CeState) → Later ws c.draw (slot_of ws conf c).draw
  unfolding slot_of begun
  slot_later c = finished_later (begun conf c)

  pub short_stays : (k : ℕ) (c : CeState) → c.draw.short ≡ true → (runs over (slot_of ws conf) k c).draw.short ≡ true
  short_stays k c = (go_later ws (λ (s : CeState). s.draw) over (slot_of ws conf) slot_later k (over c) c).stays
