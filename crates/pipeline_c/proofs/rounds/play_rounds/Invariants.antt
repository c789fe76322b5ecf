use Rattle.std.proofs.Common.{◌≡◌, ◌-◌, Ok, length}
use Rattle.loops.specs.Runs.{runs}
use Rattle.pipeline_c.specs.Play.{is_refused, play_round}
use Rattle.pipeline_c.proofs.rounds.play_rounds.Given as goal

abbrev pub invariant-loop-round : goal.invariant-loop-round
invariant-loop-round l = (length l.rows ≡ length l.initial.rows) × (runs is_refused (play_round l.words l.conf) (l.rounds - l._round) (record { told = Ok tt; rows = l.rows; played = l.t }) ≡ runs is_refused (play_round l.words l.conf) l.rounds (record { told = Ok tt; rows = l.initial.rows; played = l.initial.t }))
