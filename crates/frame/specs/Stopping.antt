-- RULES 13.4: pipeline rounds run until stopped. Assumes nothing: it is proved in proofs/Lasting.antt.
use Rattle.std.specs.Prelude.{true, Ok, List, ◌≡◌, ℕ}
use Rattle.graph.specs.declared.network.NetworkGraph.{NetworkGraph}
use Rattle.room.specs.Rooms.{open_test, conf_of}
use Rattle.frame.specs.declared.line.Frame.{Frame}
use Rattle.frame.specs.Play.{asked_of, is_done, play_pipeline}

-- The number of turns in `play_pipeline` cuts no frame's room short: after them the room has stopped, or a round was
-- refused. Whatever the links and the words are, as long as the room is accepted, without which nothing is played.
abbrev pub RunsUntilStopped : Type 0
RunsUntilStopped =
    (f : Frame) (g : NetworkGraph) (ws : List ℕ) → open_test (asked_of f g) ≡ Ok tt
    → is_done (play_pipeline f.transactions ws (conf_of (asked_of f g))) ≡ true
