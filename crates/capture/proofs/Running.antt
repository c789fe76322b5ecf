-- Runs of slots on board and table: the invariants of the loop that counts rows and of the loop that writes them. Assumes nothing.
use Rattle.std.proofs.Common.{◌≡◌, ℕ, ◌-◌, ◌^◌, ◌<◌, ◌≤◌, max, true, false, ltb, List, length, get_or, refl, ap, ◌∙◌, arith}
use Rattle.loops.specs.Upto.{upto_same}
use Rattle.loops.specs.Runs.{runs}
use Rattle.engines.specs.Clamp.{at_most64}
use Rattle.engines.specs.Network.{due_row, slot_row, written_at, written_end}
use Rattle.engines.specs.Nodes.{no_node, ticked, ticked_in, ticked_all}
use Rattle.engines.specs.declared.node.NodeState.{NodeState}
use Rattle.engines.specs.declared.node.NodeState.TheVariants.{Listen, Flood, Sleep}
use Rattle.engines.specs.Rows.{highest_progress, row_of, due_after}
use Rattle.engines.specs.Rounds.{placed, Surveyed}
use Rattle.engines.specs.declared.rows.Row.{Row}
use Rattle.engines.specs.declared.node.Node.{Node}
use Rattle.engines.specs.declared.network.RoundConf.{RoundConf}
use Rattle.engines.proofs.Rounds.{Counted, counted_turn, counted_stop, counted_none, counted_short, stepped_slot}
use Rattle.engines.proofs.Rounds as rounds
use Rattle.engines.proofs.Writing.{Put}
use Rattle.engines.proofs.Stretches.{tick_sets, tick_get}
use Rattle.capture.specs.Capture.{over, network_in, draw_in, slot_of, rows_of}
use Rattle.capture.specs.Idle.{Idle, idled}
use Rattle.capture.specs.Boards.{node_by, seen_by, Shown, passed_cells, row_by, Advanced, Ran}
use Rattle.capture.specs.declared.board.Board.{Board}
use Rattle.capture.specs.declared.capture.CeState.{CeState}
use Rattle.engines.specs.declared.network.Step.{Step}
use Rattle.engines.specs.declared.network.Survey.{Survey}
use Rattle.capture.proofs.Idling.{stepped_idle}
use Rattle.capture.proofs.Shortage.{short_stays}
use Rattle.capture.proofs.Acting.{later, slot_idled}
use Rattle.capture.proofs.Resting.{nodes_long, node_at, sets_shown, ended_is, short_is, slot_is, row_is}

-- ---- a step

pub advanced_idle : (ws : List ℕ) (conf : RoundConf) (base : CeState) {b : Board} {x : List ℕ} (c : CeState) (left k : ℕ) → 0 < k → k ≤ left → Idle conf k c → Shown conf.graph.n base b x c
    → Advanced ws conf base left c (record { run = later b k; left = left - k }) (passed_cells b.states k x)
advanced_idle ws conf base c left k h l i o =
    record { state = idled conf k c; shown = slot_idled conf base c k o; stepped = stepped_idle ws conf h l i refl }

pub advanced_slot : (ws : List ℕ) (conf : RoundConf) (base : CeState) {b r : Board} {x y : List ℕ} (c : CeState) (left : ℕ) → 0 < left → b.ended ≡ false → Shown conf.graph.n base b x c
    → Shown conf.graph.n base r y (slot_of ws conf c) → Advanced ws conf base left c (record { run = r; left = left - 1 }) y
advanced_slot ws conf base c left h e o q =
    record { state = slot_of ws conf c; shown = q; stepped = stepped_slot network_in over (slot_of ws conf) conf h (ended_is o ∙ e) refl }

-- ---- counting rows

-- so many slots are left from what is shown, and so many rows were due before
pub record Going (ws : List ℕ) (conf : RoundConf) (base c : CeState) (left : ℕ) (b : Board) (x : List ℕ) (due : ℕ) : Type 0 where
  pub state : CeState
  pub shown : Shown conf.graph.n base b x state
  pub counted : Counted network_in over (slot_of ws conf) conf (runs over (slot_of ws conf) conf.length c) (length (rows_of ws conf conf.length c)) conf.length left state due

module _ (ws : List ℕ) (conf : RoundConf) (base c : CeState) where
  pub going_first : {b : Board} {x : List ℕ} → Shown conf.graph.n base b x c → Going ws conf base c conf.length b x 0
  going_first o = record { state = c; shown = o; counted = record { run = refl; rows = omega arith; small = omega arith } }

  module _ {left : ℕ} {b : Board} {x : List ℕ} {due : ℕ} (o : Going ws conf base c left b x due) where
    pub going_stop : 0 < left → b.ended ≡ true → Ran ws conf base c (record { run = b; due = due }) x
    going_stop h e =
        record { state = o.state; shown = o.shown; surveyed = counted_stop network_in over (slot_of ws conf) conf draw_in conf.length c o.counted h (ended_is o.shown ∙ e) }

    pub going_short : b.draw.short ≡ true → Ran ws conf base c (record { run = b; due = due }) x
    going_short e =
        record {
          state = o.state;
          shown = o.shown;
          surveyed = counted_short network_in over (slot_of ws conf) conf draw_in conf.length c o.counted (short_stays ws conf) (short_is o.shown ∙ e);
        }

    pub going_none : left ≤ 0 → Ran ws conf base c (record { run = b; due = due }) x
    going_none h =
        record { state = o.state; shown = o.shown; surveyed = counted_none network_in over (slot_of ws conf) conf draw_in conf.length c o.counted h }

    pub going_turn : conf.length < 2 ^ 64 → 0 < left → {due' : ℕ} → due' ≡ due_after due b.next_row b.slot → {r : Step Board} {y : List ℕ}
        → ((s : CeState) → Shown conf.graph.n base b x s → Advanced ws conf base left s r y) → Going ws conf base c r.left r.run y due'
    going_turn small h e step =
        let a = step o.state o.shown in
        record {
          state = a.state;
          shown = a.shown;
          counted = counted_turn network_in over (slot_of ws conf) conf o.counted small h (rw (row_is o.shown, slot_is o.shown) e) a.stepped;
        }

-- what a run found out, of the state that is packed
pub surveyed_as : (ws : List ℕ) (conf : RoundConf) (base c : CeState) {r : Survey Board} {y : List ℕ} {s : CeState} → Ran ws conf base c r y → s ≡ seen_by conf.graph.n base r.run y
    → Surveyed network_in over (slot_of ws conf) conf draw_in conf.length c s r.due
surveyed_as ws conf base c o e = rw (e ∙ o.shown.sees) o.surveyed

-- ---- writing rows

ticked_progress : (v : Node) → (ticked v).progress_count ≡ v.progress_count
unfolding ticked
ticked_progress v = by v.state refl
  where
    by : (s : NodeState) → v.state ≡ s → (ticked_in v.state v).progress_count ≡ v.progress_count
    by Listen e = rw e
    by Flood e = rw e
    by Sleep e = rw e

-- no capture round counts progress
module _ {n : ℕ} {base : CeState} {b : Board} {x : List ℕ} {c : CeState} (o : Shown n base b x c) where
  progress_at : (i : ℕ) → i < at_most64 n → (get_or (ticked_all n c.network.nodes) i no_node).progress_count ≡ (get_or base.network.nodes i no_node).progress_count
  unfolding node_by
  progress_at i h =
      ap (λ (v : Node). v.progress_count) (tick_get n c.network.nodes (nodes_long o) i h) ∙ ticked_progress (get_or c.network.nodes i no_node)
      ∙ ap (λ (v : Node). v.progress_count) (node_at o i h)

  top_is : highest_progress n (ticked_all n c.network.nodes) ≡ highest_progress n base.network.nodes
  unfolding highest_progress
  top_is = upto_same _ _ 0 (at_most64 n) (λ i h d. ap (λ (k : ℕ). max d k) (progress_at i h))

  pub row_shown : (top : ℕ) → highest_progress n base.network.nodes ≡ top → row_by b top ≡ row_of c.network.next_row n (ticked_all n c.network.nodes)
  unfolding row_of
  row_shown top e = rw (top_is, e, tick_sets n c.network.nodes (nodes_long o), ← sets_shown o, row_is o)

pub due_is : (conf : RoundConf) {base : CeState} {b : Board} {x : List ℕ} {c : CeState} (o : Shown conf.graph.n base b x c) (top : ℕ) → highest_progress conf.graph.n base.network.nodes ≡ top
    → {row : Row} → row ≡ row_by b top → due_row b.slot row ≡ slot_row conf c.network
unfolding slot_row
due_is conf o top e er = rw (slot_is o, ← row_shown o top e, er)

-- so many slots are left from what is shown, and what is left to write comes to `final`
pub record Writing (ws : List ℕ) (conf : RoundConf) (base : CeState) (final : List ℕ) (left : ℕ) (b : Board) (x : List ℕ) (at : ℕ) (rows : List ℕ) : Type 0 where
  pub state : CeState
  pub shown : Shown conf.graph.n base b x state
  pub still : rounds.Left network_in over (slot_of ws conf) conf final left state at rows

module _ (ws : List ℕ) (conf : RoundConf) (base : CeState) where
  pub writing_first : {b : Board} {x : List ℕ} (c : CeState) (rows : List ℕ) → Shown conf.graph.n base b x c
      → Writing ws conf base (placed rows 0 (rows_of ws conf conf.length c)) conf.length b x 0 rows
  writing_first c rows o = record { state = c; shown = o; still = record { rest = refl } }

  module _ {final : List ℕ} {left : ℕ} {b : Board} {x : List ℕ} {at : ℕ} {rows : List ℕ} (o : Writing ws conf base final left b x at rows) where
    pub writing_stop : b.ended ≡ true → rows ≡ final
    writing_stop e = rounds.left_stop network_in over (slot_of ws conf) conf o.still (ended_is o.shown ∙ e)

    pub writing_full : ltb (length rows - at) 5 ≡ true → rows ≡ final
    writing_full e = rounds.left_full network_in over (slot_of ws conf) conf o.still e

    pub writing_none : left ≤ 0 → rows ≡ final
    writing_none h = rounds.left_none network_in over (slot_of ws conf) conf o.still h

    pub writing_turn : (top : ℕ) → highest_progress conf.graph.n base.network.nodes ≡ top → {row : Row} → row ≡ row_by b top → {rows' : List ℕ} {at' : ℕ}
        → at' ≡ written_end (length rows) at (due_row b.slot row) → rows' ≡ written_at rows at (due_row b.slot row) → {r : Step Board} {y : List ℕ}
        → ((s : CeState) → Shown conf.graph.n base b x s → Advanced ws conf base left s r y) → Writing ws conf base final r.left r.run y at' rows'
    writing_turn top e er ea eb step =
        let a = step o.state o.shown in
        record { state = a.state; shown = a.shown; still = rounds.left_turn network_in over (slot_of ws conf) conf o.still (put top e er ea eb) a.stepped }
      where
        put : (top : ℕ) → highest_progress conf.graph.n base.network.nodes ≡ top → {row : Row} → row ≡ row_by b top → {rows' : List ℕ} {at' : ℕ}
            → at' ≡ written_end (length rows) at (due_row b.slot row) → rows' ≡ written_at rows at (due_row b.slot row) → Put conf o.state.network rows at rows' at'
        put top e er ea eb = let same = row_same top e er in (ea ∙ ap (written_end (length rows) at) same, eb ∙ ap (written_at rows at) same)
          where
            row_same : (top : ℕ) → highest_progress conf.graph.n base.network.nodes ≡ top → {row : Row} → row ≡ row_by b top → due_row b.slot row ≡ slot_row conf o.state.network
            row_same top e er = due_is conf o.shown top e er
