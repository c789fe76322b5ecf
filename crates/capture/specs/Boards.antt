-- A round inside: sets of positions and a table of numbers, and the state of the rules that they show. RULES none: what
-- is said is what the functions of a round owe each other. Assumes nothing.
use Rattle.std.specs.Prelude.{◌≡◌, ℕ, ◌*◌, ◌%◌, ◌<◌, ◌≤◌, Bool, true, false, not, ◌&&◌, ◌||◌, List, [], ◌∷◌, length, get_or, replicate, ◌==◌, ◌≢◌, nat_le, nat_lt, slice_index, slice_index_or, slice_set}
use Rattle.limits.specs.Limits.{positions}
use Rattle.loops.specs.Pick.{either}
use Rattle.loops.specs.Upto.{upto}
use Rattle.loops.specs.Wrap.{add64}
use Rattle.marks.specs.Marks.{has, all_of}
use Rattle.packets.specs.Writing.{data_len, parts_len}
use Rattle.packets.specs.declared.Data.{Data}
use Rattle.packets.specs.declared.TwoPcPhase.{TwoPcPhase}
use Rattle.packets.specs.declared.TwoPcPhase.TheVariants.{Prepare, Committed, Aborted}
use Rattle.merges.specs.Merging.{no_payload, unanimous_of, can_sleep_of}
use Rattle.merges.specs.Slips.{packet_of}
use Rattle.merges.specs.declared.votes.Voting.{Voting}
use Rattle.merges.specs.declared.merging.Slip.{Slip}
use Rattle.merges.specs.declared.merging.Held.{Held}
use Rattle.merges.specs.declared.merging.Held.TheVariants.{Empty, Unreadable, Packet}
use Rattle.merges.specs.declared.merging.Payload.{Payload}
use Rattle.engines.specs.Clamp.{at_most64}
use Rattle.engines.specs.Marked.{over_marks, with_mark, place}
use Rattle.engines.specs.Columns.{cell, raised_by, stored_as, row_put}
use Rattle.engines.specs.Nodes.{inc, no_node, is_listen, is_flood, is_sleep}
use Rattle.engines.specs.Network.{on_air}
use Rattle.engines.specs.Rows.{next_row, row_in}
use Rattle.engines.specs.Rounds.{Stepped, Surveyed}
use Rattle.engines.specs.declared.words.Draw.{Draw}
use Rattle.engines.specs.declared.rows.Row.{Row}
use Rattle.engines.specs.declared.node.Node.{Node}
use Rattle.engines.specs.declared.node.StateSets.{StateSets}
use Rattle.engines.specs.declared.node.NodeState.{NodeState}
use Rattle.engines.specs.declared.node.NodeState.TheVariants.{Listen, Flood, Sleep}
use Rattle.engines.specs.declared.network.RoundConf.{RoundConf}
use Rattle.capture.specs.Plan.{Plan, tossed1, targets_in, plan_of}
use Rattle.capture.specs.Turns.{counted_slot}
use Rattle.capture.specs.Ce.{is_news, merged_from, noted_if, told_all}
use Rattle.capture.specs.Capture.{voting_of, slot_of, over, network_in, draw_in}
use Rattle.capture.specs.declared.plan.Coins.{Coins}
use Rattle.capture.specs.declared.plan.SlotPlan.{SlotPlan}
use Rattle.capture.specs.declared.ce.Told.{Told}
use Rattle.capture.specs.declared.board.Phases.{Phases}
use Rattle.capture.specs.declared.board.Board.{Board}
use Rattle.capture.specs.declared.board.CeFixed.{CeFixed}
use Rattle.capture.specs.declared.board.Noted.{Noted}
use Rattle.capture.specs.declared.capture.CeState.{CeState}
use Rattle.engines.specs.declared.network.Step.{Step}
use Rattle.engines.specs.declared.network.Survey.{Survey}

-- ---- the columns of the table, by where they start

abbrev pub last_at : ℕ
last_at = 0

abbrev pub listen_at : ℕ
listen_at = 64

abbrev pub flood_at : ℕ
flood_at = 128

abbrev pub sleep_at : ℕ
sleep_at = 192

abbrev pub term_at : ℕ
term_at = 256

abbrev pub len_at : ℕ
len_at = 320

abbrev pub marks_at : ℕ
marks_at = 384

abbrev pub from_at : ℕ
from_at = 448

abbrev pub data_at : ℕ
data_at = 512

abbrev pub table_cells : ℕ
table_cells = 576

-- ---- positions

-- the state of position i by the sets
unfoldable pub state_by : StateSets → ℕ → NodeState
state_by s i = either (has s.flooding i) Flood (either (has s.sleeping i) Sleep Listen)

-- Each of the first n positions is in one set, and no set has another mark.
pub record Split (n : ℕ) (s : StateSets) : Type 0 where
  pub listening : (i : ℕ) → has s.listening i ≡ (nat_lt i (at_most64 n) && is_listen (state_by s i))
  pub flooding : (i : ℕ) → has s.flooding i ≡ (nat_lt i (at_most64 n) && is_flood (state_by s i))
  pub sleeping : (i : ℕ) → has s.sleeping i ≡ (nat_lt i (at_most64 n) && is_sleep (state_by s i))

-- the node of position i by sets and table; no capture round counts progress, so that is as it was
unfoldable pub node_by : StateSets → ℕ → List ℕ → ℕ → Node → Node
node_by s goal x i v =
    record {
      state = state_by s i;
      flood_remaining = 0;
      last_progress_slot = cell x last_at i;
      goal_reached = has goal i;
      progress_count = v.progress_count;
      slots_listen = cell x listen_at i;
      slots_flood = cell x flood_at i;
      slots_sleep = cell x sleep_at i;
    }

unfoldable pub nodes_by : ℕ → List Node → StateSets → ℕ → List ℕ → List Node
nodes_by n base s goal x = upto (at_most64 n) (place no_node (node_by s goal x)) base

-- ---- payloads

-- whether position i holds a packet, and of what phase. The sets are asked in one order, so nothing has to keep them
-- apart.
unfoldable pub holds_by : Phases → ℕ → Bool
holds_by p i = has p.prepared i || (has p.committed i || has p.aborted i)

unfoldable pub phase_by : Phases → ℕ → TwoPcPhase
phase_by p i = either (has p.committed i) Committed (either (has p.aborted i) Aborted Prepare)

unfoldable pub held_by : Phases → ℕ → Held
held_by p i = either (holds_by p i) Packet (either (has p.unreadable i) Unreadable Empty)

unfoldable pub slip_by : Phases → List ℕ → ℕ → Slip
slip_by p x i =
    record {
      term = cell x term_at i;
      phase = phase_by p i;
      source = cell x from_at i;
      flags_bitmap = record { len = cell x len_at i; marks = cell x marks_at i };
    }

-- whose data is which: what position k held when the round began
unfoldable pub data_in : List Payload → ℕ → Data
data_in base k = (get_or base (k % 64) no_payload).packet.proposal_data

-- a position that holds no packet is as it was when the round began
unfoldable pub payload_by : List Payload → Phases → List ℕ → ℕ → Payload → Payload
payload_by base p x i v =
    either (holds_by p i) (record { held = Packet; packet = packet_of (data_in base) (slip_by p x i) }) v

unfoldable pub payloads_by : ℕ → List Payload → Phases → List ℕ → List Payload
payloads_by n base p x = upto (at_most64 n) (place no_payload (payload_by base p x)) base

-- What positions hold is `held`, told by the phases, the table, and who can sleep by it.
pub record ShownHeld (n : ℕ) (base : List Payload) (p : Phases) (rests : ℕ) (x : List ℕ)
    (held : List Payload) : Type 0 where
  pub whole : length base ≡ 64
  pub table : length x ≡ table_cells
  pub kinds : (i : ℕ) → i < at_most64 n → holds_by p i ≡ false → (get_or base i no_payload).held ≡ held_by p i
  pub from : (i : ℕ) → i < at_most64 n → cell x from_at i < at_most64 n
  pub texts : (k : ℕ) → k < at_most64 n → cell x data_at k ≡ data_len (data_in base k)
  pub short : (k : ℕ) → k < at_most64 n → data_len (data_in base k) ≤ 129
  pub resting : (i : ℕ) → i < at_most64 n → has rests i ≡ can_sleep_of n (slice_index_or held i no_payload)
  pub sees : payloads_by n base p x ≡ held

-- ---- the round

-- the state of the rules that board and table show, in a round that began with `base`
unfoldable pub seen_by : ℕ → CeState → Board → List ℕ → CeState
seen_by n base b x =
    record {
      network =
          record {
            nodes = nodes_by n base.network.nodes b.states b.goal_reached x;
            metrics = b.metrics;
            slot = b.slot;
            next_row = b.next_row;
            bytes_sent = b.bytes_sent;
          };
      held = payloads_by n base.held b.phases x;
      draw = b.draw;
      ended = b.ended;
    }

-- Board and table show the state c. A function on them is right if it turns what shows c into what shows the rule's
-- answer for c.
pub record Shown (n : ℕ) (base : CeState) (b : Board) (x : List ℕ) (c : CeState) : Type 0 where
  pub whole : length base.network.nodes ≡ 64
  pub split : Split n b.states
  pub held : ShownHeld n base.held b.phases b.can_sleep x c.held
  pub sees : seen_by n base b x ≡ c

-- what a slot goes by, beside the links
abbrev pub fixed_of : RoundConf → CeFixed
fixed_of conf =
    record {
      voting = voting_of conf;
      loss_rate = conf.settings.loss_rate;
      listen_timeout = conf.settings.listen_timeout;
      interval = conf.interval;
    }

-- links and f are what a round by `conf` goes by
pub record Goes (conf : RoundConf) (links : List ℕ) (f : CeFixed) : Type 0 where
  pub adj : conf.graph.adj ≡ links
  pub fixed : fixed_of conf ≡ f

-- ---- a round begins

-- the numbers of position i, column by column: the round's start as its last progress, its counts, what it holds, its
-- own data
abbrev pub row_for : ℕ → ℕ → Node → Payload → List ℕ
row_for slot i v l =
    slot
    ∷ v.slots_listen
    ∷ v.slots_flood
    ∷ v.slots_sleep
    ∷ l.packet.term
    ∷ l.packet.flags_bitmap.len
    ∷ l.packet.flags_bitmap.marks
    ∷ i
    ∷ data_len l.packet.proposal_data
    ∷ []

-- position i holds a packet of this phase now, and nothing else has changed
pub record PutPhase (p : Phases) (i : ℕ) (f : TwoPcPhase) (r : Phases) : Type 0 where
  pub holds : (j : ℕ) → holds_by r j ≡ either (j == i) true (holds_by p j)
  pub phase : (j : ℕ) → phase_by r j ≡ either (j == i) f (phase_by p j)
  pub unreadable : r.unreadable ≡ p.unreadable

-- position i, which had no mark, is entered
pub record NotedAt (p : Phases) (i : ℕ) (held : Held) (f : TwoPcPhase) (r : Phases) : Type 0 where
  pub others : (j : ℕ) → (j ≢ i) → (held_by r j ≡ held_by p j) × (phase_by r j ≡ phase_by p j)
  pub own : held_by p i ≡ Empty → held_by r i ≡ held
  pub phase : held ≡ Packet → phase_by r i ≡ f

-- the first i positions are in table and sets
pub record Taken (n i : ℕ) (base : CeState) (s : Noted) (x : List ℕ) : Type 0 where
  pub table : length x ≡ table_cells
  pub cells : (j : ℕ) → j < i → (k : ℕ) → k < 9
      → cell x (64 * k) j
      ≡ slice_index (row_for base.network.slot j (slice_index_or base.network.nodes j no_node) (slice_index_or base.held j no_payload)) k
  pub short : (j : ℕ) → j < i → data_len (get_or base.held j no_payload).packet.proposal_data ≤ 129
  pub goal : (j : ℕ) → j < i → has s.goal_reached j ≡ (get_or base.network.nodes j no_node).goal_reached
  pub rests : (j : ℕ) → j < i → has s.can_sleep j ≡ can_sleep_of n (slice_index_or base.held j no_payload)
  pub held : (j : ℕ) → held_by s.phases j ≡ either (nat_lt j i) (get_or base.held j no_payload).held Empty
  pub phase : (j : ℕ) → j < i → (get_or base.held j no_payload).held ≡ Packet
      → phase_by s.phases j ≡ (get_or base.held j no_payload).packet.phase

-- who floods and who listens in the first slot
pub record FirstStates (n initiator : ℕ) (s : StateSets) : Type 0 where
  pub listening : (i : ℕ) → has s.listening i ≡ (nat_lt i (at_most64 n) && not (i == initiator))
  pub flooding : (i : ℕ) → has s.flooding i ≡ (nat_lt i (at_most64 n) && i == initiator)
  pub sleeping : s.sleeping ≡ 0

-- ---- the plan of a slot

-- a position whose last progress was then; nothing else of it counts for its coin
abbrev pub waiting_since : ℕ → Node
waiting_since last =
    record {
      state = Listen;
      flood_remaining = 0;
      last_progress_slot = last;
      goal_reached = false;
      progress_count = 0;
      slots_listen = 0;
      slots_flood = 0;
      slots_sleep = 0;
    }

-- the coins of a slot, by the table
unfoldable pub coins_by : List ℕ → ℕ → ℕ → List ℕ → ℕ → Draw → Coins
coins_by ws slot timeout x listening d =
    over_marks listening (λ i c. tossed1 ws slot timeout (waiting_since (cell x last_at i)) i c)
    (record { recovering = 0; draw = d })

-- the rules' plan
abbrev pub plan_by : SlotPlan → List ℕ → Plan
plan_by p hears =
    record {
      recovering = p.recovering;
      hears = hears;
      draw = p.draw;
      ce_timeouts = p.ce_timeouts;
      rx_attempts = p.rx_attempts;
      rx_success = p.rx_success;
    }

-- whom each position hears is `after`, and what else the words decide is r
pub record PlannedBy (ws links : List ℕ) (f : CeFixed) (s : StateSets) (slot : ℕ) (d : Draw) (x hears : List ℕ)
    (r : SlotPlan) (after : List ℕ) : Type 0 where
  pub targets : r.targets ≡ targets_in s r.recovering
  pub plan : (nodes : List Node) → hears ≡ replicate 64 64
      → ((i : ℕ) → has s.listening i ≡ true → (get_or nodes i no_node).last_progress_slot ≡ cell x last_at i)
      → plan_by r after ≡ plan_of ws f.loss_rate links slot f.listen_timeout nodes s d

-- ---- bytes

-- the length of the payload that position i sends if it floods
unfoldable pub length_by : Phases → List ℕ → ℕ → ℕ
length_by p x i =
    either (holds_by p i)
    (parts_len (cell x term_at i) (phase_by p i) (cell x data_at (cell x from_at i % 64))
    (record { len = cell x len_at i; marks = cell x marks_at i }))
    0

unfoldable pub sent_by : ℕ → Phases → List ℕ → ℕ
sent_by flooding p x = over_marks flooding (λ i sum. add64 sum (on_air (length_by p x i))) 0

-- ---- merges, in place

-- a phase that is a decision
abbrev pub decided_by : TwoPcPhase → Bool
decided_by Prepare = false
decided_by Committed = true
decided_by Aborted = true

-- who holds this can sleep: a decision that all are known to hold
abbrev pub rests_by : ℕ → Slip → Bool
rests_by n s = decided_by s.phase && unanimous_of n s.flags_bitmap

-- position i holds slip s now, which was new to it
pub record Written (n : ℕ) (t : Told) (i : ℕ) (s : Slip) (x : List ℕ) (r : Told) (y : List ℕ) : Type 0 where
  pub phases : PutPhase t.phases i s.phase r.phases
  pub rests : (j : ℕ) → has r.can_sleep j ≡ either (j == i) (rests_by n s) (has t.can_sleep j)
  pub news : r.new_info ≡ with_mark t.new_info i
  pub table : y ≡ row_put term_at i (s.term ∷ s.flags_bitmap.len ∷ s.flags_bitmap.marks ∷ s.source ∷ []) x

-- the numbers of the first four columns are as they were
abbrev pub Kept : List ℕ → List ℕ → Type 0
Kept x y = (q : ℕ) → q < term_at → slice_index y q ≡ slice_index x q

-- position i merges what src holds now
pub record ToldOne (s : Voting) (t : Told) (i src : ℕ) (x : List ℕ) (r : Told) (y : List ℕ) : Type 0 where
  pub kept : Kept x y
  pub news : (base held : List Payload) → i < at_most64 s.n → (src < 64 → src < at_most64 s.n)
      → ShownHeld s.n base t.phases t.can_sleep x held
      → r.new_info ≡ noted_if (is_news (merged_from s held i src).result) i t.new_info
  pub shown : (base held : List Payload) → i < at_most64 s.n → (src < 64 → src < at_most64 s.n)
      → ShownHeld s.n base t.phases t.can_sleep x held
      → ShownHeld s.n base r.phases r.can_sleep y (slice_set held i (merged_from s held i src).payload)

-- The targets are positions, and hear positions that are no targets; nobody else hears anybody.
pub record Apart (n : ℕ) (hears : List ℕ) (targets : ℕ) : Type 0 where
  pub position : (i : ℕ) → has targets i ≡ true → i < at_most64 n
  pub sender : (i : ℕ) → has targets i ≡ true → slice_index hears i < 64 → slice_index hears i < at_most64 n
  pub silent : (i : ℕ) → has targets i ≡ true → slice_index hears i < 64 → has targets (slice_index hears i) ≡ false
  pub others : (i : ℕ) → i < 64 → has targets i ≡ false → nat_lt (slice_index hears i) 64 ≡ false

-- each target merges what it heard
pub record ToldAll (s : Voting) (targets : ℕ) (hears : List ℕ) (t : Told) (x : List ℕ)
    (r : Told) (y : List ℕ) : Type 0 where
  pub kept : Kept x y
  pub news : (base held : List Payload) → Apart s.n hears targets → t.new_info ≡ 0
      → ShownHeld s.n base t.phases t.can_sleep x held
      → (j : ℕ) → has r.new_info j ≡ has (told_all s hears held).new_info j
  pub shown : (base held : List Payload) → Apart s.n hears targets → t.new_info ≡ 0
      → ShownHeld s.n base t.phases t.can_sleep x held
      → ShownHeld s.n base r.phases r.can_sleep y (told_all s hears held).held

-- ---- states

-- k slots in which no state changes
unfoldable pub passed_cells : StateSets → ℕ → List ℕ → List ℕ
passed_cells s k x =
    raised_by sleep_at s.sleeping k (raised_by flood_at s.flooding k (raised_by listen_at s.listening k x))

-- the sets of the next slot, mark by mark
pub record Changed (s : StateSets) (progressed rests : ℕ) (r : StateSets) : Type 0 where
  pub listening : (i : ℕ)
      → has r.listening i ≡ ((has s.listening i || has s.flooding i) && not (has progressed i || has rests i))
  pub flooding : (i : ℕ)
      → has r.flooding i
      ≡ (((has s.listening i || has s.flooding i) || has s.sleeping i)
      && ((has progressed i && not (has rests i)) || (has rests i && not (has s.flooding i))))
  pub sleeping : (i : ℕ)
      → has r.sleeping i
      ≡ ((has rests i && has s.flooding i) || (has s.sleeping i && not (has progressed i || has rests i)))

-- what plan and merges of a slot make of board and table
pub record TurnedBy (b : Board) (interval : ℕ) (p : SlotPlan) (sent : ℕ) (t : Told) (x : List ℕ)
    (r : Board) (y : List ℕ) : Type 0 where
  pub progressed : ℕ
  pub marks : (i : ℕ) → has progressed i ≡ (has p.recovering i || has t.new_info i)
  pub table : y ≡ stored_as last_at progressed b.slot x
  pub states : Changed b.states progressed t.can_sleep r.states
  pub goal : (i : ℕ)
      → has r.goal_reached i
      ≡ either (has t.new_info i) (has t.phases.committed i || has t.phases.aborted i) (has b.goal_reached i)
  pub phases : r.phases ≡ t.phases
  pub rests : r.can_sleep ≡ t.can_sleep
  pub metrics : (hears : List ℕ) → r.metrics ≡ counted_slot (plan_by p hears) b.metrics
  pub slot : r.slot ≡ inc b.slot
  pub row : r.next_row ≡ next_row b.next_row interval b.slot
  pub bytes : r.bytes_sent ≡ add64 b.bytes_sent sent
  pub draw : r.draw ≡ p.draw
  pub going : r.ended ≡ false

-- ---- the goal, and slots

-- all of the first n positions hold Committed, or all hold Aborted
unfoldable pub goal_by : ℕ → Phases → Bool
goal_by n p =
    (nat_lt 0 n && nat_le n positions)
    && (all_of n (λ i. has p.committed i) || all_of n (λ i. has p.aborted i && not (has p.committed i)))

-- the round ends at the next slot
abbrev pub ended_by : ℕ → Board → Board
ended_by interval b =
    record {
      states = b.states;
      goal_reached = b.goal_reached;
      phases = b.phases;
      can_sleep = b.can_sleep;
      metrics = b.metrics;
      slot = inc b.slot;
      next_row = next_row b.next_row interval b.slot;
      bytes_sent = b.bytes_sent;
      draw = b.draw;
      ended = true;
    }

-- the row of a slot
abbrev pub row_by : Board → ℕ → Row
row_by b top = row_in b.next_row top b.states

-- a step from c, with so many slots left: what is shown then, and that it is a step of the rules
pub record Advanced (ws : List ℕ) (conf : RoundConf) (base : CeState) (left : ℕ) (c : CeState)
    (r : Step Board) (y : List ℕ) : Type 0 where
  pub state : CeState
  pub shown : Shown conf.graph.n base r.run y state
  pub stepped : Stepped network_in over (slot_of ws conf) conf left c r.left state

-- a run from c without rows: what is shown at its end, and what it found out
pub record Ran (ws : List ℕ) (conf : RoundConf) (base c : CeState) (r : Survey Board) (y : List ℕ) : Type 0 where
  pub state : CeState
  pub shown : Shown conf.graph.n base r.run y state
  pub surveyed : Surveyed network_in over (slot_of ws conf) conf draw_in conf.length c state r.due
