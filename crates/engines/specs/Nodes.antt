-- RULES 7.1 and 7.2: the counts of a position, and what a slot's tick does to them. Assumes nothing.
use Rattle.std.specs.Prelude.{◌≡◌, ℕ, ◌+◌, ◌%◌, ◌^◌, ◌<◌, Bool, true, false, List, [], ◌∷◌, get_or, slice_index_or, slice_set, eqb}
use Rattle.loops.specs.Pick.{either}
use Rattle.loops.specs.Upto.{upto}
use Rattle.marks.specs.Marks.{marks}
use Rattle.engines.specs.Clamp.{at_most64}
use Rattle.engines.specs.declared.node.Node.{Node}
use Rattle.engines.specs.declared.node.StateSets.{StateSets}
use Rattle.engines.specs.declared.node.NodeState.{NodeState}
use Rattle.engines.specs.declared.node.NodeState.TheVariants.{Listen, Flood, Sleep}

-- one more, in 64 binary digits
abbrev pub inc : ℕ → ℕ
inc x = (x + 1) % 2 ^ 64

-- a node as it is made; it also stands for a position that is none
abbrev pub no_node : Node
no_node =
    record {
      state = Listen;
      flood_remaining = 0;
      last_progress_slot = 0;
      goal_reached = false;
      progress_count = 0;
      slots_listen = 0;
      slots_flood = 0;
      slots_sleep = 0;
    }

-- a node in a state, with its three counts; all else is as it was
abbrev pub counted : Node → ℕ → ℕ → ℕ → Node
counted v l f s =
    record {
      state = v.state;
      flood_remaining = v.flood_remaining;
      last_progress_slot = v.last_progress_slot;
      goal_reached = v.goal_reached;
      progress_count = v.progress_count;
      slots_listen = l;
      slots_flood = f;
      slots_sleep = s;
    }

-- a round starts with every position listening; counts and progress stay
unfoldable pub reset_round : Node → Node
reset_round v =
    record {
      state = Listen;
      flood_remaining = 0;
      last_progress_slot = 0;
      goal_reached = v.goal_reached;
      progress_count = v.progress_count;
      slots_listen = v.slots_listen;
      slots_flood = v.slots_flood;
      slots_sleep = v.slots_sleep;
    }

-- A tick raises the count of the state that the position is in, by one.
abbrev pub ticked_in : NodeState → Node → Node
ticked_in Listen v = counted v (inc v.slots_listen) v.slots_flood v.slots_sleep
ticked_in Flood v = counted v v.slots_listen (inc v.slots_flood) v.slots_sleep
ticked_in Sleep v = counted v v.slots_listen v.slots_flood (inc v.slots_sleep)

unfoldable pub ticked : Node → Node
ticked v = ticked_in v.state v

-- position i ticked
unfoldable pub tick_at : ℕ → List Node → List Node
tick_at i l = slice_set l i (ticked (slice_index_or l i no_node))

-- A slot first ticks every position.
unfoldable pub ticked_all : ℕ → List Node → List Node
ticked_all n l = upto (at_most64 n) tick_at l

-- The three counts of a position together, and those of all positions.
abbrev pub slots : Node → ℕ
slots v = v.slots_listen + v.slots_flood + v.slots_sleep

unfoldable pub total : List Node → ℕ
total [] = 0
total (v ∷ l) = slots v + total l

-- how often all positions together have flooded
unfoldable pub flood_ticks : List Node → ℕ
flood_ticks [] = 0
flood_ticks (v ∷ l) = v.slots_flood + flood_ticks l

-- v and w have the same three counts
pub record Alike (v w : Node) : Type 0 where
  pub listen : v.slots_listen ≡ w.slots_listen
  pub flood : v.slots_flood ≡ w.slots_flood
  pub sleep : v.slots_sleep ≡ w.slots_sleep

-- every count lies below b
pub data Below (b : ℕ) : List Node → Type 0 where
  none : Below b []
  more : (v : Node) {l : List Node} → v.slots_listen < b → v.slots_flood < b → v.slots_sleep < b → Below b l → Below b (v ∷ l)

-- A state as a number; a number that is none of the three reads as Sleep.
abbrev pub state_number : NodeState → ℕ
state_number Listen = 0
state_number Flood = 1
state_number Sleep = 2

abbrev pub state_numbered : ℕ → NodeState
state_numbered n = either (eqb n 0) Listen (either (eqb n 1) Flood Sleep)

-- Whether position i listens, floods or sleeps.
abbrev pub is_listen : NodeState → Bool
is_listen Listen = true
is_listen Flood = false
is_listen Sleep = false

abbrev pub is_flood : NodeState → Bool
is_flood Listen = false
is_flood Flood = true
is_flood Sleep = false

abbrev pub is_sleep : NodeState → Bool
is_sleep Listen = false
is_sleep Flood = false
is_sleep Sleep = true

unfoldable pub listens : List Node → ℕ → Bool
listens l i = is_listen (get_or l i no_node).state

unfoldable pub floods : List Node → ℕ → Bool
floods l i = is_flood (get_or l i no_node).state

unfoldable pub sleeps : List Node → ℕ → Bool
sleeps l i = is_sleep (get_or l i no_node).state

-- the sets of the positions that do
unfoldable pub sets_of : ℕ → List Node → StateSets
sets_of n l =
    record {
      listening = marks (at_most64 n) (listens l);
      flooding = marks (at_most64 n) (floods l);
      sleeping = marks (at_most64 n) (sleeps l);
    }
