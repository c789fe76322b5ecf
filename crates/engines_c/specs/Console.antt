-- RULES 17, the boundary for differential runs: a capture round on a lent
-- list of numbers. Assumes nothing.
use Rattle.std.specs.Prelude.{Bool, true, false, not, List, [], ◌∷◌, ◌≡◌, ℕ, ◌≤◌, ◌<◌, Ok, eqb, ltb, Float, length, get_or}
use mir.Val.{bool_byte}
use Rattle.std.proofs.lemmas.List.Edits.{sets}
use Rattle.limits.specs.Limits.{positions}
use Rattle.std.specs.Result.{result_and}
use Rattle.limits.specs.Refusals.{answer_of as number, Tested, holds_or}
use Rattle.limits.specs.declared.refusals.Refusal.TheVariants.{BadLoss, NoInterval, NoPosition, BadPacket}
use Rattle.limits.specs.Refusals.{bad_positions, bad_links, bad_loss, no_interval, no_position, bad_packet}
use Rattle.loops.specs.Table.{tabulate}
use Rattle.marks.specs.Marks.{all_of}
use Rattle.graph.specs.Links.{is_size, inside, graph_test}
use Rattle.graph.specs.Console.{unless}
use Rattle.engines.specs.Settings.{loss_accepted}
use Rattle.engines.specs.declared.network.RoundConf.{RoundConf}
use Rattle.capture.specs.Capture.{CeAnswer, answer_of, buffer_of}
use Rattle.capture.specs.declared.capture.CeState.{CeState}
use Rattle.engines_c.specs.Numbers.{truth, network_at, put_network}
use Rattle.engines_c.specs.Payloads.{held_fits, held_at, put_held}

-- a row of links for each position, empty ones where there are none
unfoldable pub links_of : List ℕ → List ℕ
links_of links = tabulate positions (λ i. get_or links i 0)

-- What the numbers of a call say of a round. A capture round reads no repeats.
abbrev pub conf_of : List ℕ → ℕ → Float → ℕ → ℕ → Float → ℕ → ℕ → RoundConf
conf_of links n p seed timeout loss interval slots =
    record {
      graph = record { n = n; adj = links_of links };
      settings =
          record {
            loss_rate = loss;
            abort_probability = p;
            seed = seed;
            listen_timeout = timeout;
            flood_repeats = 0;
            round_slots = slots;
            slots_given = true;
          };
      interval = interval;
      length = slots;
    }

-- Of the refusals that are known before the round is run the lowest: 2 and 3 of the links, 4 of the loss, 6 of the
-- interval, 8 of the initiator, 9 of what is held; each is told unless its test says yes.
unfoldable pub lowest_of : Tested → Bool → Bool → Bool → Bool → Tested
lowest_of links loss interval position held =
    result_and links (result_and (holds_or loss BadLoss)
    (result_and (holds_or interval NoInterval) (result_and (holds_or position NoPosition) (holds_or held BadPacket))))

-- .. which are those of an opening for 2, 3, 4 and 6, whether the initiator is a position, and whether the numbers stand
-- for payloads
unfoldable pub asked_test : RoundConf → ℕ → List ℕ → Tested
asked_test conf initiator xs =
    lowest_of (graph_test conf.graph) (loss_accepted conf.settings.loss_rate) (not (eqb conf.interval 0))
    (ltb initiator conf.graph.n) (held_fits xs 528 conf.graph.n)

-- The numbers of a state: slot, next row slot, bytes sent, rows used, cursor, whether the goal was met; from 8 on the
-- counts of the room, from 16 on the nodes, from 528 on what positions hold.
unfoldable pub state_at : List ℕ → CeState
state_at xs =
    record {
      network = network_at xs 2 8 16;
      held = held_at xs 528;
      draw = record { at = get_or xs 4 0; short = false };
      ended = truth (get_or xs 5 0);
    }

-- a state, and how many rows are used, as such numbers
unfoldable pub put_state : CeState → ℕ → List ℕ → List ℕ
put_state c used xs =
    put_held 528 c.held (put_network 2 8 16 c.network (sets xs 3 (used ∷ c.draw.at ∷ bool_byte c.ended ∷ [])))

-- the round that the numbers ask for
unfoldable pub told_of : List ℕ → List ℕ → ℕ → RoundConf → ℕ → CeAnswer
told_of xs ws len conf initiator = answer_of ws len (get_or xs 3 0) conf (state_at xs) initiator (get_or xs 4 0)

unfoldable pub rows_left : List ℕ → List ℕ → List ℕ → RoundConf → ℕ → List ℕ
rows_left xs ws rows conf initiator = buffer_of ws rows (get_or xs 3 0) conf (state_at xs) initiator (get_or xs 4 0)

-- what the call tells: why it is not run, or what the round tells
abbrev pub played_told : List ℕ → List ℕ → ℕ → RoundConf → ℕ → Tested
played_told xs ws len conf initiator = result_and (asked_test conf initiator xs) (told_of xs ws len conf initiator).told

abbrev pub state_left : List ℕ → List ℕ → ℕ → RoundConf → ℕ → List ℕ
state_left xs ws len conf initiator =
    let a = told_of xs ws len conf initiator in put_state a.state a.used xs

-- All that the entry answers to the numbers xs of a state and the lent rows: the refusal's number r, the numbers after
-- the call, and the rows after it. A refused call leaves both as they were.
pub record Answered (xs ws lent : List ℕ) (conf : RoundConf) (initiator r : ℕ) (after left : List ℕ) : Type 0 where
  pub refusal : r ≡ number (played_told xs ws (length lent) conf initiator)
  pub state : after ≡ unless r (state_left xs ws (length lent) conf initiator) xs
  pub rows : left ≡ unless r (rows_left xs ws lent conf initiator) lent

-- ---- no rules: what follows from these

-- A refused call leaves every number and every row as it was.
abbrev pub RefusedKeeps : Type 0
RefusedKeeps =
    (xs ws lent : List ℕ) (conf : RoundConf) (initiator r : ℕ) (after left : List ℕ)
    → Answered xs ws lent conf initiator r after left → 0 < r → (after ≡ xs) × (left ≡ lent)

-- the call is refused, by k or by a lower number
abbrev pub UpTo : ℕ → ℕ → Type 0
UpTo k r = (0 < r) × (r ≤ k)

-- The lowest number first, said of each refusal by itself, whatever else holds; and where none holds the answer is the
-- round's own. `lowest_first` of proofs/Lowest.antt says so of every r that a call answers.
pub record LowestFirst (xs ws : List ℕ) (numbers : ℕ) (conf : RoundConf) (initiator r : ℕ) : Type 0 where
  pub positions : is_size conf.graph.n ≡ false → UpTo bad_positions r
  pub links : all_of conf.graph.n (λ i. inside conf.graph.n (get_or conf.graph.adj i 0)) ≡ false
      → UpTo bad_links r
  pub loss : loss_accepted conf.settings.loss_rate ≡ false → UpTo bad_loss r
  pub interval : conf.interval ≡ 0 → UpTo no_interval r
  pub position : conf.graph.n ≤ initiator → UpTo no_position r
  pub held : held_fits xs 528 conf.graph.n ≡ false → UpTo bad_packet r
  pub round : 0 < number (told_of xs ws numbers conf initiator).told → UpTo (number (told_of xs ws numbers conf initiator).told) r
  -- and it is refused for nothing else
  pub otherwise : graph_test conf.graph ≡ Ok tt → loss_accepted conf.settings.loss_rate ≡ true
      → (conf.interval ≡ 0 → ⊥) → initiator < conf.graph.n → held_fits xs 528 conf.graph.n ≡ true
      → r ≡ number (told_of xs ws numbers conf initiator).told
