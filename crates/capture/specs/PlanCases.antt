-- RULES 8.3 and 8.4. Worked cases of a capture slot, computed over the rules themselves. Assumes nothing.
use Rattle.std.specs.Prelude.{◌≡◌, ℕ, true, false, List, [], ◌∷◌, take, refl, Float}
use Rattle.std.specs.Float.{binary64}
use Rattle.std.specs.Float.Ieee.{of_bits, of_fields, of_int, div, round, units, odd, size, span, climb, lt, le, eq}
use Rattle.loops.specs.Upto.{upto}
use Rattle.loops.specs.Downto.{downto}
use Rattle.loops.specs.Runs.{go}
use Rattle.marks.specs.Marks.{marks, count_of}
use Rattle.engines.specs.Marked.{over_marks, with_mark}
use Rattle.engines.specs.Words.{next_of, unit_of, coin_of, lost_of, pick_of, swap_step, shuffled}
use Rattle.engines.specs.Nodes.{no_node}
use Rattle.engines.specs.Settings.{is_lossy}
use Rattle.capture.specs.Turns.{next_state}
use Rattle.capture.specs.Plan.{timed_out, tossed1, coins_of, note_at, senders_of, examine1, first_kept, heard_from, capture_of, whom, tallied, capture_at, targets_of, captures_of, plan_after, plan_of}
use Rattle.engines.specs.declared.node.Node.{Node}
use Rattle.engines.specs.declared.node.NodeState.TheVariants.{Listen, Flood, Sleep}
use Rattle.capture.specs.Plan.{Plan}

-- ---- the plan of a slot

abbrev none : Float
none = of_bits binary64 0

abbrev half : Float
half = of_bits binary64 0x3FE0_0000_0000_0000

-- What a plan says of the first two positions.
abbrev short : Plan → List ℕ
short p = p.recovering ∷ p.draw.at ∷ p.ce_timeouts ∷ p.rx_attempts ∷ p.rx_success ∷ take 2 p.hears

abbrev two : List Node
two = no_node ∷ no_node ∷ []

abbrev coin_words : List ℕ
coin_words = 0xFFFF_FFFF_FFFF_FFFF ∷ 0 ∷ 0xFFFF_FFFF_FFFF_FFFF ∷ []

abbrev one_way : List ℕ
one_way = 0 ∷ 1 ∷ []

abbrev plan_two : ℕ → ℕ → ℕ → ℕ → List ℕ
plan_two slot listening flooding k =
    short (plan_of coin_words none one_way slot 1 two (record { listening = listening; flooding = flooding; sleeping = 0 }) (record { at = k; short = false }))

-- Two positions, of which 0 hears 1 and nobody hears 0; timeout 1; words no, yes, no. In slot 0 position 0 floods,
-- nobody is due, and 1 hears nobody. In slot 1 both listen and toss, and 1 recovers. In slot 2 position 1 floods; 0
-- tosses a no, and so stays a target, which hears 1.
recovery :
    (plan_two 0 2 1 0 ≡ 0 ∷ 0 ∷ 0 ∷ 0 ∷ 0 ∷ 64 ∷ 64 ∷ [])
    × (plan_two 1 3 0 0 ≡ 2 ∷ 2 ∷ 1 ∷ 0 ∷ 0 ∷ 64 ∷ 64 ∷ [])
    × (plan_two 2 1 2 2 ≡ 0 ∷ 3 ∷ 0 ∷ 1 ∷ 1 ∷ 1 ∷ 64 ∷ [])
unfolding upto downto go marks count_of over_marks with_mark next_of unit_of coin_of lost_of pick_of swap_step shuffled is_lossy timed_out tossed1 coins_of note_at senders_of examine1 first_kept heard_from capture_of whom tallied capture_at targets_of captures_of plan_after plan_of of_bits of_fields of_int div round units odd size span climb lt le eq
recovery = (refl, refl, refl)

-- With timeout 0 a position is due in every slot, also where nobody floods.
always : short (plan_of (0 ∷ []) none [] 5 0 two (record { listening = 1; flooding = 0; sleeping = 0 }) (record { at = 0; short = false })) ≡ 1 ∷ 1 ∷ 1 ∷ 0 ∷ 0 ∷ 64 ∷ 64 ∷ []
unfolding upto downto go marks count_of over_marks with_mark next_of unit_of coin_of lost_of pick_of swap_step shuffled is_lossy timed_out tossed1 coins_of note_at senders_of examine1 first_kept heard_from capture_of whom tallied capture_at targets_of captures_of plan_after plan_of of_bits of_fields of_int div round units odd size span climb lt le eq
always = refl

-- Position 0 hears 1, 2 and 3, which flood; loss one half. First the picks, for 2 and for 1: the order is 1, 3, 2.
-- Then the losses: 1 is lost, 3 survives, and 2 is not examined.
order : short (plan_of (4 ∷ 1 ∷ 0 ∷ 0xFFFF_FFFF_FFFF_FFFF ∷ 0 ∷ []) half (0 ∷ 1 ∷ 1 ∷ 1 ∷ []) 5 100 two (record { listening = 1; flooding = 14; sleeping = 0 }) (record { at = 0; short = false })) ≡ 0 ∷ 4 ∷ 0 ∷ 2 ∷ 1 ∷ 3 ∷ 64 ∷ []
unfolding upto downto go marks count_of over_marks with_mark next_of unit_of coin_of lost_of pick_of swap_step shuffled is_lossy timed_out tossed1 coins_of note_at senders_of examine1 first_kept heard_from capture_of whom tallied capture_at targets_of captures_of plan_after plan_of of_bits of_fields of_int div round units odd size span climb lt le eq
order = refl

-- The same with a loss of 0: no word but the picks is drawn, and the first sender is heard.
lossless : short (plan_of (4 ∷ 1 ∷ []) none (0 ∷ 1 ∷ 1 ∷ 1 ∷ []) 5 100 two (record { listening = 1; flooding = 14; sleeping = 0 }) (record { at = 0; short = false })) ≡ 0 ∷ 2 ∷ 0 ∷ 1 ∷ 1 ∷ 1 ∷ 64 ∷ []
unfolding upto downto go marks count_of over_marks with_mark next_of unit_of coin_of lost_of pick_of swap_step shuffled is_lossy timed_out tossed1 coins_of note_at senders_of examine1 first_kept heard_from capture_of whom tallied capture_at targets_of captures_of plan_after plan_of of_bits of_fields of_int div round units odd size span climb lt le eq
lossless = refl

-- A word is missing: the run goes on with 0, the cursor stays, and the lack is noted.
lacking : (plan_of [] none (0 ∷ 1 ∷ 1 ∷ []) 5 100 two (record { listening = 1; flooding = 6; sleeping = 0 }) (record { at = 9; short = false })).draw ≡ record { at = 9; short = true }
unfolding upto downto go marks count_of over_marks with_mark next_of unit_of coin_of lost_of pick_of swap_step shuffled is_lossy timed_out tossed1 coins_of note_at senders_of examine1 first_kept heard_from capture_of whom tallied capture_at targets_of captures_of plan_after plan_of of_bits of_fields of_int div round units odd size span climb lt le eq
lacking = refl

-- ---- next states

-- One that can sleep floods once more before it sleeps, and wakes again from sleep; any other sleeper sleeps on; a
-- flooder listens.
states :
    (next_state Flood false true ≡ Sleep)
    × (next_state Sleep false true ≡ Flood)
    × (next_state Listen false true ≡ Flood)
    × (next_state Flood true true ≡ Sleep)
    × (next_state Sleep false false ≡ Sleep)
    × (next_state Flood false false ≡ Listen)
    × (next_state Listen true false ≡ Flood)
unfolding next_state
states = (refl, refl, refl, refl, refl, refl, refl)
