-- A refused call keeps what it was lent, and of several refusals the lowest is told. Assumes nothing.
use mathlib.Core.Path.{◌≡◌, refl, sym, ◌∙◌}
use mathlib.Core.Bool.{Bool, true, false, not}
use mathlib.Core.List.{List}
use Prim.Native.Nat.{ℕ, ◌+◌, ◌≤◌, ◌<◌}
use native.Mathlib.Nat.{lt_irrefl}
use native.Mathlib.Omega.{arith}
use lib.Dec.{eqb, leb, ltb}
use lib.ListN.{length, get_or}
use borrow.Author.Tests.{eq-eqb, ne_eqb, le-ltb, lt-ltb}
use Rattle.std.specs.Prelude.{Ok, Err, is_ok}
use Rattle.limits.specs.Limits.{last_slot}
use Rattle.limits.specs.Refusals.{bad_positions, bad_links, bad_loss, no_interval, no_position, bad_packet}
use Rattle.std.specs.Result.{result_and}
use Rattle.limits.specs.declared.refusals.Refusal.{Refusal}
use Rattle.limits.specs.declared.refusals.Refusal.TheVariants.{BadPositions, BadLinks, TooLong, WordsShort, RowsShort}
use Rattle.limits.specs.Refusals.{answer_of as tell, number_of, Tested, holds_or, too_long}
use Rattle.limits.proofs.Tests.{number_some}
use Rattle.loops.specs.Pick.{either}
use Rattle.marks.specs.Marks.{all_of}
use Rattle.graph.specs.Links.{is_size, inside, size_test, all_inside, graph_test}
use Rattle.graph.specs.declared.network.NetworkGraph.{NetworkGraph}
use Rattle.graph.proofs.Entries.{unless_refused}
use Rattle.engines.specs.Settings.{loss_accepted}
use Rattle.engines.specs.Network.{length_test, late_test}
use Rattle.engines.specs.Rows.{rows_refused}
use Rattle.engines.specs.declared.network.RoundConf.{RoundConf}
use Rattle.capture.specs.Capture.{start_of, after_round, round_test, CeAnswer, answer_of}
use Rattle.capture.specs.declared.capture.CeState.{CeState}
use Rattle.engines_c.specs.Payloads.{held_fits}
use Rattle.engines_c.specs.Console.{lowest_of, asked_test, state_at, told_of, played_told, Answered, RefusedKeeps, UpTo, LowestFirst}

-- ---- what is kept

pub refused_keeps : RefusedKeeps
refused_keeps xs ws lent conf initiator r after left a h =
    let n : r ≡ 0 → ⊥ = λ z. omega arith in
    (a.state ∙ sym (unless_refused r _ _ n), a.rows ∙ sym (unless_refused r _ _ n))

-- ---- a graph is refused by 2 or 3

-- the number that the two tests of a graph come to
told_by : Bool → Bool → ℕ
told_by size rows = tell (result_and (holds_or size BadPositions) (holds_or rows BadLinks))

graph_low : (g : NetworkGraph) → tell (graph_test g) ≤ bad_links
unfolding graph_test size_test all_inside told_by
graph_low g = go (is_size g.n) (all_of g.n (λ i. inside g.n (get_or g.adj i 0)))
  where
    go : (size rows : Bool) → told_by size rows ≤ bad_links
    go true true = omega arith
    go true false = omega arith
    go false rows = omega arith

graph_size : (g : NetworkGraph) → is_size g.n ≡ false → tell (graph_test g) ≡ bad_positions
unfolding graph_test size_test
graph_size g h = rw h

graph_rows : (g : NetworkGraph) → all_of g.n (λ i. inside g.n (get_or g.adj i 0)) ≡ false → 0 < tell (graph_test g)
unfolding graph_test size_test all_inside told_by
graph_rows g h = rw h (go (is_size g.n))
  where
    go : (size : Bool) → 0 < told_by size false
    go true = omega arith
    go false = omega arith

-- ---- a round by 15 or more

-- t is no refusal, or one of those
abbrev High : Tested → Type 0
High t = 0 < tell t → too_long ≤ tell t

both_high : (x y : Tested) → High x → High y → High (result_and x y)
both_high (Ok u) y h k = k
both_high (Err r) y h k = h

test_high : (b : Bool) (r : Refusal) → too_long ≤ number_of r → High (holds_or b r)
test_high true r h z = absurd (lt_irrefl 0 z)
test_high false r h z = h

long_high : (conf : RoundConf) (slot : ℕ) → High (length_test conf slot)
unfolding length_test
long_high conf slot = test_high (leb (slot + conf.length) last_slot) TooLong (omega arith)

late_high : (numbers used : ℕ) (short : Bool) (due : ℕ) → High (late_test numbers used short due)
unfolding late_test
late_high numbers used short due =
    both_high (holds_or (not short) WordsShort) (holds_or (not (rows_refused numbers used due)) RowsShort)
    (test_high (not short) WordsShort (omega arith)) (test_high (not (rows_refused numbers used due)) RowsShort (omega arith))

round_high : (ws : List ℕ) (numbers used : ℕ) (conf : RoundConf) (s : CeState) → High (round_test ws numbers used conf s)
unfolding round_test
round_high ws numbers used conf s =
    both_high _ _ (long_high conf s.network.slot) (late_high numbers used (after_round ws conf s).draw.short _)

told_high : (xs ws : List ℕ) (numbers : ℕ) (conf : RoundConf) (initiator : ℕ)
    → High (told_of xs ws numbers conf initiator).told
unfolding told_of answer_of
told_high xs ws numbers conf initiator =
    let s = start_of conf initiator (get_or xs 4 0) (state_at xs) in
    pick (is_ok (round_test ws numbers (get_or xs 3 0) conf s)) _ _ (λ h. absurd (lt_irrefl 0 h))
    (round_high ws numbers (get_or xs 3 0) conf s)
  where
    pick : (b : Bool) (x y : CeAnswer) → High x.told → High y.told → High (either b x y).told
    pick true x y h k = h
    pick false x y h k = k

-- ---- all of them

-- g is what the test of the links tells, a to d say whether those of 4, 6, 8 and 9 say yes, t is what the round tells
abbrev told : Tested → Bool → Bool → Bool → Bool → Tested → ℕ
told g a b c d t = tell (result_and (lowest_of g a b c d) t)

links_first : (g : Tested) (a b c d : Bool) (t : Tested) → 0 < tell g → told g a b c d t ≡ tell g
unfolding lowest_of
links_first (Ok u) a b c d t h = absurd (lt_irrefl 0 h)
links_first (Err r) a b c d t h = refl

-- It is enough to look at calls whose links are not refused.
else_rest : (g : Tested) (a b c d : Bool) (t : Tested) (k : ℕ) → tell g ≤ bad_links → bad_links ≤ k → UpTo k (told (Ok tt) a b c d t)
    → UpTo k (told g a b c d t)
unfolding lowest_of
else_rest (Ok u) a b c d t k low high e = e
else_rest (Err r) a b c d t k low high e = (number_some r, omega arith)

loss_told : (b c d : Bool) (t : Tested) → UpTo bad_loss (told (Ok tt) false b c d t)
unfolding lowest_of
loss_told b c d t = (omega arith, omega arith)

interval_told : (a c d : Bool) (t : Tested) → UpTo no_interval (told (Ok tt) a false c d t)
unfolding lowest_of
interval_told false c d t = (omega arith, omega arith)
interval_told true c d t = (omega arith, omega arith)

position_told : (a b d : Bool) (t : Tested) → UpTo no_position (told (Ok tt) a b false d t)
unfolding lowest_of
position_told false b d t = (omega arith, omega arith)
position_told true false d t = (omega arith, omega arith)
position_told true true d t = (omega arith, omega arith)

held_told : (a b c : Bool) (t : Tested) → UpTo bad_packet (told (Ok tt) a b c false t)
unfolding lowest_of
held_told false b c t = (omega arith, omega arith)
held_told true false c t = (omega arith, omega arith)
held_told true true false t = (omega arith, omega arith)
held_told true true true t = (omega arith, omega arith)

round_told : (a b c d : Bool) (t : Tested) → 0 < tell t → too_long ≤ tell t → UpTo (tell t) (told (Ok tt) a b c d t)
unfolding lowest_of
round_told false b c d t h k = (omega arith, omega arith)
round_told true false c d t h k = (omega arith, omega arith)
round_told true true false d t h k = (omega arith, omega arith)
round_told true true true false t h k = (omega arith, omega arith)
round_told true true true true t h k = (h, omega arith)

module _ (xs ws : List ℕ) (numbers : ℕ) (conf : RoundConf) (initiator : ℕ) where
  abbrev g : Tested
  g = graph_test conf.graph

  abbrev a : Bool
  a = loss_accepted conf.settings.loss_rate

  abbrev b : Bool
  b = not (eqb conf.interval 0)

  abbrev c : Bool
  c = ltb initiator conf.graph.n

  abbrev d : Bool
  d = held_fits xs 528 conf.graph.n

  abbrev t : Tested
  t = (told_of xs ws numbers conf initiator).told

  behind : (k : ℕ) → bad_links ≤ k → UpTo k (told (Ok tt) a b c d t) → UpTo k (told g a b c d t)
  behind k h u = else_rest g a b c d t k (graph_low conf.graph) h u

  none_told : g ≡ Ok tt → loss_accepted conf.settings.loss_rate ≡ true → (conf.interval ≡ 0 → ⊥)
      → initiator < conf.graph.n → held_fits xs 528 conf.graph.n ≡ true
      → tell (played_told xs ws numbers conf initiator) ≡ tell t
  unfolding asked_test lowest_of
  none_told h1 h2 h3 h4 h5 =
      rw (h1, h2, ne_eqb conf.interval 0 h3, lt-ltb initiator conf.graph.n h4, h5)

  lowest_of_all : LowestFirst xs ws numbers conf initiator (tell (played_told xs ws numbers conf initiator))
  unfolding asked_test
  lowest_of_all =
      record {
        positions =
            λ h.
            rw (links_first g a b c d t (rw (graph_size conf.graph h) (omega arith)), graph_size conf.graph h)
            (omega arith, omega arith);
        links =
            λ h.
            let p = graph_rows conf.graph h in
            rw (links_first g a b c d t p) (p, graph_low conf.graph);
        loss = λ h. behind bad_loss (omega arith) (rw h (loss_told b c d t));
        interval = λ h. behind no_interval (omega arith) (rw (eq-eqb conf.interval 0 h) (interval_told a c d t));
        position =
            λ h.
            behind no_position (omega arith) (rw (le-ltb initiator conf.graph.n h) (position_told a b d t));
        held = λ h. behind bad_packet (omega arith) (rw h (held_told a b c t));
        round =
            λ h.
            let k = told_high xs ws numbers conf initiator h in
            behind (tell t) (omega arith) (round_told a b c d t h k);
        otherwise = none_told;
      }

pub lowest_first : {xs ws lent : List ℕ} {conf : RoundConf} {initiator r : ℕ} {after left : List ℕ}
    → Answered xs ws lent conf initiator r after left → LowestFirst xs ws (length lent) conf initiator r
lowest_first {xs} {ws} {lent} {conf} {initiator} a = rw a.refusal (lowest_of_all xs ws (length lent) conf initiator)
