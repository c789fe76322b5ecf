-- What the proofs of the flood lean on. Assumes nothing.
use Rattle.std.proofs.Common.{◌≡◌, ℕ, zero, suc, ◌+◌, ◌*◌, ◌/◌, ◌^◌, ◌<◌, ◌≤◌, Bool, true, false, not, cond, Option, Some, None, List, [], length, sym, refl, ap, ◌∙◌, true≢false, mul-le-mul, arith, length-append}
use Rattle.std.proofs.lemmas.Option.{none-some, cond_some}
use Rattle.loops.specs.Pick.{either}
use Rattle.loops.specs.Runs.{tell}
use Rattle.engines.specs.Network.{due_row, slot_row}
use Rattle.engines.specs.Nodes.{ticked_all}
use Rattle.engines.specs.Rows.{is_due, row_of, cells}
use Rattle.engines.specs.declared.rows.Row.{Row}
use Rattle.engines.specs.declared.network.Network.{Network}
use Rattle.engines.specs.Rounds.{rows_in, Surveyed}
use Rattle.engines.specs.declared.network.RoundConf.{RoundConf}
use Rattle.flood.specs.Flood.{flood_slot, is_over, flood_round, flood_rows, flooded_of}
use Rattle.flood.specs.declared.flood.FloodRun.{FloodRun}
use Rattle.engines.specs.declared.network.Survey.{Survey}

-- a length fits
pub length_fits : (d k : ℕ) → d ≤ 64 → k < 2 ^ 32 → (d + 2) * k < 2 ^ 64
length_fits d k h g = let p : (d + 2) * k ≤ 66 * 4294967296 = mul-le-mul {n₂ = 66} {m₂ = 4294967296} (omega arith) (omega arith) in omega arith

-- what the run without rows found out is what the flood tells
module _ (ws : List ℕ) (conf : RoundConf) (bytes : ℕ) (f : FloodRun) {t : FloodRun} {due : ℕ}
    (s : Surveyed (λ (r : FloodRun). r.network) is_over (flood_slot ws conf bytes) conf (λ r. r.draw) conf.length f t due) where
  pub flooded_short : t.draw.short ≡ true → None ≡ flooded_of ws conf bytes f
  unfolding flooded_of flood_round
  flooded_short e = rw (sym s.short ∙ e)

  pub flooded_whole : t.draw.short ≡ false → Some (record { run = t; due = due }) ≡ flooded_of ws conf bytes f
  unfolding flooded_of flood_round flood_rows
  flooded_whole e =
      let d : length (rows_in (λ (r : FloodRun). r.network) is_over (flood_slot ws conf bytes) conf conf.length f) / 5 ≡ due = omega (arith, s.rows e) in
      picked (flood_round ws conf bytes f).draw.short (sym s.short ∙ e) (rw (d, s.state e))
    where
      picked : (b : Bool) {r y : Option (Survey FloodRun)} → b ≡ false → r ≡ y → r ≡ cond (not b) y None
      picked b h g = rw h g

-- ---- what a caller makes of it

-- a row has five numbers
module _ (conf : RoundConf) where
  row_five : (w : Network) → length (slot_row conf w) / 5 * 5 ≡ length (slot_row conf w)
  unfolding slot_row due_row row_of
  row_five w = by (is_due w.next_row w.slot) (row_of w.next_row conf.graph.n (ticked_all conf.graph.n w.nodes))
    where
      by : (b : Bool) (r : Row) → length (either b (cells r) []) / 5 * 5 ≡ length (either b (cells r) [])
      by true r = refl
      by false r = refl

  both_five : (a b c : ℕ) → a / 5 * 5 ≡ a → b / 5 * 5 ≡ b → c ≡ a + b → c / 5 * 5 ≡ c
  both_five a b c p q e = omega arith

  tell_five : (slot : FloodRun → FloodRun) (k : ℕ) (b : Bool) (f : FloodRun)
      → length (tell is_over slot (λ g. slot_row conf g.network) k b f) / 5 * 5 ≡ length (tell is_over slot (λ g. slot_row conf g.network) k b f)
  unfolding tell
  tell_five slot zero b f = refl
  tell_five slot (suc k) true f = refl
  tell_five slot (suc k) false f =
      both_five _ _ _ (row_five f.network) (tell_five slot k (slot f).over (slot f)) (length-append (slot_row conf f.network) _)

module _ (ws : List ℕ) (conf : RoundConf) (bytes : ℕ) (f : FloodRun) where
  abbrev short : Bool
  short = (flood_round ws conf bytes f).draw.short

  -- words were enough, and this is the round
  pub record Told (x : Survey FloodRun) : Type 0 where
    pub enough : short ≡ false
    pub run : x.run ≡ flood_round ws conf bytes f
    pub due : x.due * 5 ≡ length (flood_rows ws conf bytes f)

  pub told_whole : {x : Survey FloodRun} → Some x ≡ flooded_of ws conf bytes f → Told x
  unfolding flooded_of flood_rows
  told_whole {x} v =
      let e = cond_some (not short) _ x (sym v) in
      record {
        enough = not-true short e.0;
        run = ap (λ (z : Survey FloodRun). z.run) (sym e.1);
        due = ap (λ (z : Survey FloodRun). z.due * 5) (sym e.1) ∙ tell_five conf (flood_slot ws conf bytes) conf.length f.over f;
      }
    where
      not-true : (b : Bool) → not b ≡ true → b ≡ false
      not-true false e = refl
      not-true true e = absurd (true≢false (sym e))

  pub told_short : None ≡ flooded_of ws conf bytes f → short ≡ true
  unfolding flooded_of
  told_short v = by short _ v
    where
      by : (b : Bool) (x : Survey FloodRun) → None ≡ cond (not b) (Some x) None → b ≡ true
      by true x e = refl
      by false x e = absurd (none-some x e)
