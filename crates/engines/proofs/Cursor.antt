-- RULES 3.1, 3.5, and refusal 16: over any draws the cursor only rises, a lack of words stays noted, and as long as
-- none is noted every word drawn lies in the list. Assumes nothing.
use Rattle.std.proofs.Common.{◌≡◌, ℕ, zero, suc, ◌+◌, ◌-◌, ◌≤◌, max, Bool, true, false, ltb, List, length, get_or, refl, arith, ltb-true}
use Rattle.loops.specs.Pick.{either}
use Rattle.loops.specs.Upto.{upto}
use Rattle.loops.specs.Downto.{downto}
use Rattle.loops.specs.Runs.{go}
use Rattle.marks.specs.Marks.{has}
use Rattle.engines.specs.Clamp.{at_most64}
use Rattle.engines.specs.Marked.{over_marks}
use Rattle.engines.specs.Words.{next_of, Order, swap_step, shuffled}
use Rattle.engines.specs.declared.words.Draw.{Draw}
use Rattle.engines.specs.declared.words.Drawn.{Drawn}

-- e is a cursor that draws have brought d to
pub record Later (ws : List ℕ) (d e : Draw) : Type 0 where
  pub rises : d.at ≤ e.at
  pub stays : d.short ≡ true → e.short ≡ true
  pub inside : e.at ≤ max d.at (length ws)

module _ (ws : List ℕ) where
  pub later_same : (d : Draw) → Later ws d d
  later_same d = record { rises = omega arith; stays = λ e. e; inside = omega arith }

  pub later_trans : {d e f : Draw} → Later ws d e → Later ws e f → Later ws d f
  later_trans {d} {e} {f} p q = record { rises = omega (arith, p.rises, q.rises); stays = λ h. q.stays (p.stays h); inside = omega (arith, p.inside, q.inside) }

  -- one draw
  pub next_later : (d : Draw) → Later ws d (next_of ws d).draw
  unfolding next_of
  next_later d = by (ltb d.at (length ws)) refl
    where
      by : (b : Bool) → ltb d.at (length ws) ≡ b → Later ws d (either {A = Drawn} b (record { word = get_or ws d.at 0; draw = record { at = d.at + 1; short = d.short } }) (record { word = 0; draw = record { at = d.at; short = true } })).draw
      by true e = let h = ltb-true d.at (length ws) e in record { rises = omega arith; stays = λ s. s; inside = omega arith }
      by false e = record { rises = omega arith; stays = λ s. refl; inside = omega arith }

  -- loops whose turns do so
  module _ {S : Type 0} (g : S → Draw) where
    pub upto_later : (f : ℕ → S → S) → ((i : ℕ) (s : S) → Later ws (g s) (g (f i s))) → (n : ℕ) (s : S) → Later ws (g s) (g (upto n f s))
    unfolding upto
    upto_later f h zero s = later_same (g s)
    upto_later f h (suc n) s = later_trans (upto_later f h n s) (h n (upto n f s))

    pub downto_later : (f : ℕ → S → S) → ((i : ℕ) (s : S) → Later ws (g s) (g (f i s))) → (n : ℕ) (s : S) → Later ws (g s) (g (downto n f s))
    unfolding downto
    downto_later f h zero s = later_same (g s)
    downto_later f h (suc n) s = later_trans (h (suc n) s) (downto_later f h n (f (suc n) s))

    pub either_later : (d : Draw) (b : Bool) (s t : S) → Later ws d (g s) → Later ws d (g t) → Later ws d (g (either b s t))
    either_later d true s t p q = p
    either_later d false s t p q = q

    pub marks_later : (f : ℕ → S → S) → ((i : ℕ) (s : S) → Later ws (g s) (g (f i s))) → (m : ℕ) (s : S) → Later ws (g s) (g (over_marks m f s))
    unfolding over_marks
    marks_later f h m s = upto_later (λ i t. either (has m i) (f i t) t) (λ i t. either_later (g t) (has m i) (f i t) t (h i t) (later_same (g t))) 64 s

    pub go_later : (stop : S → Bool) (f : S → S) → ((s : S) → Later ws (g s) (g (f s))) → (k : ℕ) (b : Bool) (s : S) → Later ws (g s) (g (go stop f k b s))
    unfolding go
    go_later stop f h zero b s = later_same (g s)
    go_later stop f h (suc k) true s = later_same (g s)
    go_later stop f h (suc k) false s = later_trans (h s) (go_later stop f h k (stop (f s)) (f s))

  swap_later : (i : ℕ) (o : Order) → Later ws o.draw (swap_step ws i o).draw
  unfolding swap_step
  swap_later i o = next_later o.draw

  pub shuffled_later : (count : ℕ) (o : Order) → Later ws o.draw (shuffled ws count o).draw
  unfolding shuffled
  shuffled_later count o = downto_later (λ (o : Order). o.draw) (swap_step ws) swap_later (at_most64 count - 1) o
