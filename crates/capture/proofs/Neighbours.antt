-- RULES 8.3 and 8.4: a target hears a flooding position that has it as neighbour, or nobody; and only a listening
-- position that is due recovers. Assumes nothing.
use Rattle.std.proofs.Common.{◌≡◌, ℕ, zero, suc, ◌+◌, ◌-◌, ◌<◌, ◌≤◌, Bool, true, false, Option, None, Some, ◌||◌, eqb, ltb, ◌⊎◌, List, [], ◌∷◌, length, get_or, set, replicate, sym, refl, ap, ◌∙◌, subst, inl, inr, ⊎_elim, true≢false, arith, length-set, get_or-set_other, get_or-set_same, eqb-true}
use lib.ListN.{length-replicate, get_or-replicate}
use lib.Ieee.{Float}
use borrow.Author.Tests.{eqb-false}
use Rattle.std.specs.Option.{IfSome, unwrap_or}
use Rattle.loops.specs.Pick.{either}
use Rattle.loops.specs.Upto.{upto, upto_holds}
use Rattle.loops.specs.Downto.{downto}
use Rattle.loops.specs.Runs.{go}
use Rattle.marks.specs.Marks.{has}
use Rattle.marks.specs.Laws.{has_none}
use Rattle.marks.specs.Sets.{and_true, has_marks}
use Rattle.engines.specs.Clamp.{at_most64}
use Rattle.engines.specs.Marked.{over_marks, with_mark}
use Rattle.engines.specs.Settings.{is_lossy}
use Rattle.engines.specs.Words.{next_of, coin_of, lost_of, pick_of, Order, swapped, swap_step, shuffled}
use Rattle.capture.specs.Plan.{Plan, timed_out, tossed1, toss_at, coins_of, Recovers, Senders, note_at, senders_of, examine1, is_found, unheard, first_kept, heard_from, capture_of, whom, Captured, capture_at, targets_in, none_yet, captures_of, plan_after, plan_of, Sender, Hears}
use Rattle.engines.proofs.Drawing.{pick_le}
use Rattle.capture.proofs.Hearing.{examined_more}
use Rattle.engines.specs.declared.words.Draw.{Draw}
use Rattle.engines.specs.declared.node.Node.{Node}
use Rattle.engines.specs.declared.node.StateSets.{StateSets}
use Rattle.engines.specs.Nodes.{no_node}
use Rattle.capture.specs.declared.plan.Coins.{Coins}
use Rattle.capture.specs.declared.plan.Heard.{Heard}

-- a store is seen at its place, and nowhere else
at_set : (P : ℕ → Type 0) (l : List ℕ) (i v d k : ℕ) → i < length l → (k ≡ i → P v) → ((k ≡ i → ⊥) → P (get_or l k d)) → P (get_or (set l i v) k d)
at_set P l i v d k h here there = by (eqb k i) refl
  where
    by : (b : Bool) → eqb k i ≡ b → P (get_or (set l i v) k d)
    by true e = let q : k ≡ i = eqb-true k i e in subst P (sym (ap (λ (x : ℕ). get_or (set l i v) x d) q ∙ get_or-set_same l i v d h)) (here q)
    by false e = let q : k ≡ i → ⊥ = eqb-false k i e in subst P (sym (get_or-set_other l i k v d q)) (there q)

module _ (Q : ℕ → Type 0) where
  -- a list whose first `count` numbers have a property
  record Good (ids : List ℕ) (count : ℕ) : Type 0 where
    pub long : length ids ≡ 64
    pub room : count ≤ 64
    pub all : (k : ℕ) → k < count → Q (get_or ids k 0)

  swap_good : (ids : List ℕ) (count i j : ℕ) → i < count → j ≤ i → Good ids count → Good (swapped i j ids) count
  swap_good ids count i j hi hj g =
      let first : length (set ids i (get_or ids j 0)) ≡ length ids = length-set ids i (get_or ids j 0) in
      record {
        long = length-set (set ids i (get_or ids j 0)) j (get_or ids i 0) ∙ first ∙ g.long;
        room = g.room;
        all = λ k l. at_set Q (set ids i (get_or ids j 0)) j (get_or ids i 0) 0 k (omega (arith, g.long, g.room)) (λ e. g.all i hi) (λ n. at_set Q ids i (get_or ids j 0) 0 k (omega (arith, g.long, g.room)) (λ e. g.all j (omega arith)) (λ m. g.all k l));
      }

  step_good : (ws : List ℕ) (i count : ℕ) (o : Order) → i < count → Good o.ids count → Good (swap_step ws i o).ids count
  unfolding swap_step
  step_good ws i count o h g = swap_good o.ids count i (pick_of (next_of ws o.draw).word i) h (pick_le (next_of ws o.draw).word i) g

  downto_good : (ws : List ℕ) (count n : ℕ) (o : Order) → n ≤ count - 1 → Good o.ids count → Good (downto n (swap_step ws) o).ids count
  unfolding downto
  downto_good ws count zero o h g = g
  downto_good ws count (suc n) o h g = downto_good ws count n (swap_step ws (suc n) o) (omega arith) (step_good ws (suc n) count o (omega arith) g)

  shuffled_good : (ws : List ℕ) (count : ℕ) (o : Order) → Good o.ids count → Good (shuffled ws count o).ids count
  unfolding shuffled
  shuffled_good ws count o g = downto_good ws count (at_most64 count - 1) o (omega arith) g

  -- whoever is found is one of them
  abbrev Found : Heard → Type 0
  Found h = IfSome h.src Q

  either_found : (b : Bool) (g h : Heard) → Found g → Found h → Found (either b g h)
  either_found true g h p q = p
  either_found false g h p q = q

  kept_if : (gone : Bool) (s : ℕ) → Q s → IfSome (either gone None (Some s)) Q
  kept_if true s q = tt
  kept_if false s q = q

  examined_good : (ws ids : List ℕ) (loss : Float) (count : ℕ) (h : Heard) → h.examined < count → Good ids count → Found (examine1 ws ids loss h)
  unfolding examine1
  examined_good ws ids loss count h l g =
      either_found (is_lossy loss) _ _ (kept_if (lost_of (next_of ws h.draw).word loss) (get_or ids h.examined 0) (g.all h.examined l)) (g.all h.examined l)

  go_good : (ws ids : List ℕ) (loss : Float) (count : ℕ) → Good ids count → (k : ℕ) (b : Bool) (h : Heard) → h.examined + k ≤ count → Found h → Found (go is_found (examine1 ws ids loss) k b h)
  unfolding go
  go_good ws ids loss count g zero b h l p = p
  go_good ws ids loss count g (suc k) true h l p = p
  go_good ws ids loss count g (suc k) false h l p =
      let n = examine1 ws ids loss h in
      go_good ws ids loss count g k (is_found n) n (omega (arith, examined_more ws ids loss h)) (examined_good ws ids loss count h (omega arith) g)

  kept_good : (ws : List ℕ) (loss : Float) (count : ℕ) (o : Order) → Good o.ids count → Found (first_kept ws loss count o)
  unfolding first_kept
  kept_good ws loss count o g = go_good ws o.ids loss count g count false (unheard o.draw) (omega arith) tt

module _ (links : List ℕ) (flooding t : ℕ) where
  abbrev Is : ℕ → Type 0
  Is s = Sender links flooding t s

  -- after n turns: at most n are noted
  record Noted (n : ℕ) (f : Senders) : Type 0 where
    pub good : Good Is f.ids f.count
    pub few' : f.count ≤ n

  note_good : (n : ℕ) (f : Senders) (a b : Bool) → n < 64 → has flooding n ≡ a → has (get_or links n 0) t ≡ b → Noted n f
      → Noted (suc n) (either {A = Senders} a (either b (record { ids = set f.ids f.count n; count = f.count + 1 }) f) f)
  note_good n f true true h ea eb p =
      record {
        good = record {
          long = length-set f.ids f.count n ∙ p.good.long;
          room = omega (arith, p.few');
          all = λ k l. at_set Is f.ids f.count n 0 k (omega (arith, p.few', p.good.long)) (λ e. record { position = h; floods = ea; linked = eb }) (λ m. p.good.all k (below k l m));
        };
        few' = omega (arith, p.few');
      }
    where
      below : (k : ℕ) → k < f.count + 1 → (k ≡ f.count → ⊥) → k < f.count
      below k l m = omega arith
  note_good n f true false h ea eb p = record { good = p.good; few' = omega (arith, p.few') }
  note_good n f false b h ea eb p = record { good = p.good; few' = omega (arith, p.few') }

  noted : (n : ℕ) → n ≤ 64 → Noted n (upto n (λ s f. either (has flooding s) (note_at links t s f) f) (record { ids = replicate 64 0; count = 0 }))
  unfolding upto note_at
  noted zero h =
      record {
        good = record { long = length-replicate {A = ℕ} 64 0; room = omega arith; all = λ k l. absurd (omega arith) };
        few' = omega arith;
      }
  noted (suc n) h =
      note_good n (upto n (λ s f. either (has flooding s) (note_at links t s f) f) (record { ids = replicate 64 0; count = 0 })) (has flooding n) (has (get_or links n 0) t) (omega arith) refl refl (noted n (omega arith))

  senders_good : Good Is (senders_of links flooding t).ids (senders_of links flooding t).count
  unfolding senders_of over_marks
  senders_good = (noted 64 (omega arith)).good

  pub capture_sender : (ws : List ℕ) (loss : Float) (d : Draw) → IfSome (capture_of ws loss links flooding t d).src (Sender links flooding t)
  unfolding capture_of heard_from
  capture_sender ws loss d =
      let f = senders_of links flooding t in
      kept_good Is ws loss f.count (shuffled ws f.count (record { ids = f.ids; draw = d })) (shuffled_good Is ws f.count (record { ids = f.ids; draw = d }) senders_good)

  whom_hears : (s : Option ℕ) → IfSome s (Sender links flooding t) → Hears links flooding t (unwrap_or s 64)
  whom_hears None p = inl refl
  whom_hears (Some s) p = inr p

-- every entry of a list of whom the targets hear
record Fair (links : List ℕ) (flooding : ℕ) (p : Captured) : Type 0 where
  pub long : length p.hears ≡ 64
  pub each : (t : ℕ) → Hears links flooding t (get_or p.hears t 64)

module _ (ws : List ℕ) (loss : Float) (links : List ℕ) (flooding : ℕ) where
  capture_fair : (i : ℕ) (p : Captured) → i < 64 → Fair links flooding p → Fair links flooding (capture_at ws loss links flooding i p)
  unfolding capture_at whom
  capture_fair i p h q =
      let c = capture_of ws loss links flooding i p.tally.draw in
      record {
        long = length-set p.hears i (whom c) ∙ q.long;
        each = λ t. at_set (λ s. Hears links flooding t s) p.hears i (whom c) 64 t (omega (arith, q.long))
            (λ e. subst (λ (x : ℕ). Hears links flooding x (whom c)) (sym e) (whom_hears links flooding i c.src (capture_sender links flooding i ws loss p.tally.draw)))
            (λ n. q.each t);
      }

  either_fair : (b : Bool) (p q : Captured) → Fair links flooding p → Fair links flooding q → Fair links flooding (either b p q)
  either_fair true p q x y = x
  either_fair false p q x y = y

  start_fair : (d : Draw) → Fair links flooding (none_yet d)
  start_fair d = record { long = length-replicate {A = ℕ} 64 64; each = λ t. inl (all_64 64 t) }
    where
      all_64 : (n t : ℕ) → ◌≡◌ {A = ℕ} (get_or (replicate n 64) t 64) 64
      all_64 zero t = refl
      all_64 (suc n) zero = refl
      all_64 (suc n) (suc t) = all_64 n t

  captures_fair : (targets : ℕ) (d : Draw) → Fair links flooding (captures_of ws loss links targets flooding d)
  unfolding captures_of over_marks
  captures_fair targets d =
      upto_holds (Fair links flooding) (λ i p. either (has targets i) (capture_at ws loss links flooding i p) p) 64 (λ i p l q. either_fair (has targets i) (capture_at ws loss links flooding i p) p (capture_fair i p l q) q) (none_yet d) (start_fair d)

-- In a plan every position hears nobody, or a flooding position that has it as neighbour.
pub plan_hears : (ws : List ℕ) (loss : Float) (links : List ℕ) (slot timeout : ℕ) (nodes : List Node) (s : StateSets) (d : Draw) (t : ℕ) → Hears links s.flooding t (get_or (plan_of ws loss links slot timeout nodes s d).hears t 64)
unfolding plan_of plan_after
plan_hears ws loss links slot timeout nodes s d t =
    let c = coins_of ws slot timeout nodes s.listening d in
    (captures_fair ws loss links s.flooding (targets_in s c.recovering) c.draw).each t

-- ---- who recovers

module _ (slot timeout : ℕ) (nodes : List Node) (listening : ℕ) where
  -- every mark is that of a listening position that is due
  abbrev Due : Coins → Type 0
  Due c = (j : ℕ) → has c.recovering j ≡ true → Recovers slot timeout nodes listening j

  marked : (m i j : ℕ) → has (with_mark m i) j ≡ true → (has m j ≡ true) ⊎ (j ≡ i)
  unfolding with_mark
  marked m i j e = by (has m j) (eqb j i) refl refl (and_true (ltb j 64) (has m j || eqb j i) (sym (has_marks 64 (λ k. has m k || eqb k i) j) ∙ e)).1
    where
      by : (a b : Bool) → has m j ≡ a → eqb j i ≡ b → (a || b) ≡ true → (has m j ≡ true) ⊎ (j ≡ i)
      by true b ea eb q = inl ea
      by false true ea eb q = inr (eqb-true j i eb)
      by false false ea eb q = absurd (let z : ◌≡◌ {A = ℕ} 0 1 = cc in omega arith)

  toss_due : (ws : List ℕ) (i : ℕ) (c : Coins) (a b y : Bool) → has listening i ≡ a → timed_out slot timeout (get_or nodes i no_node) ≡ b → Due c
      → Due (either {A = Coins} a (either b (record { recovering = either y (with_mark c.recovering i) c.recovering; draw = (next_of ws c.draw).draw }) c) c)
  toss_due ws i c true true true ea eb q = λ j e. ⊎_elim (λ h. q j h) (λ h. subst (Recovers slot timeout nodes listening) (sym h) (record { listens = ea; due = eb })) (marked c.recovering i j e)
  toss_due ws i c true true false ea eb q = q
  toss_due ws i c true false y ea eb q = q
  toss_due ws i c false b y ea eb q = q

  coins_due : (ws : List ℕ) (d : Draw) → Due (coins_of ws slot timeout nodes listening d)
  unfolding coins_of over_marks tossed1
  coins_due ws d =
      upto_holds Due (λ i c. either (has listening i) (toss_at ws slot timeout nodes i c) c) 64
      (λ i c l q. toss_due ws i c (has listening i) (timed_out slot timeout (get_or nodes i no_node)) (coin_of (next_of ws c.draw).word) refl refl q)
      (record { recovering = 0; draw = d })
      (λ j e. absurd (no (sym (has_none j) ∙ e)))
    where
      no : false ≡ true → ⊥
      no e = let z : ◌≡◌ {A = ℕ} 0 1 = cc in omega arith

-- In a plan only listening positions that are due recover.
pub plan_recovers : (ws : List ℕ) (loss : Float) (links : List ℕ) (slot timeout : ℕ) (nodes : List Node) (s : StateSets) (d : Draw) (i : ℕ) → has (plan_of ws loss links slot timeout nodes s d).recovering i ≡ true → Recovers slot timeout nodes s.listening i
unfolding plan_of plan_after
plan_recovers ws loss links slot timeout nodes s d i e = coins_due slot timeout nodes s.listening ws d i e

-- ---- who hears nobody

-- a capture tells of its target alone
other_heard : (ws : List ℕ) (loss : Float) (links : List ℕ) (flooding i : ℕ) (p : Captured) (t : ℕ) → (t ≡ i → ⊥) → get_or (capture_at ws loss links flooding i p).hears t 0 ≡ get_or p.hears t 0
unfolding capture_at
other_heard ws loss links flooding i p t n = get_or-set_other p.hears i t (whom (capture_of ws loss links flooding i p.tally.draw)) 0 n

pub any_default : (l : List ℕ) (i d e : ℕ) → i < length l → get_or l i d ≡ get_or l i e
any_default [] i d e h = absurd (omega arith)
any_default (x ∷ l) zero d e h = refl
any_default (x ∷ l) (suc i) d e h = any_default l i d e (omega arith)

module _ (ws : List ℕ) (loss : Float) (links : List ℕ) (slot timeout : ℕ) (nodes : List Node) (s : StateSets) (d : Draw) where
  abbrev plan : Plan
  plan = plan_of ws loss links slot timeout nodes s d

  pub plan_long : length plan.hears ≡ 64
  unfolding plan_of plan_after
  plan_long =
      let c = coins_of ws slot timeout nodes s.listening d in
      (captures_fair ws loss links s.flooding (targets_in s c.recovering) c.draw).long

  pub plan_heard : (t : ℕ) → t < 64 → Hears links s.flooding t (get_or plan.hears t 0)
  plan_heard t h = subst (Hears links s.flooding t) (any_default plan.hears t 64 0 (omega (arith, plan_long))) (plan_hears ws loss links slot timeout nodes s d t)

  -- a position that is no target hears nobody
  pub plan_others : (t : ℕ) → t < 64 → has (targets_in s plan.recovering) t ≡ false → get_or plan.hears t 0 ≡ 64
  unfolding plan_of plan_after captures_of over_marks
  plan_others t h e =
      upto_holds (λ (p : Captured). get_or p.hears t 0 ≡ 64) (λ i p. either (has targets i) (capture_at ws loss links s.flooding i p) p) 64
      (λ i p l q. by i p (has targets i) refl q) (none_yet coins.draw) (get_or-replicate 64 t 64 0 h)
    where
      coins : Coins
      coins = coins_of ws slot timeout nodes s.listening d

      targets : ℕ
      targets = targets_in s coins.recovering

      by : (i : ℕ) (p : Captured) (b : Bool) → has targets i ≡ b → get_or p.hears t 0 ≡ 64 → get_or (either b (capture_at ws loss links s.flooding i p) p).hears t 0 ≡ 64
      by i p true f q = other_heard ws loss links s.flooding i p t (λ z. true≢false (sym f ∙ ap (λ (k : ℕ). has targets k) (sym z) ∙ e)) ∙ q
      by i p false f q = q
