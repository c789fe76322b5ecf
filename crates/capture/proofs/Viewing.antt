-- What board and table show, position by position; and what slots in which no state changes do to it. Assumes nothing.
use Rattle.std.proofs.Common.{◌≡◌, ℕ, zero, suc, ◌+◌, ◌-◌, ◌/◌, ◌^◌, ◌<◌, ◌≤◌, Bool, true, false, ◌&&◌, ltb, List, length, get_or, sym, refl, ap, ◌∙◌, arith, ltb-true, le-ltb, lt-ltb}
use Rattle.loops.specs.Pick.{either}
use Rattle.loops.specs.Wrap.{add64}
use Rattle.marks.specs.Marks.{has, marks}
use Rattle.marks.specs.Laws.{same, has_half, has_none}
use Rattle.marks.specs.Sets.{marks_is}
use Rattle.engines.specs.Clamp.{at_most64}
use Rattle.engines.specs.Columns.{cell, raised_by}
use Rattle.engines.specs.Nodes.{no_node, is_listen, is_flood, is_sleep, listens, floods, sleeps, sets_of, ticked, tick_at, ticked_all}
use Rattle.engines.specs.Stretch.{passed, passed_all}
use Rattle.engines.specs.declared.node.Node.{Node}
use Rattle.engines.specs.declared.node.StateSets.{StateSets}
use Rattle.engines.specs.declared.node.NodeState.{NodeState}
use Rattle.engines.specs.declared.node.NodeState.TheVariants.{Listen, Flood, Sleep}
use Rattle.engines.proofs.Cells.{cells_own, cells_other, cells_apart, cells_length}
use Rattle.engines.proofs.Places.{view_step}
use Rattle.capture.specs.Boards.{last_at, listen_at, flood_at, sleep_at, state_by, Split, node_by, nodes_by, passed_cells}

-- ---- words

grows : (n : ℕ) → n < 2 ^ n
grows zero = omega arith
grows (suc n) = let h = grows n in omega arith

no_marks : (m : ℕ) → ((j : ℕ) → has m j ≡ false) → m ≡ 0
no_marks m h = same m m 0 (grows m) (let g = grows m in omega arith) (λ j l. h j ∙ sym (has_none j))

-- a number without a mark from k on
few_marks : (k m : ℕ) → ((j : ℕ) → k ≤ j → has m j ≡ false) → m < 2 ^ k
few_marks zero m h = let z = no_marks m (λ j. h j (omega arith)) in omega arith
few_marks (suc k) m h = let z = few_marks k (m / 2) (λ j l. has_half m j ∙ h (suc j) (omega arith)) in omega arith

-- ---- the sets of states

-- a position below n is in the set of its state, and no other position is in one
pub below : (i n : ℕ) (b : Bool) {a : Bool} → i < n → a ≡ (ltb i n && b) → a ≡ b
below i n b h e = e ∙ ap (λ (t : Bool). t && b) (lt-ltb i n h)

pub above : (i n : ℕ) (b : Bool) {a : Bool} → n ≤ i → a ≡ (ltb i n && b) → a ≡ false
above i n b h e = e ∙ ap (λ (t : Bool). t && b) (le-ltb i n h)

split_small : (n m : ℕ) (f : ℕ → Bool) → ((i : ℕ) → has m i ≡ (ltb i (at_most64 n) && f i)) → m < 2 ^ 64
split_small n m f e = few_marks 64 m (λ j h. above j (at_most64 n) (f j) (omega arith) (e j))

-- the sets are those of the positions that they show
module _ (n : ℕ) (s : StateSets) (o : Split n s) (l : List Node) (at : (i : ℕ) → i < at_most64 n → (get_or l i no_node).state ≡ state_by s i) where
  word_is : (m : ℕ) (f : NodeState → Bool) → ((i : ℕ) → has m i ≡ (ltb i (at_most64 n) && f (state_by s i))) → m ≡ marks (at_most64 n) (λ i. f (get_or l i no_node).state)
  word_is m f e =
      marks_is (at_most64 n) (λ i. f (get_or l i no_node).state) m (omega arith) (split_small n m (λ i. f (state_by s i)) e) (λ j. e j ∙ by j (ltb j (at_most64 n)) refl)
    where
      by : (j : ℕ) (t : Bool) → ltb j (at_most64 n) ≡ t → (t && f (state_by s j)) ≡ (t && f (get_or l j no_node).state)
      by j true q = ap f (sym (at j (ltb-true j (at_most64 n) q)))
      by j false q = refl

  pub sets_is : s ≡ sets_of n l
  unfolding sets_of listens floods sleeps
  sets_is = rw (word_is s.listening is_listen o.listening, word_is s.flooding is_flood o.flooding, word_is s.sleeping is_sleep o.sleeping)

-- ---- counts

-- the numbers of a table after k slots in which no state changes
module _ (s : StateSets) (k : ℕ) (x : List ℕ) (long : length x ≡ 576) where
  abbrev one : List ℕ
  one = raised_by listen_at s.listening k x

  abbrev two : List ℕ
  two = raised_by flood_at s.flooding k one

  long_one : length one ≡ 576
  unfolding raised_by
  long_one = cells_length listen_at (λ v. add64 v k) s.listening x ∙ long

  long_two : length two ≡ 576
  unfolding raised_by
  long_two = cells_length flood_at (λ v. add64 v k) s.flooding one ∙ long_one

  pub passed_length : length (passed_cells s k x) ≡ 576
  unfolding passed_cells raised_by
  passed_length = cells_length sleep_at (λ v. add64 v k) s.sleeping two ∙ long_two

  -- what is in none of the three columns stays
  pub passed_other : (p i : ℕ) → i < 64 → ((j : ℕ) → j < 64 → p + i ≡ 64 + j → ⊥) → ((j : ℕ) → j < 64 → p + i ≡ 128 + j → ⊥) → ((j : ℕ) → j < 64 → p + i ≡ 192 + j → ⊥)
      → cell (passed_cells s k x) p i ≡ cell x p i
  unfolding passed_cells raised_by
  passed_other p i h a b c =
      cells_other sleep_at (λ v. add64 v k) s.sleeping two p i h c ∙ cells_other flood_at (λ v. add64 v k) s.flooding one p i h b
      ∙ cells_other listen_at (λ v. add64 v k) s.listening x p i h a

  pub passed_listen : (i : ℕ) → i < 64 → cell (passed_cells s k x) listen_at i ≡ either (has s.listening i) (add64 (cell x listen_at i) k) (cell x listen_at i)
  unfolding passed_cells raised_by
  passed_listen i h =
      cells_other sleep_at (λ v. add64 v k) s.sleeping two listen_at i h (λ j l e. omega arith)
      ∙ cells_other flood_at (λ v. add64 v k) s.flooding one listen_at i h (λ j l e. omega arith)
      ∙ cells_own listen_at (λ v. add64 v k) s.listening x i h (omega arith)

  pub passed_flood : (i : ℕ) → i < 64 → cell (passed_cells s k x) flood_at i ≡ either (has s.flooding i) (add64 (cell x flood_at i) k) (cell x flood_at i)
  unfolding passed_cells raised_by
  passed_flood i h =
      cells_other sleep_at (λ v. add64 v k) s.sleeping two flood_at i h (λ j l e. omega arith)
      ∙ cells_own flood_at (λ v. add64 v k) s.flooding one i h (omega (arith, long_one))
      ∙ ap (λ (z : ℕ). either (has s.flooding i) (add64 z k) z) (cells_other listen_at (λ v. add64 v k) s.listening x flood_at i h (λ j l e. omega arith))

  pub passed_sleep : (i : ℕ) → i < 64 → cell (passed_cells s k x) sleep_at i ≡ either (has s.sleeping i) (add64 (cell x sleep_at i) k) (cell x sleep_at i)
  unfolding passed_cells raised_by
  passed_sleep i h =
      cells_own sleep_at (λ v. add64 v k) s.sleeping two i h (omega (arith, long_two))
      ∙ ap (λ (z : ℕ). either (has s.sleeping i) (add64 z k) z)
      (cells_other flood_at (λ v. add64 v k) s.flooding one sleep_at i h (λ j l e. omega arith) ∙ cells_other listen_at (λ v. add64 v k) s.listening x sleep_at i h (λ j l e. omega arith))

  -- the numbers behind the counts are as they were
  pub passed_rest : (q : ℕ) → 256 ≤ q → get_or (passed_cells s k x) q 0 ≡ get_or x q 0
  unfolding passed_cells raised_by
  passed_rest q h =
      cells_apart sleep_at (λ v. add64 v k) s.sleeping two q (λ j l e. omega arith) ∙ cells_apart flood_at (λ v. add64 v k) s.flooding one q (λ j l e. omega arith)
      ∙ cells_apart listen_at (λ v. add64 v k) s.listening x q (λ j l e. omega arith)

-- a position whose state stays, told by the tests of its state
pass_told : (k : ℕ) (t : NodeState) (last : ℕ) (goal : Bool) (p a b c : ℕ)
    → ◌≡◌ {A = Node}
    (record { state = t; flood_remaining = 0; last_progress_slot = last; goal_reached = goal; progress_count = p; slots_listen = either (is_listen t) (add64 a k) a; slots_flood = either (is_flood t) (add64 b k) b; slots_sleep = either (is_sleep t) (add64 c k) c })
    (passed k (record { state = t; flood_remaining = 0; last_progress_slot = last; goal_reached = goal; progress_count = p; slots_listen = a; slots_flood = b; slots_sleep = c }))
unfolding passed
pass_told k Listen last goal p a b c = refl
pass_told k Flood last goal p a b c = let z : 0 - k ≡ 0 = omega arith in rw z
pass_told k Sleep last goal p a b c = refl

tick_passes : (t : NodeState) (v : Node) → v.state ≡ t → v.flood_remaining ≡ 0 → passed 1 v ≡ ticked v
unfolding passed ticked
tick_passes Listen v e z = rw e
tick_passes Flood v e z = rw (e, z)
tick_passes Sleep v e z = rw e

module _ (n : ℕ) (s : StateSets) (o : Split n s) (goal k : ℕ) (x : List ℕ) (long : length x ≡ 576) where
  pass_node : (i : ℕ) → i < at_most64 n → (v : Node) → node_by s goal (passed_cells s k x) i v ≡ passed k (node_by s goal x i v)
  unfolding node_by
  pass_node i h v =
      rw (
        passed_other s k x long last_at i (omega arith) (λ j l e. omega arith) (λ j l e. omega arith) (λ j l e. omega arith),
        passed_listen s k x long i (omega arith),
        passed_flood s k x long i (omega arith),
        passed_sleep s k x long i (omega arith),
        below i (at_most64 n) (is_listen (state_by s i)) h (o.listening i),
        below i (at_most64 n) (is_flood (state_by s i)) h (o.flooding i),
        below i (at_most64 n) (is_sleep (state_by s i)) h (o.sleeping i),
      )
      (pass_told k (state_by s i) (cell x last_at i) (has goal i) v.progress_count (cell x listen_at i) (cell x flood_at i) (cell x sleep_at i))

  module _ (base : List Node) (whole : length base ≡ 64) where
    pub nodes_passed : nodes_by n base s goal (passed_cells s k x) ≡ passed_all n k (nodes_by n base s goal x)
    unfolding nodes_by passed_all
    nodes_passed =
        view_step no_node base (at_most64 n) (omega arith) (node_by s goal x) (λ i v. passed k v) (node_by s goal (passed_cells s k x)) (λ i h. pass_node i h (get_or base i no_node))

none_left : (s : StateSets) (goal : ℕ) (x : List ℕ) (i : ℕ) (v : Node) → (node_by s goal x i v).flood_remaining ≡ 0
unfolding node_by
none_left s goal x i v = refl

pub nodes_ticked : (n : ℕ) (s : StateSets) (goal : ℕ) (x : List ℕ) (base : List Node) → Split n s → length x ≡ 576 → length base ≡ 64
    → nodes_by n base s goal (passed_cells s 1 x) ≡ ticked_all n (nodes_by n base s goal x)
unfolding nodes_by ticked_all tick_at
nodes_ticked n s goal x base o long whole =
    view_step no_node base (at_most64 n) (omega arith) (node_by s goal x) (λ i v. ticked v) (node_by s goal (passed_cells s 1 x))
    (λ i h. pass_node n s o goal 1 x long i h (get_or base i no_node) ∙ ticks i (get_or base i no_node))
  where
    ticks : (i : ℕ) (v : Node) → passed 1 (node_by s goal x i v) ≡ ticked (node_by s goal x i v)
    ticks i v = tick_passes (node_by s goal x i v).state (node_by s goal x i v) refl (none_left s goal x i v)
