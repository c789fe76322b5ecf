-- What positions hold, told by phases and table: read, sent, tested for the goal, and written. Assumes nothing.
use Rattle.std.proofs.Common.{◌≡◌, ℕ, zero, suc, ◌+◌, ◌*◌, ◌%◌, ◌<◌, ◌≤◌, Bool, true, false, not, ◌&&◌, ◌||◌, eqb, ltb, leb, List, [], ◌∷◌, length, get_or, set, sym, refl, ap, ◌∙◌, true≢false, mod-eq_of_lt, arith, get_or-set_other, get_or-set_same, eq-eqb, ne_eqb, eqb-true, leb-true}
use borrow.Author.Tests.{eqb-false}
use Rattle.limits.specs.Limits.{positions}
use Rattle.loops.specs.Pick.{either}
use Rattle.loops.specs.Upto.{upto_same}
use Rattle.marks.specs.Marks.{has, all_of}
use Rattle.packets.specs.Packets.{ce_text, ce_within}
use Rattle.packets.specs.Writing.{text_len, data_len, parts_len}
use Rattle.packets.specs.declared.CeTwoPcPacket.{CeTwoPcPacket}
use Rattle.packets.specs.declared.TwoPcPhase.{TwoPcPhase}
use Rattle.packets.specs.declared.TwoPcPhase.TheVariants.{Prepare, Committed, Aborted}
use Rattle.packets.proofs.Lengths.{parts_is}
use Rattle.merges.specs.Merging.{no_payload, rank_of, standing_by, standing_of, goal_of, can_sleep_of, unanimous_of, all_hold, network_goal_of}
use Rattle.merges.specs.Slips.{packet_of}
use Rattle.merges.specs.declared.merging.Slip.{Slip}
use Rattle.merges.specs.declared.merging.Held.{Held}
use Rattle.merges.specs.declared.merging.Held.TheVariants.{Empty, Unreadable, Packet}
use Rattle.merges.specs.declared.merging.Payload.{Payload}
use Rattle.loops.specs.Wrap.{add64}
use Rattle.engines.specs.Clamp.{at_most64}
use Rattle.engines.specs.Marked.{over_marks}
use Rattle.engines.specs.Columns.{cell}
use Rattle.engines.specs.Network.{on_air}
use Rattle.engines.proofs.Cells.{row_length, row_other, row_own}
use Rattle.engines.proofs.Places.{view_get, view_same, view_put, view_length}
use Rattle.capture.specs.Ce.{len_by, payload_len, sent_at, sent_of}
use Rattle.capture.specs.Boards.{term_at, len_at, marks_at, from_at, data_at, holds_by, phase_by, held_by, slip_by, data_in, payload_by, payloads_by, ShownHeld, length_by, sent_by, decided_by, rests_by, Written, goal_by}
use Rattle.capture.specs.declared.board.Phases.{Phases}
use Rattle.capture.specs.declared.ce.Told.{Told}

-- ---- reading

abbrev holding : CeTwoPcPacket → Payload
holding p = record { held = Packet; packet = p }

-- a test of what is held
abbrev pub packet : Held → Bool
packet Empty = false
packet Unreadable = false
packet Packet = true

-- two tests that say the same of each number below k
pub all_same : (f g : ℕ → Bool) (k : ℕ) → ((i : ℕ) → i < k → f i ≡ g i) → all_of k f ≡ all_of k g
unfolding all_of
all_same f g zero e = refl
all_same f g (suc k) e = rw (all_same f g k (λ i h. e i (omega arith)), e k (omega arith))

module _ {n : ℕ} {base : List Payload} {p : Phases} {rests : ℕ} {x : List ℕ} {held : List Payload} (o : ShownHeld n base p rests x held) where
  pub held_length : length held ≡ 64
  unfolding payloads_by
  held_length = ap length (sym o.sees) ∙ view_length no_payload base (at_most64 n) (omega (arith, o.whole)) (payload_by base p x) ∙ o.whole

  pub held_at : (i : ℕ) → i < at_most64 n → get_or held i no_payload ≡ payload_by base p x i (get_or base i no_payload)
  unfolding payloads_by
  held_at i h = ap (λ (l : List Payload). get_or l i no_payload) (sym o.sees) ∙ view_get no_payload base (at_most64 n) (omega (arith, o.whole)) (payload_by base p x) i h

  -- what kind of thing position i holds
  pub kind_at : (i : ℕ) → i < at_most64 n → (get_or held i no_payload).held ≡ held_by p i
  unfolding payload_by held_by
  kind_at i h = ap (λ (v : Payload). v.held) (held_at i h) ∙ by (holds_by p i) refl
    where
      by : (t : Bool) → holds_by p i ≡ t → (either t (holding (packet_of (data_in base) (slip_by p x i))) (get_or base i no_payload)).held ≡ either t Packet (either (has p.unreadable i) Unreadable Empty)
      by true q = refl
      by false q = o.kinds i h q ∙ ap (λ (t : Bool). either t Packet (either (has p.unreadable i) Unreadable Empty)) q

  -- the packet that it holds
  pub packet_at : (i : ℕ) → i < at_most64 n → holds_by p i ≡ true → get_or held i no_payload ≡ holding (packet_of (data_in base) (slip_by p x i))
  unfolding payload_by
  packet_at i h q = held_at i h ∙ ap (λ (t : Bool). either t (holding (packet_of (data_in base) (slip_by p x i))) (get_or base i no_payload)) q

  -- no packet
  pub none_at : (i : ℕ) → i < at_most64 n → holds_by p i ≡ false → packet (get_or held i no_payload).held ≡ false
  unfolding held_by
  none_at i h q = ap packet (kind_at i h) ∙ by (holds_by p i) (has p.unreadable i) q
    where
      by : (t u : Bool) → t ≡ false → packet (either t Packet (either u Unreadable Empty)) ≡ false
      by true u e = e
      by false true e = refl
      by false false e = refl

  -- ---- bytes

  no_text : (k : Held) (q : CeTwoPcPacket) → packet k ≡ false → len_by q k ≡ 0
  no_text Empty q e = refl
  no_text Unreadable q e = refl
  no_text Packet q e = absurd (true≢false e)

  source_at : (i : ℕ) → i < at_most64 n → holds_by p i ≡ true → cell x data_at (cell x from_at i % 64) ≡ data_len (data_in base (cell x from_at i))
  source_at i h q =
      let f = o.from i h in
      let e : cell x from_at i % 64 ≡ cell x from_at i = mod-eq_of_lt (omega arith) in
      rw e (o.texts (cell x from_at i) f)

  pub length_at : (i : ℕ) → i < at_most64 n → length_by p x i ≡ payload_len (get_or held i no_payload)
  unfolding length_by payload_len slip_by
  length_at i h = by (holds_by p i) refl
    where
      by : (t : Bool) → holds_by p i ≡ t
          → either t (parts_len (cell x term_at i) (phase_by p i) (cell x data_at (cell x from_at i % 64)) (record { len = cell x len_at i; marks = cell x marks_at i })) 0
          ≡ len_by (get_or held i no_payload).packet (get_or held i no_payload).held
      by true q =
          ap (λ (k : ℕ). parts_len (cell x term_at i) (phase_by p i) k (record { len = cell x len_at i; marks = cell x marks_at i })) (source_at i h q)
          ∙ told ∙ ap (λ (v : Payload). len_by v.packet v.held) (sym (packet_at i h q))
        where
          told : parts_len (cell x term_at i) (phase_by p i) (data_len (data_in base (cell x from_at i))) (record { len = cell x len_at i; marks = cell x marks_at i })
              ≡ text_len (ce_within (packet_of (data_in base) (slip_by p x i))) (ce_text (packet_of (data_in base) (slip_by p x i)))
          told = sym (parts_is (packet_of (data_in base) (slip_by p x i)) (o.short (cell x from_at i) (o.from i h)))
      by false q = sym (no_text (get_or held i no_payload).held (get_or held i no_payload).packet (none_at i h q))

  -- what all flooders send
  pub sent_is : (flooding : ℕ) → ((i : ℕ) → has flooding i ≡ true → i < at_most64 n) → sent_by flooding p x ≡ sent_of flooding held
  unfolding sent_by sent_of sent_at over_marks
  sent_is flooding inside = upto_same _ _ 0 64 (λ i h sum. by i (has flooding i) refl sum)
    where
      by : (i : ℕ) (t : Bool) → has flooding i ≡ t → (sum : ℕ) → either t (add64 sum (on_air (length_by p x i))) sum ≡ either t (add64 sum (on_air (payload_len (get_or held i no_payload)))) sum
      by i true q sum = ap (λ (k : ℕ). add64 sum (on_air k)) (length_at i (inside i q))
      by i false q sum = refl

  -- ---- the goal

  standing_at : (i : ℕ) → i < at_most64 n
      → standing_of (get_or held i no_payload) ≡ either (has p.committed i) 2 (either (has p.aborted i) 3 (either (has p.prepared i) 1 0))
  unfolding holds_by phase_by slip_by standing_by rank_of
  standing_at i h = by (has p.prepared i) (has p.committed i) (has p.aborted i) refl refl refl
    where
      got : holds_by p i ≡ true → standing_of (get_or held i no_payload) ≡ rank_of (phase_by p i) + 1
      got q = ap standing_of (packet_at i h q)

      none : (k : Held) (f : TwoPcPhase) → packet k ≡ false → standing_by f k ≡ 0
      none Empty f e = refl
      none Unreadable f e = refl
      none Packet f e = absurd (true≢false e)

      by : (a b c : Bool) → has p.prepared i ≡ a → has p.committed i ≡ b → has p.aborted i ≡ c
          → standing_of (get_or held i no_payload) ≡ either b 2 (either c 3 (either a 1 0))
      by a true c ea eb ec = got (rw (eb) (yes (has p.prepared i) (has p.aborted i))) ∙ rw (eb)
        where
          yes : (s t : Bool) → (s || (true || t)) ≡ true
          yes true t = refl
          yes false t = refl
      by a false true ea eb ec = got (rw (eb, ec) (yes (has p.prepared i))) ∙ rw (eb, ec)
        where
          yes : (s : Bool) → (s || (false || true)) ≡ true
          yes true = refl
          yes false = refl
      by true false false ea eb ec = got (rw ea) ∙ rw (eb, ec)
      by false false false ea eb ec = none (get_or held i no_payload).held (get_or held i no_payload).packet.phase (none_at i h (rw (ea, eb, ec)))

  -- a decision is held
  pub decided_at : (i : ℕ) → i < at_most64 n → (has p.committed i || has p.aborted i) ≡ goal_of (get_or held i no_payload)
  unfolding goal_of
  decided_at i h = sym (ap (ltb 1) (standing_at i h) ∙ by (has p.committed i) (has p.aborted i) (has p.prepared i))
    where
      by : (b c a : Bool) → ltb 1 (either b 2 (either c 3 (either a 1 0))) ≡ (b || c)
      by true c a = refl
      by false true a = refl
      by false false true = refl
      by false false false = refl

  pub goal_is : goal_by n p ≡ network_goal_of n held
  unfolding goal_by network_goal_of all_hold
  goal_is = by (ltb 0 n) (leb n positions) refl
    where
      two : (b c a : Bool) → b ≡ eqb (either b 2 (either c 3 (either a 1 0))) 2
      two true c a = refl
      two false true a = refl
      two false false true = refl
      two false false false = refl

      three : (b c a : Bool) → (c && not b) ≡ eqb (either b 2 (either c 3 (either a 1 0))) 3
      three true true a = refl
      three true false a = refl
      three false true a = refl
      three false false true = refl
      three false false false = refl

      committed : n ≤ 64 → all_of n (λ i. has p.committed i) ≡ all_of n (λ i. eqb (standing_of (get_or held i no_payload)) 2)
      committed b = all_same _ _ n (λ i h. two (has p.committed i) (has p.aborted i) (has p.prepared i) ∙ ap (λ (k : ℕ). eqb k 2) (sym (standing_at i (omega arith))))

      aborted : n ≤ 64 → all_of n (λ i. has p.aborted i && not (has p.committed i)) ≡ all_of n (λ i. eqb (standing_of (get_or held i no_payload)) 3)
      aborted b = all_same _ _ n (λ i h. three (has p.committed i) (has p.aborted i) (has p.prepared i) ∙ ap (λ (k : ℕ). eqb k 3) (sym (standing_at i (omega arith))))

      by : (s t : Bool) → leb n 64 ≡ t
          → ((s && t) && (all_of n (λ i. has p.committed i) || all_of n (λ i. has p.aborted i && not (has p.committed i))))
          ≡ (((s && t) && all_of n (λ i. eqb (standing_of (get_or held i no_payload)) 2)) || ((s && t) && all_of n (λ i. eqb (standing_of (get_or held i no_payload)) 3)))
      by true true q = let b : n ≤ 64 = leb-true n 64 q in rw (committed b, aborted b)
      by true false q = refl
      by false t q = refl

  -- ---- other numbers change

  module _ (y : List ℕ) (long : length y ≡ 576) (kept : (q : ℕ) → 256 ≤ q → get_or y q 0 ≡ get_or x q 0) where
    cell_kept : (k i : ℕ) → 256 ≤ k → cell y k i ≡ cell x k i
    unfolding cell
    cell_kept k i h = kept (k + i) (omega arith)

    slip_kept : (i : ℕ) → slip_by p y i ≡ slip_by p x i
    unfolding slip_by
    slip_kept i = rw (cell_kept term_at i (omega arith), cell_kept len_at i (omega arith), cell_kept marks_at i (omega arith), cell_kept from_at i (omega arith))

    pub held_kept : ShownHeld n base p rests y held
    unfolding payloads_by payload_by
    held_kept =
        record {
          whole = o.whole;
          table = long;
          kinds = o.kinds;
          from = λ i h. rw (cell_kept from_at i (omega arith)) (o.from i h);
          texts = λ k h. cell_kept data_at k (omega arith) ∙ o.texts k h;
          short = o.short;
          resting = o.resting;
          sees = view_same no_payload base (at_most64 n) (omega (arith, o.whole)) (payload_by base p y) (payload_by base p x)
              (λ i h. ap (λ (s : Slip). either (holds_by p i) (holding (packet_of (data_in base) s)) (get_or base i no_payload)) (slip_kept i)) ∙ o.sees;
        }

  -- ---- one position is written

  module _ (t : Told) (ep : t.phases ≡ p) (er : t.can_sleep ≡ rests) (i : ℕ) (s : Slip) (r : Told) (y : List ℕ) (w : Written n t i s x r y) (h : i < at_most64 n) (own : s.source < at_most64 n) where
    abbrev row : List ℕ
    row = s.term ∷ s.flags_bitmap.len ∷ s.flags_bitmap.marks ∷ s.source ∷ []

    own_cell : (m : ℕ) → m < 4 → cell y (256 + 64 * m) i ≡ get_or row m 0
    own_cell m b = ap (λ (l : List ℕ). cell l (256 + 64 * m) i) w.table ∙ row_own 256 i row x m (omega arith) b (omega (arith, o.table))

    other_cell : (k j : ℕ) → ((m : ℕ) → m < 4 → k + j ≡ 256 + 64 * m + i → ⊥) → cell y k j ≡ cell x k j
    other_cell k j apart = ap (λ (l : List ℕ). cell l k j) w.table ∙ row_other 256 i row x k j apart

    -- the other positions' numbers
    still : (k j : ℕ) → j < 64 → (j ≡ i → ⊥) → cell y (64 * k) j ≡ cell x (64 * k) j
    still k j b n = other_cell (64 * k) j (λ m l e. n (omega (arith, h)))

    holds_after : (j : ℕ) → holds_by r.phases j ≡ either (eqb j i) true (holds_by p j)
    holds_after j = w.phases.holds j ∙ ap (λ (q : Phases). either (eqb j i) true (holds_by q j)) ep

    phase_after : (j : ℕ) → phase_by r.phases j ≡ either (eqb j i) s.phase (phase_by p j)
    phase_after j = w.phases.phase j ∙ ap (λ (q : Phases). either (eqb j i) s.phase (phase_by q j)) ep

    unread : r.phases.unreadable ≡ p.unreadable
    unread = w.phases.unreadable ∙ ap (λ (q : Phases). q.unreadable) ep

    same_kind : (j : ℕ) → holds_by r.phases j ≡ false → holds_by p j ≡ false → held_by p j ≡ held_by r.phases j
    unfolding held_by
    same_kind j a b = rw (a, b, unread)

    before : (a b : Bool) → either a true b ≡ false → b ≡ false
    before true b e = absurd (true≢false e)
    before false b e = e

    slip_own : slip_by r.phases y i ≡ s
    unfolding slip_by
    slip_own = rw (own_cell 0 (omega arith), own_cell 1 (omega arith), own_cell 2 (omega arith), own_cell 3 (omega arith), phase_after i, eq-eqb i i refl)

    slip_other : (j : ℕ) → j < 64 → (j ≡ i → ⊥) → slip_by r.phases y j ≡ slip_by p x j
    unfolding slip_by
    slip_other j b n = rw (still 4 j b n, still 5 j b n, still 6 j b n, still 7 j b n, phase_after j, ne_eqb j i n)

    abbrev new : Payload
    new = holding (packet_of (data_in base) s)

    goes_to_sleep : can_sleep_of n new ≡ rests_by n s
    unfolding can_sleep_of goal_of standing_by rank_of
    goes_to_sleep = ap (λ (b : Bool). b && unanimous_of n s.flags_bitmap) (by s.phase)
      where
        by : (f : TwoPcPhase) → ltb 1 (rank_of f + 1) ≡ decided_by f
        by Prepare = refl
        by Committed = refl
        by Aborted = refl

    pub held_written : ShownHeld n base r.phases r.can_sleep y (set held i new)
    unfolding payloads_by payload_by
    held_written =
        record {
          whole = o.whole;
          table = ap length w.table ∙ row_length 256 i row x ∙ o.table;
          kinds = λ j b q. let z = before (eqb j i) (holds_by p j) (sym (holds_after j) ∙ q) in o.kinds j b z ∙ same_kind j q z;
          from = λ j b. from_at_lem j b (eqb j i) refl;
          texts = λ k b. other_cell 512 k (λ m l e. omega (arith, h)) ∙ o.texts k b;
          short = o.short;
          resting = λ j b. rests_at j b (eqb j i) refl;
          sees = view_put no_payload base (at_most64 n) (omega (arith, o.whole)) (payload_by base p x) (payload_by base r.phases y) i new h
              (λ j b q. rw (holds_after j, ne_eqb j i q, slip_other j (omega arith) q)) (rw (holds_after i, eq-eqb i i refl, slip_own)) ∙ ap (λ (l : List Payload). set l i new) o.sees;
        }
      where
        from_at_lem : (j : ℕ) → j < at_most64 n → (b : Bool) → eqb j i ≡ b → cell y from_at j < at_most64 n
        from_at_lem j b true e = rw (eqb-true j i e, own_cell 3 (omega arith)) own
        from_at_lem j b false e = rw (still 7 j (omega arith) (eqb-false j i e)) (o.from j b)

        rests_at : (j : ℕ) → j < at_most64 n → (b : Bool) → eqb j i ≡ b → has r.can_sleep j ≡ can_sleep_of n (get_or (set held i new) j no_payload)
        rests_at j b true e =
            w.rests j ∙ ap (λ (a : Bool). either a (rests_by n s) (has t.can_sleep j)) e
            ∙ sym (ap (λ (v : Payload). can_sleep_of n v) (ap (λ (k : ℕ). get_or (set held i new) k no_payload) (eqb-true j i e) ∙ get_or-set_same held i new no_payload (omega (arith, held_length))) ∙ goes_to_sleep)
        rests_at j b false e =
            w.rests j ∙ ap (λ (a : Bool). either a (rests_by n s) (has t.can_sleep j)) e ∙ ap (λ (m : ℕ). has m j) er ∙ o.resting j b
            ∙ ap (λ (v : Payload). can_sleep_of n v) (sym (get_or-set_other held i j new no_payload (eqb-false j i e)))
