-- Merges in place are the merges of the rule, since no position that is heard hears anybody. Assumes nothing.
use Rattle.std.proofs.Common.{◌≡◌, ℕ, Option, Some, zero, suc, ◌<◌, ◌≤◌, Bool, true, false, not, ◌&&◌, ◌||◌, eqb, ltb, ◌⊎◌, List, [], ◌∷◌, length, get_or, set, sym, refl, ap, ◌∙◌, inl, inr, true≢false, arith, get_or-set_other, ext_get_or, ltb-false, ltb-true, le-ltb, lt-ltb, eqb-true}
use lib.Seq.{set-get_or}
use borrow.Author.Tests.{eqb-false}
use Rattle.loops.specs.Pick.{either}
use Rattle.loops.specs.Upto.{upto, upto_same}
use Rattle.marks.specs.Marks.{has}
use Rattle.marks.specs.Sets.{and_true, has_marks, grown_none}
use Rattle.merges.specs.Votes.{no_of}
use Rattle.merges.specs.Merging.{Merged, no_payload, merge_of, merged_by, new_info, redundant, goal_of, can_sleep_of}
use Rattle.merges.specs.Slips.{packet_of, answered, HeardBy}
use Rattle.merges.specs.declared.votes.Voting.{Voting}
use Rattle.merges.specs.declared.merging.Slip.{Slip}
use Rattle.merges.specs.declared.merging.Held.{Held}
use Rattle.merges.specs.declared.merging.Held.TheVariants.{Empty, Unreadable, Packet}
use Rattle.merges.specs.declared.merging.Payload.{Payload}
use Rattle.merges.proofs.Sources.{heard_source}
use Rattle.engines.specs.Clamp.{at_most64}
use Rattle.engines.specs.Marked.{over_marks, with_mark, place}
use Rattle.engines.specs.Columns.{cell, row_put}
use Rattle.engines.proofs.Cells.{row_before}
use Rattle.engines.proofs.Marking.{Without, over_turn, over_none, over_through}
use Rattle.engines.proofs.Places.{over_get, over_length, view_get, view_later, view_length}
use Rattle.capture.specs.Ce.{SlotMerges, is_news, hearing_of, noted_if, told_at, told_all, merged_from}
use Rattle.capture.specs.Boards.{from_at, holds_by, held_by, slip_by, data_in, ShownHeld, Written, ToldOne, Apart}
use Rattle.capture.specs.declared.board.Phases.{Phases}
use Rattle.capture.specs.declared.ce.Told.{Told}
use Rattle.capture.proofs.Holding.{packet, kind_at, packet_at, none_at, held_written}

-- ---- one merge

-- nothing new
pub told_none : (s : Voting) (t : Told) (i src : ℕ) (x : List ℕ)
    → ((base held : List Payload) → i < at_most64 s.n → (src < 64 → src < at_most64 s.n) → ShownHeld s.n base t.phases t.can_sleep x held → merged_from s held i src ≡ redundant (get_or held i no_payload))
    → ToldOne s t i src x t x
told_none s t i src x e =
    record {
      kept = λ q h. refl;
      news = λ base held h k o. rw (e base held h k o);
      shown = λ base held h k o. rw (e base held h k o, set-get_or held i no_payload) o;
    }

-- who hears nobody
pub nobody_heard : (s : Voting) (held : List Payload) (i src : ℕ) → 64 ≤ src → merged_from s held i src ≡ redundant (get_or held i no_payload)
nobody_heard s held i src h = rw (le-ltb src 64 h)

module _ (s : Voting) {base : List Payload} {p : Phases} {rests : ℕ} {x : List ℕ} {held : List Payload} (o : ShownHeld s.n base p rests x held) (i src : ℕ) (k : src < at_most64 s.n) where
  abbrev nay : ℕ → ℕ → Bool
  nay = no_of s

  -- what is heard is no packet
  pub nothing_heard : holds_by p src ≡ false → merged_from s held i src ≡ redundant (get_or held i no_payload)
  unfolding merge_of merged_by
  nothing_heard q = rw (lt-ltb src 64 (omega arith)) (by (get_or held src no_payload).held refl)
    where
      by : (a : Held) → (get_or held src no_payload).held ≡ a → merged_by (no_of s) s.n i (get_or held i no_payload) (get_or held src no_payload).packet a ≡ redundant (get_or held i no_payload)
      by Empty e = refl
      by Unreadable e = refl
      by Packet e = absurd (true≢false (sym (ap packet e) ∙ none_at o src k q))

  -- what is heard is a packet: the merge on slips tells it
  module _ (h : i < at_most64 s.n) (q : holds_by p src ≡ true) (m : Option Slip) (w : HeardBy (no_of s) s.n i (held_by p i) (slip_by p x i) (slip_by p x src) m) where
    held_there : (t u : Bool) → either t Packet (either u Unreadable Empty) ≡ Packet → t ≡ true
    held_there true u e = refl
    held_there false true e = absurd (true≢false (sym (ap packet e)))
    held_there false false e = absurd (true≢false (sym (ap packet e)))

    pub packet_heard : merged_from s held i src ≡ answered (data_in base) (get_or held i no_payload) m
    unfolding merge_of merged_by held_by
    packet_heard =
        rw (lt-ltb src 64 (omega arith), packet_at o src k q, kind_at o i h)
        (w.merged (data_in base) (get_or held i no_payload) (kind_at o i h)
        (λ e. ap (λ (v : Payload). v.packet) (packet_at o i h (held_there (holds_by p i) (has p.unreadable i) e))))

    -- whose data the answer has
    pub source_in : (u : Slip) → m ≡ Some u → u.source < at_most64 s.n
    unfolding slip_by
    source_in u z = by (heard_source (no_of s) s.n i (held_by p i) (slip_by p x i) (slip_by p x src) u (rw (← z) w))
      where
        by : (u.source ≡ cell x from_at i) ⊎ (u.source ≡ cell x from_at src) → u.source < at_most64 s.n
        by (inl e) = rw e (o.from i h)
        by (inr e) = rw e (o.from src k)

-- what was asked of the merge, by another name
pub heard_as : (s : Voting) (i : ℕ) (m : Option Slip) {k k' : Held} {a a' b b' : Slip} → k ≡ k' → a ≡ a' → b ≡ b' → HeardBy (no_of s) s.n i k a b m → HeardBy (no_of s) s.n i k' a' b' m
heard_as s i m e f g h = rw (← e, ← f, ← g) h

-- something new: it is written
pub told_new : (s : Voting) (t : Told) (i src : ℕ) (x : List ℕ) (m : Slip) (r : Told) (y : List ℕ) → i < 64 → Written s.n t i m x r y
    → ((base held : List Payload) → i < at_most64 s.n → (src < 64 → src < at_most64 s.n) → ShownHeld s.n base t.phases t.can_sleep x held
    → (merged_from s held i src ≡ new_info (packet_of (data_in base) m)) × (m.source < at_most64 s.n))
    → ToldOne s t i src x r y
told_new s t i src x m r y b w e =
    record {
      kept = λ q h. kept q h;
      news = λ base held h k o. w.news ∙ rw (e base held h k o).0;
      shown = λ base held h k o. rw (e base held h k o).0 (held_written o t refl refl i m r y w h (e base held h k o).1);
    }
  where
    kept : (q : ℕ) → q < 256 → get_or y q 0 ≡ get_or x q 0
    kept q h = ap (λ (l : List ℕ). get_or l q 0) w.table ∙ row_kept q h
      where
        row : List ℕ
        row = m.term ∷ m.flags_bitmap.len ∷ m.flags_bitmap.marks ∷ m.source ∷ []

        row_kept : (q : ℕ) → q < 256 → get_or (row_put 256 i row x) q 0 ≡ get_or x q 0
        row_kept q h = row_before 256 i row x q (omega arith)

-- ---- sets that a loop notes

noted_at : (f : Bool) (m i j : ℕ) → i < 64 → has (noted_if f i m) j ≡ either f (ltb j 64 && (has m j || eqb j i)) (has m j)
unfolding with_mark
noted_at true m i j h = has_marks 64 (λ k. has m k || eqb k i) j
noted_at false m i j h = refl

pub noted_all : (f : ℕ → Bool) (k j : ℕ) → k ≤ 64 → has (upto k (λ i m. noted_if (f i) i m) 0) j ≡ (ltb j k && f j)
unfolding upto
noted_all f zero j h = grown_none f j
noted_all f (suc k) j h = noted_at (f k) _ k j (omega arith) ∙ rw (noted_all f k j (omega arith)) (by (eqb j k) refl (f k) refl)
  where
    next : (j ≡ k → ⊥) → ltb j (suc k) ≡ ltb j k
    next n = at (ltb j k) refl
      where
        at : (t : Bool) → ltb j k ≡ t → ltb j (suc k) ≡ t
        at true q = lt-ltb j (suc k) (omega (arith, ltb-true j k q))
        at false q = le-ltb j (suc k) (omega (arith, ltb-false j k q))

    inside : (t : Bool) → ltb j k ≡ t → (ltb j 64 && ((t && f j) || false)) ≡ (t && f j)
    inside true q = rw (lt-ltb j 64 (omega (arith, ltb-true j k q))) (or_none (f j))
      where
        or_none : (b : Bool) → (b || false) ≡ b
        or_none true = refl
        or_none false = refl
    inside false q = nothing (ltb j 64)
      where
        nothing : (b : Bool) → (b && false) ≡ false
        nothing true = refl
        nothing false = refl

    by : (e : Bool) → eqb j k ≡ e → (b : Bool) → f k ≡ b → either b (ltb j 64 && ((ltb j k && f j) || e)) (ltb j k && f j) ≡ (ltb j (suc k) && f j)
    by true q true r =
        let z : j ≡ k = eqb-true j k q in
        rw (lt-ltb j 64 (omega arith), lt-ltb j (suc k) (omega arith), ap f z ∙ r) (last (ltb j k))
      where
        last : (a : Bool) → ((a && true) || true) ≡ true
        last true = refl
        last false = refl
    by true q false r =
        let z : j ≡ k = eqb-true j k q in
        rw (ap f z ∙ r) (both (ltb j k) (ltb j (suc k)))
      where
        both : (a b : Bool) → (a && false) ≡ (b && false)
        both true true = refl
        both true false = refl
        both false true = refl
        both false false = refl
    by false q true r = rw (next (eqb-false j k q)) (inside (ltb j k) refl)
    by false q false r = rw (next (eqb-false j k q))

-- a loop seen through a projection
through : {S T : Type 0} (g : S → T) (f : ℕ → S → S) (h : ℕ → T → T) → ((i : ℕ) (s : S) → g (f i s) ≡ h i (g s)) → (k : ℕ) (s : S) → g (upto k f s) ≡ upto k h (g s)
unfolding upto
through g f h e zero s = refl
through g f h e (suc k) s = e k (upto k f s) ∙ ap (h k) (through g f h e k s)

-- ---- the rule's merges, position by position

module _ (s : Voting) (hears : List ℕ) (held : List Payload) where
  abbrev pub answer : ℕ → Merged
  answer i = merged_from s held i (get_or hears i 0)

  abbrev start : SlotMerges
  start = record { held = held; new_info = 0; goal_reached = 0; can_sleep = 0 }

  pub told_held : (told_all s hears held).held ≡ upto (at_most64 s.n) (place no_payload (λ i v. (answer i).payload)) held
  unfolding told_all told_at hearing_of
  told_held = through (λ (t : SlotMerges). t.held) (told_at s hears held) (λ i l. set l i (answer i).payload) (λ i t. refl) (at_most64 s.n) start

  pub told_news : (j : ℕ) → has (told_all s hears held).new_info j ≡ (ltb j (at_most64 s.n) && is_news (answer j).result)
  unfolding told_all told_at hearing_of
  told_news j =
      ap (λ (m : ℕ). has m j) (through (λ (t : SlotMerges). t.new_info) (told_at s hears held) (λ i m. noted_if (is_news (answer i).result) i m) (λ i t. refl) (at_most64 s.n) start)
      ∙ noted_all (λ i. is_news (answer i).result) (at_most64 s.n) j (omega arith)

  module _ (long : length held ≡ 64) where
    pub told_get : (j : ℕ) → j < at_most64 s.n → get_or (told_all s hears held).held j no_payload ≡ (answer j).payload
    told_get j h = ap (λ (l : List Payload). get_or l j no_payload) told_held ∙ view_get no_payload held (at_most64 s.n) (omega arith) (λ i v. (answer i).payload) j h

    pub told_goal : (j : ℕ) → j < at_most64 s.n → has (told_all s hears held).goal_reached j ≡ goal_of (get_or (told_all s hears held).held j no_payload)
    unfolding told_all told_at hearing_of
    told_goal j h =
        ap (λ (m : ℕ). has m j) (through (λ (t : SlotMerges). t.goal_reached) (told_at s hears held) (λ i m. noted_if (goal_of (answer i).payload) i m) (λ i t. refl) (at_most64 s.n) start)
        ∙ noted_all (λ i. goal_of (answer i).payload) (at_most64 s.n) j (omega arith) ∙ rw (lt-ltb j (at_most64 s.n) h) (ap goal_of (sym (told_get j h)))

    pub told_rests : (j : ℕ) → j < at_most64 s.n → has (told_all s hears held).can_sleep j ≡ can_sleep_of s.n (get_or (told_all s hears held).held j no_payload)
    unfolding told_all told_at hearing_of
    told_rests j h =
        ap (λ (m : ℕ). has m j) (through (λ (t : SlotMerges). t.can_sleep) (told_at s hears held) (λ i m. noted_if (can_sleep_of s.n (answer i).payload) i m) (λ i t. refl) (at_most64 s.n) start)
        ∙ noted_all (λ i. can_sleep_of s.n (answer i).payload) (at_most64 s.n) j (omega arith) ∙ rw (lt-ltb j (at_most64 s.n) h) (ap (can_sleep_of s.n) (sym (told_get j h)))

-- ---- merges in place

-- what positions hold on the way through a slot's merges, and to whom something was new
pub record Telling : Type 0 where
  pub held : List Payload
  pub news : ℕ

-- position i merges what the position that it hears holds now
unfoldable pub tell_at : Voting → List ℕ → ℕ → Telling → Telling
tell_at s hears i t =
    let m = merged_from s t.held i (get_or hears i 0) in
    record { held = set t.held i m.payload; news = noted_if (is_news m.result) i t.news }

-- the answer depends on what the two hold, and on nothing else
merged_same : (s : Voting) (a b : List Payload) (i src : ℕ) → get_or a i no_payload ≡ get_or b i no_payload → (src < 64 → get_or a src no_payload ≡ get_or b src no_payload) → merged_from s a i src ≡ merged_from s b i src
merged_same s a b i src e f = by (ltb src 64) refl
  where
    by : (t : Bool) → ltb src 64 ≡ t → either t (merge_of (no_of s) s.n i (get_or a i no_payload) (get_or a src no_payload)) (redundant (get_or a i no_payload)) ≡ either t (merge_of (no_of s) s.n i (get_or b i no_payload) (get_or b src no_payload)) (redundant (get_or b i no_payload))
    by true q = rw (e, f (ltb-true src 64 q))
    by false q = rw e

module _ (s : Voting) (hears : List ℕ) (targets : ℕ) (held : List Payload) (o : Apart s.n hears targets) where
  -- a turn by what was held before the loop
  abbrev from_start : ℕ → Telling → Telling
  from_start i t = record { held = set t.held i (answer s hears held i).payload; news = noted_if (is_news (answer s hears held i).result) i t.news }

  abbrev begins : Telling
  begins = record { held = held; news = 0 }

  abbrev turns : ℕ → Telling
  turns k = upto k (λ i t. either (has targets i) (from_start i t) t) begins

  -- a position that was not reached, or is no target, holds what it held
  untold : (k j : ℕ) → (k ≤ j) ⊎ (has targets j ≡ false) → get_or (turns k).held j no_payload ≡ get_or held j no_payload
  unfolding upto
  untold zero j h = refl
  untold (suc k) j h = by (has targets k) refl ∙ untold k j (before h)
    where
      before : (suc k ≤ j) ⊎ (has targets j ≡ false) → (k ≤ j) ⊎ (has targets j ≡ false)
      before (inl l) = inl (omega arith)
      before (inr e) = inr e

      apart : (suc k ≤ j) ⊎ (has targets j ≡ false) → has targets k ≡ true → j ≡ k → ⊥
      apart (inl l) e z = omega arith
      apart (inr f) e z = true≢false (sym e ∙ ap (λ (i : ℕ). has targets i) (sym z) ∙ f)

      by : (b : Bool) → has targets k ≡ b → get_or (either b (from_start k (turns k)) (turns k)).held j no_payload ≡ get_or (turns k).held j no_payload
      by true e = get_or-set_other (turns k).held k j (answer s hears held k).payload no_payload (apart h e)
      by false e = refl

  same_turns : (k : ℕ) → upto k (λ i t. either (has targets i) (tell_at s hears i t) t) begins ≡ turns k
  unfolding upto tell_at
  same_turns zero = refl
  same_turns (suc k) = rw (same_turns k) (by (has targets k) refl)
    where
      src : ℕ
      src = get_or hears k 0

      by : (b : Bool) → has targets k ≡ b → either b (tell_at s hears k (turns k)) (turns k) ≡ either b (from_start k (turns k)) (turns k)
      by true e =
          ap (λ (m : Merged). record { held = set (turns k).held k m.payload; news = noted_if (is_news m.result) k (turns k).news })
          (merged_same s (turns k).held held k src (untold k k (inl (omega arith))) (λ h. untold k src (inr (o.silent k e h))))
      by false e = refl

  in_place : over_marks targets (tell_at s hears) begins ≡ over_marks targets from_start begins
  unfolding over_marks
  in_place = same_turns 64

  -- what the targets hold then is what the rule says
  place_held : length held ≡ 64 → (over_marks targets (tell_at s hears) begins).held ≡ (told_all s hears held).held
  place_held long =
      ap (λ (t : Telling). t.held) in_place ∙ over_through (λ (t : Telling). t.held) from_start (place no_payload put) (λ i b t. refl) targets begins
      ∙ ext_get_or no_payload (over_marks targets (place no_payload put) held) (upto (at_most64 s.n) (place no_payload put) held) (size ∙ sym (view_length no_payload held (at_most64 s.n) (omega arith) put ∙ long)) at
      ∙ sym (told_held s hears held)
    where
      put : ℕ → Payload → Payload
      put i v = (answer s hears held i).payload

      size : length (over_marks targets (place no_payload put) held) ≡ 64
      size = over_length no_payload put targets held ∙ long

      quiet : (j : ℕ) → j < 64 → has targets j ≡ false → answer s hears held j ≡ redundant (get_or held j no_payload)
      quiet j b e = nobody_heard s held j (get_or hears j 0) (ltb-false (get_or hears j 0) 64 (o.others j b e))

      by : (j : ℕ) → j < 64 → (t : Bool) → has targets j ≡ t → (u : Bool) → ltb j (at_most64 s.n) ≡ u
          → either t (put j (get_or held j no_payload)) (get_or held j no_payload) ≡ get_or (upto (at_most64 s.n) (place no_payload put) held) j no_payload
      by j b true e u q = sym (view_get no_payload held (at_most64 s.n) (omega arith) put j (o.position j e))
      by j b false e true q = sym (view_get no_payload held (at_most64 s.n) (omega arith) put j (ltb-true j (at_most64 s.n) q) ∙ ap (λ (m : Merged). m.payload) (quiet j b e))
      by j b false e false q = sym (view_later no_payload held (at_most64 s.n) (omega arith) put j (ltb-false j (at_most64 s.n) q))

      at : (j : ℕ) → j < length (over_marks targets (place no_payload put) held) → get_or (over_marks targets (place no_payload put) held) j no_payload ≡ get_or (upto (at_most64 s.n) (place no_payload put) held) j no_payload
      at j h =
          let b : j < 64 = omega (arith, size) in
          over_get no_payload put targets held j long b ∙ by j b (has targets j) refl (ltb j (at_most64 s.n)) refl

  place_news : (j : ℕ) → has (over_marks targets (tell_at s hears) begins).news j ≡ has (told_all s hears held).new_info j
  unfolding over_marks
  place_news j =
      ap (λ (t : Telling). has t.news j) in_place
      ∙ ap (λ (m : ℕ). has m j) (over_through (λ (t : Telling). t.news) from_start (λ i m. noted_if (is_news (answer s hears held i).result) i m) (λ i b t. refl) targets begins)
      ∙ ap (λ (m : ℕ). has m j) (upto_same _ (λ i m. noted_if (has targets i && is_news (answer s hears held i).result) i m) 0 64 (λ i h m. both (has targets i) (is_news (answer s hears held i).result) i m))
      ∙ noted_all (λ i. has targets i && is_news (answer s hears held i).result) 64 j (omega arith)
      ∙ by (ltb j 64) refl (has targets j) refl ∙ sym (told_news s hears held j)
    where
      both : (a b : Bool) (i m : ℕ) → either a (noted_if b i m) m ≡ noted_if (a && b) i m
      both true b i m = refl
      both false b i m = refl

      nothing : (a : Bool) → false ≡ (a && false)
      nothing true = refl
      nothing false = refl

      by : (u : Bool) → ltb j 64 ≡ u → (t : Bool) → has targets j ≡ t → (u && (t && is_news (answer s hears held j).result)) ≡ (ltb j (at_most64 s.n) && is_news (answer s hears held j).result)
      by true q true e = rw (lt-ltb j (at_most64 s.n) (o.position j e))
      by true q false e =
          nothing (ltb j (at_most64 s.n))
          ∙ ap (λ (m : Merged). ltb j (at_most64 s.n) && is_news m.result) (sym (nobody_heard s held j (get_or hears j 0) (ltb-false (get_or hears j 0) 64 (o.others j (ltb-true j 64 q) e))))
      by false q true e = absurd (let b = o.position j e in let c = ltb-false j 64 q in omega arith)
      by false q false e = sym (ap (λ (a : Bool). a && is_news (answer s hears held j).result) (le-ltb j (at_most64 s.n) (let c = ltb-false j 64 q in omega arith)))

-- ---- the loop

-- the marks that are left are targets
pub within_turn : (m : ℕ) {left r left' : ℕ} → Without left r left' → ((j : ℕ) → has left j ≡ true → has m j ≡ true) → (j : ℕ) → has left' j ≡ true → has m j ≡ true
within_turn m {left} {r} w o j e = o j (and_true (has left j) (not (eqb j r)) (sym (w.rest j) ∙ e)).0

-- what is shown now, and the turns that are left on it, give what all turns give
pub record Left (s : Voting) (hears : List ℕ) (targets : ℕ) (base held : List Payload) (news left : ℕ) (t : Told) (x : List ℕ) : Type 0 where
  pub mid : Telling
  pub shown : ShownHeld s.n base t.phases t.can_sleep x mid.held
  pub same : t.new_info ≡ mid.news
  pub rest : over_marks left (tell_at s hears) mid ≡ over_marks targets (tell_at s hears) (record { held = held; news = news })

module _ (s : Voting) (hears : List ℕ) (targets : ℕ) (base held : List Payload) (news : ℕ) where
  pub left_first : {t : Told} {x : List ℕ} → t.new_info ≡ news → ShownHeld s.n base t.phases t.can_sleep x held → Left s hears targets base held news targets t x
  left_first e o = record { mid = record { held = held; news = news }; shown = o; same = e; rest = refl }

  pub left_turn : {left r left' : ℕ} {t u : Told} {x y : List ℕ} → Apart s.n hears targets → has targets r ≡ true → Without left r left' → ToldOne s t r (get_or hears r 0) x u y
      → Left s hears targets base held news left t x → Left s hears targets base held news left' u y
  unfolding tell_at
  left_turn {r = r} a e w one o =
      let here = a.position r e in
      let there = a.sender r e in
      record {
        mid = tell_at s hears r o.mid;
        shown = one.shown base o.mid.held here there o.shown;
        same = one.news base o.mid.held here there o.shown ∙ rw o.same;
        rest = over_turn (tell_at s hears) w refl o.rest;
      }

  pub left_held : {left : ℕ} {t : Told} {x : List ℕ} → news ≡ 0 → Apart s.n hears targets → length held ≡ 64 → left ≡ 0 → Left s hears targets base held news left t x
      → ShownHeld s.n base t.phases t.can_sleep x (told_all s hears held).held
  left_held e a long z o =
      rw (← place_held s hears targets held a long, ← e, ← over_none (tell_at s hears) z o.rest) o.shown

  pub left_news : {left : ℕ} {t : Told} {x : List ℕ} → news ≡ 0 → Apart s.n hears targets → left ≡ 0 → Left s hears targets base held news left t x
      → (j : ℕ) → has t.new_info j ≡ has (told_all s hears held).new_info j
  left_news e a z o j = rw (← place_news s hears targets held a j, ← e, ← over_none (tell_at s hears) z o.rest, o.same)
