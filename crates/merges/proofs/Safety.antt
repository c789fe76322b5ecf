-- Merging and proposing keep every packet sound.
-- Assumes nothing.
use Rattle.std.proofs.Common.{◌≡◌, ℕ, ◌<◌, Bool, true, false, ◌&&◌, ◌||◌, eqb, ltb, leb, sym, refl, ap, ◌∙◌, subst, arith, ltb-false, lt-ltb, eqb-true, leb-true}
use mathlib.Core.Bool.{false≢true}
use Rattle.loops.specs.Pick.{either}
use Rattle.marks.specs.Marks.{has, marks, all_of}
use Rattle.marks.specs.Laws.{has_none}
use Rattle.marks.specs.Sets.{has_marks, and_true, true_and, all_at}
use Rattle.loops.specs.Wrap.{add64}
use Rattle.merges.specs.Merging.{Merged, Draft, Noes, entry, filled_of, marked_of, only_of, join_of, unanimous_of, rank_of, ensure_of, decided_of, acknowledged_of, voiced_of, settled_of, adopted_of, raised_of, own_of, same_term_of, outdated, heard_of, merged_by, merge_of, blank, proposal_of}
use Rattle.merges.specs.Sound.{AllYes, SomeNo, Backed, Claim, Sound, SoundBy, SoundHeld, MergesSound, ProposesSound, NeverBoth}
use Rattle.packets.specs.declared.TwoPcPhase.{TwoPcPhase}
use Rattle.packets.specs.declared.TwoPcPhase.TheVariants.{Prepare, Committed, Aborted}
use Rattle.packets.specs.declared.Bitmap.{Bitmap}
use Rattle.packets.specs.declared.CeTwoPcPacket.{CeTwoPcPacket}
use Rattle.merges.specs.declared.merging.Held.{Held}
use Rattle.merges.specs.declared.merging.Held.TheVariants.{Empty, Unreadable, Packet}
use Rattle.merges.specs.declared.merging.Payload.{Payload}

-- a choice has what both of its ends have, each with what the test says
pub either_cases : {A : Type 0} (P : A → Type 0) (b : Bool) {x y : A} → (b ≡ true → P x) → (b ≡ false → P y) → P (either b x y)
either_cases P true f g = f refl
either_cases P false f g = g refl

or_cases : {A : Type 0} (x y : Bool) → (x || y) ≡ true → (x ≡ true → A) → (y ≡ true → A) → A
or_cases true y h f g = f refl
or_cases false y h f g = g h

pub equal : (a b : ℕ) → ltb a b ≡ false → ltb b a ≡ false → a ≡ b
equal a b x y = let p = ltb-false a b x in let q = ltb-false b a y in omega arith

-- ---- the marks of a bitmap that a rule makes

-- a true entry of a word that was made by a test is one of the test
pub of_test : (len : ℕ) (f : ℕ → Bool) (i : ℕ) → (ltb i len && has (marks 64 f) i) ≡ true → f i ≡ true
of_test len f i h = (and_true (ltb i 64) (f i) (sym (has_marks 64 f i) ∙ (and_true (ltb i len) (has (marks 64 f) i) h).1)).1

pub filled_entry : (n : ℕ) (b : Bitmap) (i : ℕ) → entry (filled_of n b) i ≡ true → entry b i ≡ true
unfolding filled_of
filled_entry n b i h = of_test (filled_of n b).len (entry b) i h

pub marked_entry : {A : Type 0} (v : ℕ) (b : Bitmap) (i : ℕ) → entry (marked_of v b) i ≡ true → (entry b i ≡ true → A) → (i ≡ v → A) → A
unfolding marked_of
marked_entry v b i h f g =
    let e = and_true (ltb i b.len) (has b.marks i || eqb i v) (of_test b.len (λ j. ltb j b.len && (has b.marks j || eqb j v)) i h) in
    or_cases (has b.marks i) (eqb i v) e.1 (λ x. f (true_and (ltb i b.len) (has b.marks i) e.0 x)) (λ x. g (eqb-true i v x))

pub only_entry : (n v i : ℕ) → entry (only_of n v) i ≡ true → i ≡ v
unfolding only_of
only_entry n v i h = eqb-true i v (and_true (ltb i n) (eqb i v) (of_test n (λ j. ltb j n && eqb j v) i h)).1

pub join_entry : {A : Type 0} (n : ℕ) (a b : Bitmap) (i : ℕ) → entry (join_of n a b) i ≡ true → (entry a i ≡ true → A) → (entry b i ≡ true → A) → A
unfolding join_of
join_entry n a b i h f g =
    let e = and_true (ltb i a.len) (has a.marks i || (ltb i n && entry b i)) (of_test a.len (λ j. ltb j a.len && (has a.marks j || (ltb j n && entry b j))) i h) in
    or_cases (has a.marks i) (ltb i n && entry b i) e.1 (λ x. f (true_and (ltb i a.len) (has a.marks i) e.0 x)) (λ x. g (and_true (ltb i n) (entry b i) x).1)

module _ (nay : Noes) (n : ℕ) where
  -- unanimity over backed marks: all votes are yes
  unanimous_yes : (t : ℕ) (b : Bitmap) → Backed nay n t b → unanimous_of n b ≡ true → AllYes nay n t
  unfolding unanimous_of
  unanimous_yes t b h u i l =
      let e = and_true (leb n b.len) (all_of b.len (λ j. has b.marks j)) u in
      let k : i < b.len = omega (arith, leb-true n b.len e.0) in
      h i l (true_and (ltb i b.len) (has b.marks i) (lt-ltb i b.len k) (all_at b.len (λ j. has b.marks j) e.1 i k))

  filled_claim : (t : ℕ) (f : TwoPcPhase) (b : Bitmap) → Claim nay n t f b → Claim nay n t f (filled_of n b)
  filled_claim t Prepare b s = λ i l g. s i l (filled_entry n b i g)
  filled_claim t Committed b s = s
  filled_claim t Aborted b s = s

  ensure_sound : (p : CeTwoPcPacket) → Sound nay n p → Sound nay n (ensure_of n p)
  unfolding ensure_of
  ensure_sound p s = filled_claim p.term p.phase p.flags_bitmap s

  -- a no for the own position aborts, a yes marks it
  voiced_sound : (v : ℕ) → v < n → (p : CeTwoPcPacket) (f : TwoPcPhase) → p.phase ≡ f → Sound nay n p → Sound nay n (voiced_of nay n v p f)
  unfolding voiced_of decided_of acknowledged_of
  voiced_sound v lv p Prepare e s =
      let b : Backed nay n p.term p.flags_bitmap = subst (λ (f : TwoPcPhase). Claim nay n p.term f p.flags_bitmap) e s in
      either_cases (Sound nay n) (nay p.term v)
      (λ x. (v, lv, x))
      (λ x. subst (λ (f : TwoPcPhase). Claim nay n p.term f (marked_of v p.flags_bitmap)) (sym e)
      (λ i l g. marked_entry v p.flags_bitmap i g (b i l) (λ q. ap (nay p.term) q ∙ x)))
  voiced_sound v lv p Committed e s =
      subst (λ (f : TwoPcPhase). Claim nay n p.term f (marked_of v p.flags_bitmap)) (sym e)
      (subst (λ (f : TwoPcPhase). Claim nay n p.term f p.flags_bitmap) e s)
  voiced_sound v lv p Aborted e s =
      subst (λ (f : TwoPcPhase). Claim nay n p.term f (marked_of v p.flags_bitmap)) (sym e)
      (subst (λ (f : TwoPcPhase). Claim nay n p.term f p.flags_bitmap) e s)

  settled_sound : (v : ℕ) (d : Draft) (f : TwoPcPhase) → d.packet.phase ≡ f → Sound nay n d.packet → Sound nay n (settled_of n v d f).packet
  unfolding settled_of decided_of
  settled_sound v d Prepare e s =
      either_cases (λ (c : Draft). Sound nay n c.packet) (unanimous_of n d.packet.flags_bitmap)
      (λ u. unanimous_yes d.packet.term d.packet.flags_bitmap
      (subst (λ (f : TwoPcPhase). Claim nay n d.packet.term f d.packet.flags_bitmap) e s) u)
      (λ x. s)
  settled_sound v d Committed e s = s
  settled_sound v d Aborted e s = s

  adopted_sound : (v : ℕ) → v < n → (p : CeTwoPcPacket) → Sound nay n p → Sound nay n (adopted_of nay n v p)
  unfolding adopted_of
  adopted_sound v lv p s =
      let d : Draft = record { packet = voiced_of nay n v (ensure_of n p) (ensure_of n p).phase; news = true } in
      settled_sound v d d.packet.phase refl (voiced_sound v lv (ensure_of n p) (ensure_of n p).phase refl (ensure_sound p s))

  -- equal phases of one term: the join claims no more than the two
  join_claim : (t : ℕ) (f g : TwoPcPhase) → rank_of f ≡ rank_of g → (a b : Bitmap) → Claim nay n t f a → Claim nay n t g b → Claim nay n t f (join_of n a b)
  unfolding rank_of
  join_claim t Prepare Prepare e a b p q = λ i l h. join_entry n a b i h (p i l) (q i l)
  join_claim t Prepare Committed e a b p q = absurd (omega arith)
  join_claim t Prepare Aborted e a b p q = absurd (omega arith)
  join_claim t Committed g e a b p q = p
  join_claim t Aborted g e a b p q = p

  raised_sound : (l r : CeTwoPcPacket) → l.term ≡ r.term → Sound nay n l → Sound nay n r → Sound nay n (raised_of n l r).packet
  unfolding raised_of
  raised_sound l r e p q =
      let q' : Claim nay n l.term r.phase r.flags_bitmap = rw e q in
      either_cases (λ (d : Draft). Sound nay n d.packet) (ltb (rank_of l.phase) (rank_of r.phase))
      (λ x. q')
      (λ x. either_cases (λ (d : Draft). Sound nay n d.packet) (eqb (rank_of l.phase) (rank_of r.phase))
      (λ y. join_claim l.term l.phase r.phase (eqb-true _ _ y) l.flags_bitmap r.flags_bitmap p q')
      (λ y. p))

  own_sound : (v : ℕ) → v < n → (d : Draft) → Sound nay n d.packet → Sound nay n (own_of nay n v d).packet
  unfolding own_of
  own_sound v lv d s =
      either_cases (λ (c : Draft). Sound nay n c.packet) (ltb v d.packet.flags_bitmap.len)
      (λ x. either_cases (λ (c : Draft). Sound nay n c.packet) (has d.packet.flags_bitmap.marks v)
      (λ y. s)
      (λ y. voiced_sound v lv d.packet d.packet.phase refl s))
      (λ x. s)

  same_sound : (v : ℕ) → v < n → (l r : CeTwoPcPacket) → l.term ≡ r.term → Sound nay n l → Sound nay n r
      → Sound nay n (same_term_of nay n v l r).packet
  unfolding same_term_of ensure_of
  same_sound v lv l r e p q =
      let d = own_of nay n v (raised_of n (ensure_of n l) (ensure_of n r)) in
      settled_sound v d d.packet.phase refl
      (own_sound v lv (raised_of n (ensure_of n l) (ensure_of n r)) (raised_sound (ensure_of n l) (ensure_of n r) e (ensure_sound l p) (ensure_sound r q)))

  heard_sound : (v : ℕ) → v < n → (l : Payload) (p : CeTwoPcPacket) (h : Held) → l.held ≡ h → SoundHeld nay n l → Sound nay n p
      → SoundHeld nay n (heard_of nay n v l p h).payload
  unfolding heard_of outdated
  heard_sound v lv l p Empty e s q = adopted_sound v lv p q
  heard_sound v lv l p Unreadable e s q = s
  heard_sound v lv l p Packet e s q =
      let t : Sound nay n l.packet = subst (SoundBy nay n l.packet) e s in
      either_cases (λ (m : Merged). SoundHeld nay n m.payload) (ltb l.packet.term p.term)
      (λ x. adopted_sound v lv p q)
      (λ x. either_cases (λ (m : Merged). SoundHeld nay n m.payload) (outdated p.term l.packet.term)
      (λ y. s)
      (λ y. either_cases (λ (m : Merged). SoundHeld nay n m.payload) (same_term_of nay n v l.packet p).news
      (λ z. same_sound v lv l.packet p (equal l.packet.term p.term x y) t q)
      (λ z. s)))

  merged_sound : (v : ℕ) → v < n → (l : Payload) (p : CeTwoPcPacket) (h : Held) → SoundHeld nay n l → SoundBy nay n p h
      → SoundHeld nay n (merged_by nay n v l p h).payload
  unfolding merged_by
  merged_sound v lv l p Empty s q = s
  merged_sound v lv l p Unreadable s q = s
  merged_sound v lv l p Packet s q = heard_sound v lv l p l.held refl s q

pub merges_sound : MergesSound
unfolding merge_of
merges_sound nay n v l r lv s q = merged_sound nay n v lv l r.packet r.held s q

pub proposes_sound : ProposesSound
unfolding proposal_of
proposes_sound nay n v t lv = adopted_sound nay n v lv (blank n (add64 t 1)) (λ i l h. absurd (false≢true (sym (has_none i) ∙ (and_true (ltb i n) (has 0 i) h).1)))

pub never_both : NeverBoth
never_both nay n p q s u e ep eq =
    let yes_all : AllYes nay n p.term = subst (λ (f : TwoPcPhase). Claim nay n p.term f p.flags_bitmap) ep s in
    let no_one : SomeNo nay n q.term = subst (λ (f : TwoPcPhase). Claim nay n q.term f q.flags_bitmap) eq u in
    false≢true (sym (yes_all no_one.0 no_one.1) ∙ ap (λ (t : ℕ). nay t no_one.0) e ∙ no_one.2)
