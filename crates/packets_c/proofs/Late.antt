-- Late frames on texts: what is read of every text that is ever held is sound. The laws of specs/Desk carry it over
-- from packets to texts; how a text is spelt is not looked at.
-- Assumes nothing.
use Rattle.std.specs.Prelude.{Result, Ok, Err}
use Rattle.limits.specs.declared.refusals.Refusal.{Refusal}
use mathlib.Core.Path.{◌≡◌, refl, sym, ap₂, subst}
use mathlib.Core.Bool.{Bool, true, false}
use mathlib.Core.List.{List, [], ◌∷◌, map}
use Prim.Native.Nat.{ℕ, zero, suc}
use lib.Dec.{eqb}
use lib.ListN.{get_or, take}
use borrow.Author.Tests.{eqb-true, eqb-false}
use Rattle.merges.specs.Votes.{no_of}
use Rattle.merges.specs.Merging.{payload_of}
use Rattle.merges.specs.Sound.{SoundHeld}
use Rattle.merges.specs.Late.{Event, Propose, Deliver}
use Rattle.packets_c.specs.Desk.{desk_of, proposed_of, proposed_left}
use Rattle.packets_c.specs.Late.{Place, emptied, no_place, Moment, opening, History, place_at, proposed, merging, happened, history, read_of, LateTexts}
use Rattle.merges.specs.declared.votes.Voting.{Voting}
use Rattle.merges.proofs.Safety.{merges_sound, proposes_sound, never_both}
use Rattle.loops.specs.Stores.{set_all}
use Rattle.packets_c.proofs.Desks.{refused_leaves}
use Rattle.packets_c.proofs.Texting.{
  texts_follow,
  proposal_follows,
  copy_reads,
  may_propose,
  accepted_proposal,
  accepted_merge,
}

module _ (s : Voting) where
  abbrev SoundPlace : Place → Type 0
  SoundPlace x = SoundHeld (no_of s) s.n (read_of x)

  abbrev SoundAll : List Place → Type 0
  SoundAll l = (u : ℕ) → SoundPlace (get_or l u no_place)

  empty_sound : (b : List ℕ) → SoundPlace (emptied b)
  unfolding payload_of
  empty_sound b = tt

  opening_sound : (l : List (List ℕ)) → SoundAll (map emptied l)
  opening_sound [] u = empty_sound []
  opening_sound (b ∷ l) zero = empty_sound b
  opening_sound (b ∷ l) (suc u) = opening_sound l u

  emptied_sound : (l : List Place) → SoundAll (map (λ (x : Place). emptied x.buffer) l)
  emptied_sound [] u = empty_sound []
  emptied_sound (x ∷ l) zero = empty_sound x.buffer
  emptied_sound (x ∷ l) (suc u) = emptied_sound l u

  -- ---- one event
  proposal_sound : (v t : ℕ) (buf : List ℕ) (len : ℕ) → proposed_of s v t buf ≡ Ok len
      → SoundPlace (record { buffer = proposed_left s v t buf; len = len })
  proposal_sound v t buf len k =
      subst (SoundHeld (no_of s) s.n) (sym (proposal_follows s v t buf len k))
      (proposes_sound (no_of s) s.n v t (may_propose s.n v t tt (accepted_proposal s v t buf len k)).1)

  module _ (v : ℕ) (l r : Place) (p : SoundPlace l) (q : SoundPlace r) where
    abbrev copy : List ℕ
    copy = take r.len r.buffer

    abbrev refusal : ℕ
    refusal = (desk_of s v l.buffer l.len copy r.len 0).refusal

    copy_sound : SoundHeld (no_of s) s.n (payload_of copy r.len)
    copy_sound = subst (SoundHeld (no_of s) s.n) (sym (copy_reads r.buffer r.len)) q

    taken_sound : refusal ≡ 0 → SoundPlace (merging s v l r)
    taken_sound k =
        subst (SoundHeld (no_of s) s.n) (sym (texts_follow s v l.buffer l.len copy r.len 0 k))
        (merges_sound (no_of s) s.n v (read_of l) (payload_of copy r.len)
        (accepted_merge s v l.buffer l.len copy r.len 0 k) p copy_sound)

    left_sound : (refusal ≡ 0 → ⊥) → SoundPlace (merging s v l r)
    left_sound k =
        let kept = refused_leaves s v l.buffer l.len copy r.len 0 k in
        subst (SoundHeld (no_of s) s.n) (sym (ap₂ payload_of kept.0 kept.1)) p

    merging_sound : SoundPlace (merging s v l r)
    merging_sound = by (eqb refusal 0) refl
      where
        by : (b : Bool) → eqb refusal 0 ≡ b → SoundPlace (merging s v l r)
        by true e = taken_sound (eqb-true refusal 0 e)
        by false e = left_sound (eqb-false refusal 0 e)

  -- ---- all moments
  abbrev Past : History → Type 0
  Past h = (m : ℕ) → SoundAll (get_or h m (opening 0 [])).places

  happened_sound : (e : Event) (h : History) (a : Moment) → Past h → SoundAll a.places
      → SoundAll (happened s e h a).places
  unfolding happened
  happened_sound (Propose v) h a p q = by (proposed_of s v a.term (get_or a.places v no_place).buffer) refl
    where
      by : (r : Result ℕ Refusal) → proposed_of s v a.term (get_or a.places v no_place).buffer ≡ r → SoundAll (proposed s v a r).places
      by (Ok len) e =
          set_all SoundPlace no_place (map (λ (x : Place). emptied x.buffer) a.places) v
          (record { buffer = proposed_left s v a.term (get_or a.places v no_place).buffer; len = len })
          (emptied_sound a.places) (proposal_sound v a.term (get_or a.places v no_place).buffer len e)
      by (Err k) e = q
  happened_sound (Deliver v m u) h a p q =
      set_all SoundPlace no_place a.places v (merging s v (get_or a.places v no_place) (place_at h m u)) q
      (merging_sound v (get_or a.places v no_place) (place_at h m u) (q v) (p m u))

  past_more : (a : Moment) (h : History) → SoundAll a.places → Past h → Past (a ∷ h)
  past_more a h q p zero = q
  past_more a h q p (suc m) = p m

  history_sound : (es : List Event) (h : History) → Past h → Past (history s es h)
  unfolding history
  history_sound [] h p = p
  history_sound (e ∷ es) [] p = p
  history_sound (e ∷ es) (a ∷ h) p =
      history_sound es (happened s e (a ∷ h) a ∷ a ∷ h)
      (past_more (happened s e (a ∷ h) a) (a ∷ h) (happened_sound e (a ∷ h) a p (p zero)) p)

  ever_sound : (t : ℕ) (buffers : List (List ℕ)) (es : List Event) → Past (history s es (opening t buffers ∷ []))
  ever_sound t buffers es =
      history_sound es (opening t buffers ∷ [])
      (past_more (opening t buffers) [] (opening_sound buffers) (λ m u. empty_sound []))

pub late_texts : LateTexts
late_texts s t buffers es p q x y =
    never_both (no_of s) s.n p q
    (subst (SoundHeld (no_of s) s.n) x.2 (ever_sound s t buffers es x.0 x.1))
    (subst (SoundHeld (no_of s) s.n) y.2 (ever_sound s t buffers es y.0 y.1))
