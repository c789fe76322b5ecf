-- Late frames: every packet that is ever held is sound, whatever the votes; and so in a room.
-- Assumes nothing.
use Rattle.std.proofs.Common.{ℕ, zero, suc, not, ◌&&◌, eqb, ltb, List, [], ◌∷◌, get_or, replicate, subst, ltb-true}
use Rattle.limits.specs.Limits.{last_term}
use Rattle.loops.specs.Stores.{set_all}
use Rattle.merges.specs.Votes.{no_of}
use Rattle.merges.specs.Merging.{Noes, merge_of, proposal_of, no_payload}
use Rattle.marks.specs.Sets.{and_true}
use Rattle.merges.specs.Sound.{Sound, SoundHeld}
use Rattle.packets.specs.declared.CeTwoPcPacket.{CeTwoPcPacket}
use Rattle.merges.specs.Late.{Moment, opening, Event, Propose, Deliver, History, held_at, happened, after, history, EverHeld, LateFrames, LateInRoom}
use Rattle.merges.specs.declared.merging.Held.TheVariants.{Packet}
use Rattle.merges.specs.declared.merging.Payload.{Payload}
use Rattle.merges.proofs.Safety.{either_cases, merges_sound, proposes_sound, never_both}

module _ (nay : Noes) (n : ℕ) where
  abbrev pub SoundAll : List Payload → Type 0
  SoundAll l = (u : ℕ) → SoundHeld nay n (get_or l u no_payload)

  pub nobody_sound : (k : ℕ) → SoundAll (replicate k no_payload)
  nobody_sound zero u = tt
  nobody_sound (suc k) zero = tt
  nobody_sound (suc k) (suc u) = nobody_sound k u

  abbrev Past : History → Type 0
  Past h = (m : ℕ) → SoundAll (get_or h m (opening 0 0)).held

  happened_sound : (e : Event) (h : History) (a : Moment) → Past h → SoundAll a.held → SoundAll (happened nay n e h a).held
  unfolding happened
  happened_sound (Propose v) h a p s =
      either_cases (λ (b : Moment). SoundAll b.held) (ltb v n && not (eqb a.term last_term))
      (λ t. set_all (SoundHeld nay n) no_payload (replicate n no_payload) v (record { held = Packet; packet = proposal_of nay n v a.term }) (nobody_sound n)
      (proposes_sound nay n v a.term (ltb-true v n (and_true (ltb v n) (not (eqb a.term last_term)) t).0)))
      (λ t. s)
  happened_sound (Deliver v m w) h a p s =
      either_cases (λ (b : Moment). SoundAll b.held) (ltb v n)
      (λ t. set_all (SoundHeld nay n) no_payload a.held v (merge_of nay n v (get_or a.held v no_payload) (held_at h m w)).payload s
      (merges_sound nay n v (get_or a.held v no_payload) (held_at h m w) (ltb-true v n t) (s v) (p m w)))
      (λ t. s)

  past_more : (a : Moment) (h : History) → SoundAll a.held → Past h → Past (a ∷ h)
  past_more a h s p zero = s
  past_more a h s p (suc m) = p m

  after_sound : (e : Event) (h : History) → Past h → Past (after nay n e h)
  unfolding after
  after_sound e [] p = p
  after_sound e (a ∷ h) p = past_more (happened nay n e (a ∷ h) a) (a ∷ h) (happened_sound e (a ∷ h) a p (p zero)) p

  pub history_sound : (es : List Event) (h : History) → Past h → Past (history nay n es h)
  unfolding history
  history_sound [] h p = p
  history_sound (e ∷ es) h p = history_sound es (after nay n e h) (after_sound e h p)

  pub ever_sound : (t : ℕ) (es : List Event) → Past (history nay n es (opening n t ∷ []))
  ever_sound t es = history_sound es (opening n t ∷ []) (past_more (opening n t) [] (nobody_sound n) (λ m u. tt))

-- what is held at some moment is sound
held_sound : (nay : Noes) (n t : ℕ) (es : List Event) (p : CeTwoPcPacket) → EverHeld (history nay n es (opening n t ∷ [])) p → Sound nay n p
held_sound nay n t es p x = subst (SoundHeld nay n) x.2 (ever_sound nay n t es x.0 x.1)

pub late_frames : LateFrames
late_frames nay n t es p q x y = never_both nay n p q (held_sound nay n t es p x) (held_sound nay n t es q y)

pub late_in_room : LateInRoom
late_in_room s = late_frames (no_of s) s.n
