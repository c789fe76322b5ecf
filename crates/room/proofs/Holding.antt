-- What each position holds, within a term: a packet of the present term, within the limits, that claims what the votes bear out, or nothing; and a packet grows.
-- Assumes nothing.
use Rattle.std.proofs.Common.{◌≡◌, ℕ, zero, suc, ◌<◌, ◌≤◌, ltb, List, [], ◌∷◌, get_or, set, sym, refl, ◌∙◌, arith}
use Rattle.loops.specs.Upto.{upto_holds}
use Rattle.merges.specs.Votes.{no_of}
use Rattle.merges.specs.Merging.{Merged, Noes, merge_of, no_payload}
use Rattle.merges.specs.Sound.{SoundHeld, ValidHeld, Grew, Grown}
use Rattle.merges.specs.declared.votes.Voting.{Voting}
use Rattle.packets.specs.declared.CeTwoPcPacket.{CeTwoPcPacket}
use Rattle.merges.specs.declared.merging.Held.{Held}
use Rattle.merges.specs.declared.merging.Held.TheVariants.{Empty, Unreadable, Packet}
use Rattle.merges.specs.declared.merging.Payload.{Payload}
use Rattle.merges.proofs.Safety.{either_cases, merges_sound}
use Rattle.merges.proofs.Growth.{merges_grow, merges_keep_term, empty_adopts, nothing_heard}
use Rattle.merges.proofs.Limits.{merges_valid}
use Rattle.engines.specs.Clamp.{at_most64}
use Rattle.capture.specs.Ce.{hearing_of, told_at, told_all}
use Rattle.capture.specs.Ce.{SlotMerges}

-- ---- the order of packets

pub grew_same : (p : CeTwoPcPacket) → Grew p p
grew_same p = record { term = omega arith; phase = λ e. omega arith }

pub grew_more : {p q r : CeTwoPcPacket} → Grew p q → Grew q r → Grew p r
grew_more {p} {q} {r} x y =
    record {
      term = omega (arith, x.term, y.term);
      phase = λ e. omega (arith, x.phase (omega (arith, x.term, y.term)), y.phase (omega (arith, x.term, y.term)));
    }

pub grown_same : (l : Payload) → l.held ≡ Packet → Grown l l
grown_same l h = record { held = h; packet = grew_same l.packet }

pub grown_more : {l m k : Payload} → Grown l m → Grown m k → Grown l k
grown_more x y = record { held = y.held; packet = grew_more x.packet y.packet }

-- ---- what one position holds

-- nothing, or a packet of term t; never what is no packet
abbrev pub Fit : ℕ → CeTwoPcPacket → Held → Type 0
Fit t p Empty = Unit {0}
Fit t p Unreadable = ⊥
Fit t p Packet = p.term ≡ t

pub record Good (nay : Noes) (n t : ℕ) (l : Payload) : Type 0 where
  pub sound : SoundHeld nay n l
  pub fit : Fit t l.packet l.held
  pub valid : ValidHeld l

abbrev pub AllGood : Noes → ℕ → ℕ → List Payload → Type 0
AllGood nay n t ls = (v : ℕ) → Good nay n t (get_or ls v no_payload)

-- a packet at l has grown to one at m
abbrev pub Follows : Payload → Payload → Type 0
Follows l m = l.held ≡ Packet → Grown l m

pub not_packet : {h : Held} → h ≡ Empty → h ≡ Packet → ⊥
not_packet p q = let z : ◌≡◌ {A = ℕ} 0 1 = cc in omega arith

module _ (nay : Noes) (n t v : ℕ) (l r : Payload) where
  merge_fit_by : (a b : Held) → l.held ≡ a → r.held ≡ b → Fit t l.packet a → Fit t r.packet b
      → Fit t (merge_of nay n v l r).payload.packet (merge_of nay n v l r).payload.held
  merge_fit_by a Empty p q f g =
      let e = nothing_heard nay n v l r (λ x. not_packet q x) in
      rw (e, p) f
  merge_fit_by a Unreadable p q f g = absurd g
  merge_fit_by Unreadable Packet p q f g = absurd f
  merge_fit_by Empty Packet p q f g =
      let e = empty_adopts nay n v l r p q in
      rw e.0 (e.1 ∙ g)
  merge_fit_by Packet Packet p q f g =
      let e = (merges_grow nay n v l r p).held in
      rw e (merges_keep_term nay n v l r p q (g ∙ sym f) ∙ f)

  pub merge_good : v < n → n ≤ 64 → Good nay n t l → Good nay n t r → Good nay n t (merge_of nay n v l r).payload
  merge_good h w x y =
      record {
        sound = merges_sound nay n v l r h x.sound y.sound;
        fit = merge_fit_by l.held r.held refl refl x.fit y.fit;
        valid = merges_valid nay n v l r w x.valid y.valid;
      }

-- ---- a list of payloads, one of which is replaced

pub set_each : (Q : ℕ → Payload → Type 0) (ls : List Payload) (i : ℕ) (x : Payload) → ((v : ℕ) → Q v (get_or ls v no_payload)) → Q i x → (v : ℕ) → Q v (get_or (set ls i x) v no_payload)
set_each Q [] i x h q v = h v
set_each Q (y ∷ ls) zero x h q zero = q
set_each Q (y ∷ ls) zero x h q (suc v) = h (suc v)
set_each Q (y ∷ ls) (suc i) x h q zero = h zero
set_each Q (y ∷ ls) (suc i) x h q (suc v) = set_each (λ u. Q (suc u)) ls i x (λ u. h (suc u)) q v

-- ---- a slot: each position keeps what it holds, or merges what another one held at the slot's start

module _ (s : Voting) (t : ℕ) (hears : List ℕ) (held : List Payload) (size : s.n ≤ 64) (good : AllGood (no_of s) s.n t held) where
  -- the position v holds m now
  record Heard (v : ℕ) (m : Payload) : Type 0 where
    good_now : Good (no_of s) s.n t m
    follows : Follows (get_or held v no_payload) m

  hearing : (v : ℕ) → v < s.n → Heard v (hearing_of s hears held v).payload
  unfolding hearing_of
  hearing v h =
      either_cases (λ (m : Merged). Heard v m.payload) (ltb (get_or hears v 0) 64)
      (λ x. record {
        good_now = merge_good (no_of s) s.n t v (get_or held v no_payload) (get_or held (get_or hears v 0) no_payload) h size (good v) (good (get_or hears v 0));
        follows = λ p. merges_grow (no_of s) s.n v (get_or held v no_payload) (get_or held (get_or hears v 0) no_payload) p;
      })
      (λ x. record { good_now = good v; follows = λ p. grown_same (get_or held v no_payload) p })

  heard_all : (v : ℕ) → Heard v (get_or (told_all s hears held).held v no_payload)
  unfolding told_all told_at
  heard_all =
      upto_holds (λ (x : SlotMerges). (v : ℕ) → Heard v (get_or x.held v no_payload)) (told_at s hears held) (at_most64 s.n)
      (λ i x h p. set_each Heard x.held i (hearing_of s hears held i).payload p (hearing i (omega arith)))
      (record { held = held; new_info = 0; goal_reached = 0; can_sleep = 0 })
      (λ v. record { good_now = good v; follows = λ p. grown_same (get_or held v no_payload) p })

  pub told_good : AllGood (no_of s) s.n t (told_all s hears held).held
  told_good v = (heard_all v).good_now

  pub told_follows : (v : ℕ) → Follows (get_or held v no_payload) (get_or (told_all s hears held).held v no_payload)
  told_follows v = (heard_all v).follows
