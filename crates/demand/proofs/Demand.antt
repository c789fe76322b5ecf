-- Demand 3: by induction over the list of calls, from what each call does. Assumes nothing.
use Prim.Native.Nat.{ℕ, ◌+◌, ◌*◌, ◌≤◌, ◌<◌}
use mathlib.Core.Logic.{◌⊎◌, inl, inr}
use mathlib.Core.Bool.{Bool}
use mathlib.Core.List.Memᴰ
use mathlib.Core.List.{List, [], ◌∷◌, Memᴰ}
use mathlib.Core.Path.{◌≡◌, refl, sym, ap, subst, ◌∙◌}
use lib.ListN.{length, take}
use native.Mathlib.Nat.{zero-add}
use native.Mathlib.Omega.{arith}
use Rattle.merges.specs.Merging.{rank_of}
use Rattle.merges.specs.Sound.{Sound, SoundBy, Claim, AllYes, SomeNo}
use Rattle.packets.specs.declared.TwoPcPhase.{TwoPcPhase}
use Rattle.packets.specs.declared.TwoPcPhase.TheVariants.{Prepare, Committed, Aborted}
use Rattle.engines.specs.Nodes.{total}
use Rattle.room.specs.declared.room.RoomConf.{RoomConf}
use Rattle.room.specs.declared.room.Room.{Room}
use Rattle.room.specs.Kinds.{positions_of}
use Rattle.room.specs.Capturing.{noes_of}
use Rattle.room.specs.Rooms.{size_of, held_at, opened_by}
use Rattle.demand.specs.Calls.{Call, Propose, CaptureRound, PipelineRound, Read, handed, ticks, after, elapsed, moments}
use Rattle.demand.specs.Demand.{AllVoteYes, Holds, Demand3}
use Rattle.demand.specs.Texts.{HoldsValue}
use Rattle.demand.proofs.Values.{value_held}
use Rattle.engines.proofs.Sums.{first_total}
use Rattle.room.proofs.Moments.{Inv, Le, le_same, le_more, Before, before_cases, then_later, Way, way_none}
use Rattle.room.proofs.Calling.{opened, term_at, propose_way, capture_way}
use Rattle.room.proofs.Flooding.{pipeline_way}

-- ---- one call

pub call_way : (c : Call) (r : Room) → Inv r → Way r (ticks c r) (handed c r)
unfolding ticks handed
call_way (Propose v) r i = propose_way r v i
call_way (CaptureRound ws cursor rows used) r i = capture_way ws (length rows) used cursor r i
call_way (PipelineRound ws cursor rows used) r i = pipeline_way ws (length rows) used cursor r i
call_way (Read q) r i = way_none r i

-- ---- a list of calls: the invariant, the slots, and every moment before

pub record Ran (cs : List Call) (r : Room) : Type 0 where
  pub inv : Inv (after cs r)
  pub slots : (after cs r).network.slot ≡ r.network.slot + elapsed cs r
  pub le : Le r (after cs r)
  pub before : (x : Room) → Memᴰ x (moments cs r) → Before x (after cs r)

either_of : {A B P : Type 0} → (A → P) → (B → P) → A ⊎ B → P
either_of f g (inl a) = f a
either_of f g (inr b) = g b

pub ran : (cs : List Call) (r : Room) → Inv r → Ran cs r
unfolding after elapsed moments
ran [] r i =
    record {
      inv = i;
      slots = omega arith;
      le = le_same r;
      before = λ x h. rw (Memᴰ.eq_of_singleton h) (record { inv = i; le = le_same r });
    }
ran (c ∷ cs) r i =
    let w = call_way c r i in
    let t = ran cs (handed c r) w.inv in
    let l : Le r (after cs (handed c r)) = le_more w.le t.le in
    record {
      inv = t.inv;
      slots = omega (arith, t.slots, w.slots);
      le = l;
      before = λ x h. before_cases (record { inv = i; le = l })
          (λ y. either_of (λ z. then_later (w.before x z) t.le) (λ z. t.before x z) (Memᴰ.append_cases (ticks c r) y))
          (Memᴰ.cases_cons h);
    }

-- ---- what the invariant of two moments and the order between them come to

-- what a position that holds a phase claims
pub claimed : (r : Room) (v t : ℕ) (f : TwoPcPhase) → Inv r → HoldsValue r v t f → Claim (noes_of r.conf) (size_of r) t f (held_at r v).packet.flags_bitmap
claimed r v t f i h =
    let p = (held_at r v).packet in
    let nay = noes_of r.conf in
    let s : Sound nay (size_of r) p = subst (SoundBy nay (size_of r) p) h.held (i.held v).sound in
    subst (λ (k : ℕ). Claim nay (size_of r) k f p.flags_bitmap) h.term
    (subst (λ (g : TwoPcPhase). Claim nay (size_of r) p.term g p.flags_bitmap) h.phase s)

-- all yes and one no
pub apart : (nay : ℕ → ℕ → Bool) (n t : ℕ) → AllYes nay n t → SomeNo nay n t → ⊥
apart nay n t a s = let z : ◌≡◌ {A = ℕ} 0 1 = cc (a s.0 s.1, s.2) in omega arith

commit_rank : (f : TwoPcPhase) → rank_of Committed ≤ rank_of f → (f ≡ Aborted → ⊥) → f ≡ Committed
unfolding rank_of
commit_rank Prepare l h = absurd (omega arith)
commit_rank Committed l h = refl
commit_rank Aborted l h = absurd (h refl)

abort_rank : (f : TwoPcPhase) → rank_of Aborted ≤ rank_of f → f ≡ Aborted
unfolding rank_of
abort_rank Prepare l = absurd (omega arith)
abort_rank Committed l = absurd (omega arith)
abort_rank Aborted l = refl

module _ {a b : Room} (i : Inv a) (j : Inv b) (l : Le a b) where
  -- what is held for a term is held for it in no lower phase later
  up : (v t : ℕ) (f g : TwoPcPhase) → HoldsValue a v t f → HoldsValue b v t g → rank_of f ≤ rank_of g
  up v t f g x y =
      let e : (held_at b v).packet.term ≡ b.capture.term = term_at (held_at b v) (j.held v) y.held in
      let w = l.held v x.held (omega (arith, e, x.term, y.term)) in
      let k = w.packet.phase (y.term ∙ sym x.term) in
      subst (λ (p : TwoPcPhase). rank_of p ≤ rank_of g) x.phase (subst (λ (p : TwoPcPhase). rank_of (held_at a v).packet.phase ≤ rank_of p) y.phase k)

  -- the votes are those of the same room
  yes_later : (t : ℕ) → AllVoteYes a t → AllVoteYes b t
  yes_later t y = subst (λ (c : RoomConf). AllYes (noes_of c) (positions_of c) t) (sym l.fixed) y

  pub holds : Holds b b.network.slot a b
  holds =
      let nay = noes_of b.conf in
      let before = value_held a i in
      let present = value_held b j in
      record {
        fixed = refl;
        slot = refl;
        counts = first_total b.network.nodes j.counts;
        logged = λ v k h m. record { there = omega (arith, (l.logs v).longer); same = (l.logs v).kept k m };
        agreed = λ u v t x y.
            apart nay (size_of b) t (claimed b u t Committed j (present u t Committed x)) (claimed b v t Aborted j (present v t Aborted y));
        committed = λ v t x. claimed b v t Committed j (present v t Committed x);
        aborted = λ v t x. claimed b v t Aborted j (present v t Aborted x);
        commit_firm = λ v t f x y.
            commit_rank f (up v t Committed f (before v t Committed x) (present v t f y))
            (λ e. apart nay (size_of b) t (yes_later t (claimed a v t Committed i (before v t Committed x)))
            (claimed b v t Aborted j (subst (HoldsValue b v t) e (present v t f y))));
        abort_firm = λ v t f x y. abort_rank f (up v t Aborted f (before v t Aborted x) (present v t f y));
      }

-- the same of the room as it was opened, since nothing fixed has changed
pub renamed : {a b o : Room} {e : ℕ} → b.conf ≡ o.conf → b.network.slot ≡ e → Holds b b.network.slot a b → Holds o e a b
renamed {a} {b} {o} {e} p q h =
    record {
      fixed = p;
      slot = q;
      counts = subst (λ (d : RoomConf). total (take (positions_of d) b.network.nodes) ≡ positions_of d * e) p (subst (λ (k : ℕ). total (take (size_of b) b.network.nodes) ≡ size_of b * k) q h.counts);
      logged = λ v k l m. h.logged v k (subst (λ (d : RoomConf). v < positions_of d) (sym p) l) m;
      agreed = h.agreed;
      committed = λ v t x. subst (λ (d : RoomConf). AllYes (noes_of d) (positions_of d) t) p (h.committed v t x);
      aborted = λ v t x. subst (λ (d : RoomConf). SomeNo (noes_of d) (positions_of d) t) p (h.aborted v t x);
      commit_firm = h.commit_firm;
      abort_firm = h.abort_firm;
    }

pub demand3 : Demand3
demand3 asked l e calls a h =
    let o = opened_by asked in
    let s = opened asked l e in
    let t = ran calls o s.inv in
    let x = t.before a h in
    renamed t.le.fixed (t.slots ∙ ap (λ (k : ℕ). k + elapsed calls o) s.slot ∙ zero-add (elapsed calls o)) (holds x.inv t.inv x.le)
