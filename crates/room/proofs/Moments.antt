-- What holds at each moment of a room, and between an earlier moment and a later one. Assumes nothing.
use Rattle.std.proofs.Common.{◌≡◌, ℕ, zero, suc, ◌+◌, ◌^◌, ◌<◌, ◌≤◌, Bool, true, false, ◌⊎◌, List, [], ◌∷◌, map, length, refl, ◌∙◌, inl, inr, arith}
use mathlib.Core.List.Memᴰ
use mathlib.Core.List.{Memᴰ}
use Rattle.loops.specs.Runs.{go}
use Rattle.limits.specs.Limits.{last_slot}
use Rattle.merges.specs.Sound.{Grown}
use Rattle.merges.specs.declared.merging.Held.TheVariants.{Packet}
use Rattle.pipeline.proofs.Growth as growth
use Rattle.pipeline.proofs.KeptLogs.{AllKept, log_of, all_more}
use Rattle.room.specs.declared.room.Room.{Room}
use Rattle.room.specs.Capturing.{noes_of}
use Rattle.room.specs.Rooms.{size_of, held_at}
use Rattle.room.specs.Slots.{stages_from}
use Rattle.engines.proofs.Sums.{Counts}
use Rattle.room.proofs.Holding.{AllGood, grown_same, grown_more}

-- at each moment
pub record Inv (r : Room) : Type 0 where
  pub size : size_of r ≤ 64
  pub counts : Counts (size_of r) r.network.slot r.network.nodes
  pub term : r.capture.term < 2 ^ 64
  pub held : AllGood (noes_of r.conf) (size_of r) r.capture.term r.capture.held

-- Between a and b. A packet held at a, of the term that is still the present one at b, has grown.
pub record Le (a b : Room) : Type 0 where
  pub fixed : b.conf ≡ a.conf
  pub logs : AllKept a.pipeline.states b.pipeline.states
  pub term : a.capture.term ≤ b.capture.term
  pub held : (v : ℕ) → (held_at a v).held ≡ Packet → b.capture.term ≤ (held_at a v).packet.term → Grown (held_at a v) (held_at b v)

pub same_logs : (r : Room) → AllKept r.pipeline.states r.pipeline.states
same_logs r j = growth.grown_same (log_of r.pipeline.states j)

pub le_same : (a : Room) → Le a a
le_same a = record { fixed = refl; logs = same_logs a; term = omega arith; held = λ v h t. grown_same (held_at a v) h }

pub le_more : {a b c : Room} → Le a b → Le b c → Le a c
le_more {a} {b} {c} x y =
    record {
      fixed = y.fixed ∙ x.fixed;
      logs = all_more a.pipeline.states b.pipeline.states c.pipeline.states x.logs y.logs;
      term = omega (arith, x.term, y.term);
      held = λ v h t.
          let one = x.held v h (omega (arith, y.term)) in
          grown_more one (y.held v one.held (omega (arith, one.packet.term)));
    }

-- x is a moment before c
pub record Before (x c : Room) : Type 0 where
  pub inv : Inv x
  pub le : Le x c

pub before_cases : {x b c : Room} {P : Type 0} → Before b c → (P → Before x c) → (x ≡ b) ⊎ P → Before x c
before_cases {x} {b} {c} y f (inl e) = rw e y
before_cases y f (inr h) = f h

pub then_later : {x b c : Room} → Before x b → Le b c → Before x c
then_later x y = record { inv = x.inv; le = le_more x.le y }

-- From a to c: the rooms after each slot on the way are ms.
pub record Way (a : Room) (ms : List Room) (c : Room) : Type 0 where
  pub inv : Inv c
  pub le : Le a c
  pub slots : c.network.slot ≡ a.network.slot + length ms
  pub before : (x : Room) → Memᴰ x ms → Before x c

pub way_none : (a : Room) → Inv a → Way a [] a
way_none a i = record { inv = i; le = le_same a; slots = omega arith; before = λ x h. absurd (Memᴰ.not-nil h) }

-- a step that ticks no slot, before and after
pub record Quiet (a b : Room) : Type 0 where
  pub inv : Inv b
  pub le : Le a b
  pub slot : b.network.slot ≡ a.network.slot

pub quiet_way : {a b : Room} → Quiet a b → Way a [] b
quiet_way q = record { inv = q.inv; le = q.le; slots = omega (arith, q.slot); before = λ x h. absurd (Memᴰ.not-nil h) }

pub first_quiet : {a b c : Room} {ms : List Room} → Quiet a b → Way b ms c → Way a ms c
first_quiet q w = record { inv = w.inv; le = le_more q.le w.le; slots = omega (arith, q.slot, w.slots); before = w.before }

pub last_quiet : {a b c : Room} {ms : List Room} → Way a ms b → Quiet b c → Way a ms c
last_quiet w q =
    record {
      inv = q.inv;
      le = le_more w.le q.le;
      slots = omega (arith, q.slot, w.slots);
      before = λ x h. then_later (w.before x h) q.le;
    }

-- a step that ticks one
pub record Slot (a b : Room) : Type 0 where
  pub inv : Inv b
  pub le : Le a b
  pub slot : b.network.slot ≡ a.network.slot + 1

pub first_slot : {a b c : Room} {ms : List Room} → Slot a b → Way b ms c → Way a (b ∷ ms) c
first_slot {a} {b} {c} {ms} q w =
    record {
      inv = w.inv;
      le = le_more q.le w.le;
      slots = omega (arith, q.slot, w.slots);
      before = λ x h. before_cases (record { inv = q.inv; le = w.le }) (λ y. w.before x y) (Memᴰ.cases_cons h);
    }

-- a round: at most k slots, and none once it is over
module _ {S : Type 0} (stop : S → Bool) (step : S → S) (view : S → Room) (moves : (s : S) → Inv (view s) → (view s).network.slot < last_slot → Slot (view s) (view (step s))) where
  go_way : (k : ℕ) (b : Bool) (s : S) → Inv (view s) → (view s).network.slot + k ≤ last_slot → Way (view s) (map view (stages_from stop step k b s)) (view (go stop step k b s))
  unfolding stages_from go
  go_way zero b s i h = way_none (view s) i
  go_way (suc k) true s i h = way_none (view s) i
  go_way (suc k) false s i h =
      let m = moves s i (omega arith) in
      first_slot m (go_way k (stop (step s)) (step s) m.inv (omega (arith, m.slot)))

  pub round_way : (k : ℕ) (s : S) → Inv (view s) → (view s).network.slot + k ≤ last_slot → Way (view s) (map view (stages_from stop step k (stop s) s)) (view (go stop step k (stop s) s))
  round_way k s i h = go_way k (stop s) s i h
