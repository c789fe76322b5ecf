-- What the outcome of a proposal tells: each packet held is of the room's term, and demand 3 says the rest. Assumes
-- nothing.
use Prim.Native.Nat.{ℕ, ◌≤◌, ◌<◌}
use mathlib.Core.Path.{◌≡◌, refl, sym, ap, subst, ◌∙◌}
use lib.Dec.{eqb}
use borrow.Author.Tests.{lt-ltb, le-leb, eqb-true, eqb-false}
use native.Mathlib.Omega.{arith}
use Rattle.std.specs.Prelude.{Result, Ok}
use Rattle.std.specs.Result.{result_and}
use Rattle.limits.specs.declared.refusals.Refusal.{Refusal}
use Rattle.limits.proofs.Tests.{no_err, first_held, second_held}
use Rattle.graph.specs.Links.{size_test}
use Rattle.graph.proofs.Rules.{size_parts}
use Rattle.packets.specs.declared.TwoPcPhase.{TwoPcPhase}
use Rattle.packets.specs.declared.TwoPcPhase.TheVariants as phases
use Rattle.merges.specs.Sound.{AllYes, SomeNo}
use Rattle.merges.specs.Merging.{outcome_of}
use Rattle.merges.specs.Outcomes.{InPhase, OutcomeSays}
use Rattle.merges.specs.declared.merging.ProposalOutcome.{ProposalOutcome}
use Rattle.merges.specs.declared.merging.ProposalOutcome.TheVariants.{Committed, Aborted}
use Rattle.merges.proofs.Safety.{either_cases}
use Rattle.merges.proofs.Outcomes.{outcomes_say}
use Rattle.room.specs.declared.room.RoomKind.{RoomKind}
use Rattle.room.specs.declared.room.RoomKind.TheVariants as kinds
use Rattle.room.specs.declared.room.RoomConf.{RoomConf}
use Rattle.room.specs.declared.room.Room.{Room}
use Rattle.room.specs.Kinds.{positions_of}
use Rattle.room.specs.Capturing.{noes_of}
use Rattle.room.specs.declared.room.Asked.{Asked}
use Rattle.room.specs.Rooms.{size_of, held_at, new_room, opened_by}
use Rattle.room.specs.Kinds.{capture_only}
use Rattle.readings.specs.Readings.{outcome_read}
use Rattle.demand.specs.Demand.{HoldsPhase}
use Rattle.demand.specs.Texts.{HoldsValue}
use Rattle.demand.specs.Outcomes.{HasOutcome, OutcomeHolds, OutcomesHold, OneOutcome}
use Rattle.demand.proofs.Values.{value_held, text_held}
use Rattle.demand.proofs.Demand.{ran, claimed, apart, holds}
use Rattle.room.proofs.Moments.{Inv, Le}
use Rattle.room.proofs.Calling.{opened, opened_size, term_at}

-- ---- what an answer with no refusal says of the room

record Reads (r : Room) (f : ProposalOutcome) : Type 0 where
  kind : r.conf.kind ≡ kinds.Capture
  some : 0 < size_of r
  most : size_of r ≤ 64
  outcome : outcome_of (size_of r) r.capture.held ≡ f

capture_kind : (k : RoomKind) → capture_only k ≡ Ok tt → k ≡ kinds.Capture
capture_kind kinds.Capture e = refl
capture_kind kinds.Pipeline e = no_err e

reads : (r : Room) (f : ProposalOutcome) → outcome_read r ≡ Ok f → Reads r f
reads r f e =
    let told : Result ProposalOutcome Refusal = Ok (outcome_of (size_of r) r.capture.held) in
    let rest = result_and (capture_only r.conf.kind) told in
    let size = size_parts (size_of r) (first_held (size_test (size_of r)) rest f e) in
    let second = second_held (size_test (size_of r)) rest f e in
    let same = second_held (capture_only r.conf.kind) told f second in
    record {
      kind = capture_kind r.conf.kind (first_held (capture_only r.conf.kind) told f second);
      some = size.0;
      most = size.1;
      outcome = cc;
    }

-- and a capture room of 1 to 64 positions has one
reads_back : (r : Room) → r.conf.kind ≡ kinds.Capture → 0 < size_of r → size_of r ≤ 64
    → outcome_read r ≡ Ok (outcome_of (size_of r) r.capture.held)
unfolding size_test
reads_back r k h g = rw (lt-ltb 0 (size_of r) h, le-leb (size_of r) 64 g, k)

-- ---- one moment

module _ (r : Room) (i : Inv r) where
  -- what is held, with what each outcome says of it
  says : {f : ProposalOutcome} → Reads r f → OutcomeSays (size_of r) r.capture.held
  says q = outcomes_say (size_of r) r.capture.held q.most

  -- a packet that is held is of the room's term
  valued : (v t : ℕ) (f : TwoPcPhase) → r.conf.kind ≡ kinds.Capture → v < size_of r → r.capture.term ≡ t
      → InPhase f r.capture.held v → HoldsValue r v t f
  valued v t f k l e h =
      record { kind = k; position = l; held = h.held; term = term_at (held_at r v) (i.held v) h.held ∙ e; phase = h.phase }

  all_hold : (v t : ℕ) → HasOutcome r t Committed → v < size_of r → HoldsValue r v t phases.Committed
  all_hold v t x l =
      let q = reads r Committed x.reading in
      valued v t phases.Committed q.kind l x.term (((says q).everybody q.outcome).1 v l)

  one_holds : (t : ℕ) → HasOutcome r t Aborted → (v : ℕ) × HoldsValue r v t phases.Aborted
  one_holds t x =
      let q = reads r Aborted x.reading in
      let s = (says q).somebody q.outcome in
      (s.0, valued s.0 t phases.Aborted q.kind s.1 x.term s.2)

  -- and back
  phase_of : (v t : ℕ) (f : TwoPcPhase) → HoldsValue r v t f → InPhase f r.capture.held v
  phase_of v t f h = record { held = h.held; phase = h.phase }

  aborted : (v t : ℕ) (f : ProposalOutcome) → HoldsValue r v t phases.Aborted → HasOutcome r t f → f ≡ Aborted
  aborted v t f h x =
      let q = reads r f x.reading in
      sym q.outcome ∙ (says q).aborts v h.position (phase_of v t phases.Aborted h)

  committed : (t : ℕ) (f : ProposalOutcome) → ((v : ℕ) → v < size_of r → HoldsValue r v t phases.Committed) → HasOutcome r t f → f ≡ Committed
  committed t f h x =
      let q = reads r f x.reading in
      sym q.outcome ∙ (says q).commits q.some (λ v l. phase_of v t phases.Committed (h v l))

-- ---- two moments

module _ {a b : Room} (i : Inv a) (j : Inv b) (l : Le a b) where
  size : size_of b ≡ size_of a
  size = ap positions_of l.fixed

  -- a decision that is held for the room's term at a is held for it at b
  still : (v t : ℕ) (f : TwoPcPhase) → b.capture.term ≡ t → HoldsValue a v t f
      → ((g : TwoPcPhase) → HoldsPhase a v t f → HoldsPhase b v t g → g ≡ f) → HoldsValue b v t f
  still v t f e x firm =
      let g = l.held v x.held (omega (arith, e, x.term)) in
      let p = (held_at b v).packet.phase in
      let w = valued b j v t p (ap (λ (c : RoomConf). c.kind) l.fixed ∙ x.kind) (omega (arith, size, x.position)) e
      (record { held = g.held; phase = refl }) in
      subst (HoldsValue b v t) (firm p (text_held a i v t f x) (text_held b j v t p w)) w

  outcome_holds : 0 < size_of a → OutcomeHolds a b
  outcome_holds some =
      let h = holds i j l in
      record {
        answers = λ k. (outcome_of (size_of a) a.capture.held, record { reading = reads_back a k some i.size; term = refl });
        somebody = λ t x. let u = one_holds a i t x in (u.0, text_held a i u.0 t phases.Aborted u.1);
        aborts = λ v t f x. aborted a i v t f (value_held a i v t phases.Aborted x);
        everybody = λ v t x k. text_held a i v t phases.Committed (all_hold a i v t x k);
        commits = λ t f x. committed a i t f (λ v k. value_held a i v t phases.Committed (x v k));
        spared = λ v t x y.
            let u = one_holds b j t y in
            let yes : AllYes (noes_of a.conf) (size_of a) t = claimed a v t phases.Committed i (value_held a i v t phases.Committed x) in
            let no : SomeNo (noes_of b.conf) (size_of b) t = claimed b u.0 t phases.Aborted j u.1 in
            apart (noes_of b.conf) (size_of b) t (subst (λ (c : RoomConf). AllYes (noes_of c) (positions_of c) t) (sym l.fixed) yes) no;
        commit_stays = λ t f x y.
            committed b j t f
            (λ v k. still v t phases.Committed y.term (all_hold a i v t x (omega (arith, size))) (λ g. h.commit_firm v t g)) y;
        abort_stays = λ t f x y.
            let u = one_holds a i t x in
            aborted b j u.0 t f (still u.0 t phases.Aborted y.term u.1 (λ g. h.abort_firm u.0 t g)) y;
      }

-- ---- lists of calls

pub outcomes_hold : OutcomesHold
unfolding new_room
outcomes_hold asked l e calls a h =
    let t = ran calls (opened_by asked) (opened asked l e).inv in
    let x = t.before a h in
    let same : a.conf ≡ (opened_by asked).conf = sym x.le.fixed ∙ t.le.fixed in
    let n : size_of a ≡ size_of (opened_by asked) = ap positions_of same in
    let some : 0 < size_of (opened_by asked) = (opened_size asked e).0 in
    outcome_holds x.inv t.inv x.le (omega (arith, n, some))

pub one_outcome : OneOutcome
one_outcome asked l e xs ys a b g h t x y =
    let i = (opened asked l e).inv in
    let p = ran xs (opened_by asked) i in
    let q = ran ys (opened_by asked) i in
    let before = p.before a g in
    let other = q.before b h in
    let same : a.conf ≡ b.conf = sym before.le.fixed ∙ p.le.fixed ∙ sym q.le.fixed ∙ other.le.fixed in
    let yes : AllYes (noes_of a.conf) (size_of a) t = claimed a 0 t phases.Committed before.inv (all_hold a before.inv 0 t x (reads a Committed x.reading).some) in
    let u = one_holds b other.inv t y in
    let no : SomeNo (noes_of b.conf) (size_of b) t = claimed b u.0 t phases.Aborted other.inv u.1 in
    apart (noes_of b.conf) (size_of b) t (subst (λ (c : RoomConf). AllYes (noes_of c) (positions_of c) t) same yes) no
