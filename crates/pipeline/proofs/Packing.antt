-- Different round packets stand for different packets, and `same_packet` tells them apart.
use Rattle.std.proofs.Common.{◌≡◌, ℕ, suc, Bool, true, false, Option, Some, None, eqb, ltb, sym, refl, ap, ◌∙◌, arith, eq-eqb, eqb-true}
use mir.Val.{bool_byte}
use Rattle.marks.specs.Sets.{and_true, true_and}
use Rattle.packets.specs.Packets.{pipeline_text, ValidPipeline}
use Rattle.packets.proofs.Promises.{pipeline_promises}
use Rattle.loops.specs.Pick.{either}
use Rattle.packets.specs.declared.TwoPcPhase.{TwoPcPhase}
use Rattle.packets.specs.declared.TwoPcPhase.TheVariants.{Prepare, Committed, Aborted}
use Rattle.packets.specs.declared.Data.{Data}
use Rattle.packets.specs.declared.TwoPcPacket.{TwoPcPacket}
use Rattle.pipeline.specs.Pipeline.{data_of, phase_of, piggyback_tx, piggyback_state, packet_of, same_bool, same_piggyback, same_packet}
use Rattle.pipeline.specs.declared.two_pc_pipeline.Outcome.{Outcome}
use Rattle.pipeline.specs.declared.two_pc_pipeline.RoundPacket.{RoundPacket}

-- the data is there just if the packet is fresh
some_data : (s : Bool) (x y : Data) → x.len ≡ 3 → y.len ≡ 4 → (either s x y).len ≡ 0 → ⊥
some_data true x y e g h = omega arith
some_data false x y e g h = omega arith

fresh_same : (a b : Bool) (t : ℕ) → (data_of a t).len ≡ (data_of b t).len → a ≡ b
unfolding data_of
fresh_same true true t h = refl
fresh_same false false t h = refl
fresh_same true false t h = absurd (some_data (ltb t 10) _ _ refl refl h)
fresh_same false true t h = absurd (some_data (ltb t 10) _ _ refl refl (sym h))

abbrev tx_tag : Option ℕ → ℕ
tx_tag None = 0
tx_tag (Some t) = suc t

abbrev phase_tag : TwoPcPhase → ℕ
phase_tag Prepare = 0
phase_tag Committed = 1
phase_tag Aborted = 2

abbrev state_tag : Option TwoPcPhase → ℕ
state_tag None = 0
state_tag (Some p) = suc (phase_tag p)

outcome_same : (o p : Bool) → phase_tag (phase_of o) ≡ phase_tag (phase_of p) → o ≡ p
outcome_same true true h = refl
outcome_same false false h = refl
outcome_same true false h = absurd (omega arith)
outcome_same false true h = absurd (omega arith)

next_same : {a b : ℕ} → suc a ≡ suc b → a ≡ b
next_same h = omega arith

abbrev told : ℕ → Bool → Option Outcome
told t b = Some (record { tx = t; committed = b })

told_same : (t u : ℕ) (b c : Bool) → t ≡ u → b ≡ c → told t b ≡ told u c
told_same t u b c e g = rw (e, g)

some_same : {o p : Outcome} → o.tx ≡ p.tx → o.committed ≡ p.committed → ◌≡◌ {A = Option Outcome} (Some o) (Some p)
some_same {o} {p} e g = told_same o.tx p.tx o.committed p.committed e g

piggyback_same : (a b : Option Outcome) → tx_tag (piggyback_tx a) ≡ tx_tag (piggyback_tx b) → state_tag (piggyback_state a) ≡ state_tag (piggyback_state b) → a ≡ b
piggyback_same None None e g = refl
piggyback_same None (Some p) e g = absurd (omega arith)
piggyback_same (Some o) None e g = absurd (omega arith)
piggyback_same (Some o) (Some p) e g = some_same (next_same e) (outcome_same o.committed p.committed (next_same g))

abbrev packed : ℕ → ℕ → Bool → ℕ → Bool → ℕ → Option Outcome → RoundPacket
packed t b a k f i q = record { tx = t; bits = b; abort = a; nack = k; fresh = f; sender = i; piggyback = q }

fields_same : {t t₂ b b₂ k k₂ i i₂ : ℕ} {a a₂ f f₂ : Bool} {q q₂ : Option Outcome} → t ≡ t₂ → b ≡ b₂ → a ≡ a₂ → k ≡ k₂ → f ≡ f₂ → i ≡ i₂ → q ≡ q₂ → packed t b a k f i q ≡ packed t₂ b₂ a₂ k₂ f₂ i₂ q₂
fields_same e1 e2 e3 e4 e5 e6 e7 = rw (e1, e2, e3, e4, e5, e6, e7)

-- No two round packets stand for one packet.
pub packet_injective : (n : ℕ) (a b : RoundPacket) → packet_of n a ≡ packet_of n b → a ≡ b
unfolding packet_of
packet_injective n a b e =
    let t = ap (λ (p : TwoPcPacket). p.transaction_id) e in
    fields_same t (ap (λ (p : TwoPcPacket). p.flags_bitmap.marks) e) (ap (λ (p : TwoPcPacket). p.abort_flag) e) (ap (λ (p : TwoPcPacket). p.nack_tx_id) e)
    (fresh_same a.fresh b.fresh b.tx (ap (λ (k : ℕ). (data_of a.fresh k).len) (sym t) ∙ ap (λ (p : TwoPcPacket). p.transaction_data.len) e))
    (ap (λ (p : TwoPcPacket). p.sender) e)
    (piggyback_same a.piggyback b.piggyback (ap (λ (p : TwoPcPacket). tx_tag p.piggyback_tx) e) (ap (λ (p : TwoPcPacket). state_tag p.piggyback_state) e))

-- ---- the test that the code makes

bool_true : (a b : Bool) → same_bool a b ≡ true → a ≡ b
bool_true true true h = refl
bool_true false false h = refl
bool_true true false h = sym h
bool_true false true h = h

bool_self : (a : Bool) → same_bool a a ≡ true
bool_self true = refl
bool_self false = refl

piggyback_true : (a b : Option Outcome) → same_piggyback a b ≡ true → a ≡ b
piggyback_true None None h = refl
piggyback_true None (Some p) h = absurd (no h)
  where
    no : false ≡ true → ⊥
    no e = omega (arith, ap bool_byte e)
piggyback_true (Some o) None h = absurd (no h)
  where
    no : false ≡ true → ⊥
    no e = omega (arith, ap bool_byte e)
piggyback_true (Some o) (Some p) h =
    let q = and_true (eqb o.tx p.tx) (same_bool o.committed p.committed) h in some_same (eqb-true o.tx p.tx q.0) (bool_true o.committed p.committed q.1)

piggyback_self : (a : Option Outcome) → same_piggyback a a ≡ true
piggyback_self None = refl
piggyback_self (Some o) = true_and (eqb o.tx o.tx) (same_bool o.committed o.committed) (eq-eqb o.tx o.tx refl) (bool_self o.committed)

-- What it takes for the same is the same ..
pub same_packet_lem : (a b : RoundPacket) → same_packet a b ≡ true → a ≡ b
unfolding same_packet
same_packet_lem a b h =
    let q1 = and_true _ _ h in
    let q2 = and_true _ _ q1.1 in
    let q3 = and_true _ _ q2.1 in
    let q4 = and_true _ _ q3.1 in
    let q5 = and_true _ _ q4.1 in
    let q6 = and_true _ _ q5.1 in
    fields_same (eqb-true a.tx b.tx q1.0) (eqb-true a.bits b.bits q2.0) (bool_true a.abort b.abort q3.0) (eqb-true a.nack b.nack q4.0)
    (bool_true a.fresh b.fresh q5.0) (eqb-true a.sender b.sender q6.0) (piggyback_true a.piggyback b.piggyback q6.1)

pub same_self : (a : RoundPacket) → same_packet a a ≡ true
unfolding same_packet
same_self a =
    true_and _ _ (eq-eqb a.tx a.tx refl) (true_and _ _ (eq-eqb a.bits a.bits refl) (true_and _ _ (bool_self a.abort) (true_and _ _ (eq-eqb a.nack a.nack refl)
    (true_and _ _ (bool_self a.fresh) (true_and _ _ (eq-eqb a.sender a.sender refl) (piggyback_self a.piggyback))))))

-- .. and packets of equal bytes are the same to it, as long as their fields are within the limits of the text.
pub same_bytes : (n : ℕ) (a b : RoundPacket) → ValidPipeline (packet_of n a) → ValidPipeline (packet_of n b) → pipeline_text (packet_of n a) ≡ pipeline_text (packet_of n b) → same_packet a b ≡ true
same_bytes n a b v u e = by (packet_injective n a b (pipeline_promises.one (packet_of n a) (packet_of n b) v u e))
  where
    by : a ≡ b → same_packet a b ≡ true
    by q = rw q (same_self b)
