-- A state as numbers: the stores of its parts, and the answers of the entry that goes by it. Assumes nothing.
use mathlib.Core.Path.{◌≡◌, refl, sym, ap, ◌∙◌}
use mathlib.Core.Bool.{Bool, true, false}
use mathlib.Core.List.{List}
use Prim.Native.Nat.{ℕ}
use lib.ListN.{length, get_or, set}
use lib.Seq.{sets}
use Rattle.loops.specs.Pick.{either}
use Rattle.std.specs.Prelude.{Ok, Err, is_ok, [], ◌∷◌}
use mir.Val.{bool_byte}
use native.Mathlib.Omega.{arith}
use Rattle.limits.specs.Refusals.{answer_of as tell, number_of, Tested}
use Rattle.limits.specs.declared.refusals.Refusal.{Refusal}
use Rattle.limits.proofs.Tests.{no_err, number_some}
use Rattle.graph.proofs.Entries.{unless_refused, unless_done}
use Rattle.engines.specs.declared.network.Network.{Network}
use Rattle.engines.specs.declared.network.RoundConf.{RoundConf}
use Rattle.capture.specs.Capture.{start_of, round_test, CeAnswer, answer_of, buffer_of}
use Rattle.capture.specs.declared.capture.CeState.{CeState}
use Rattle.engines_c.specs.Numbers.{put_nodes, metrics_numbers, put_network}
use Rattle.engines_c.specs.Payloads.{put_held}
use Rattle.engines_c.specs.Console.{asked_test, state_at, put_state, told_of, played_told, rows_left, Answered}

pub network_put : (sent counts at : ℕ) (w : Network) (xs : List ℕ) {s t u v z : List ℕ} →
    s ≡ set xs 0 w.slot → t ≡ set s 1 w.next_row → u ≡ set t sent w.bytes_sent →
    v ≡ sets u counts (metrics_numbers w.metrics) → z ≡ put_nodes at w.nodes v → z ≡ put_network sent counts at w xs
unfolding put_network
network_put sent counts at w xs e1 e2 e3 e4 e5 = e5 ∙ rw (e4, e3, e2, e1)

pub state_put : (a : CeState) (used : ℕ) (xs : List ℕ) {u v z : List ℕ} →
    u ≡ sets xs 3 (used ∷ a.draw.at ∷ bool_byte a.ended ∷ []) → v ≡ put_network 2 8 16 a.network u →
    z ≡ put_held 528 a.held v → z ≡ put_state a used xs
unfolding put_state
state_put a used xs e1 e2 e3 = e3 ∙ rw (e2, e1)

-- a refusal has a number
named : (k : Refusal) → number_of k ≡ 0 → ⊥
named k z = let h = number_some k in omega (arith, h, z)

-- a refused round leaves its rows
buffer_kept : (ws rows : List ℕ) (used : ℕ) (conf : RoundConf) (c : CeState) (initiator cursor : ℕ) {k : Refusal}
    → (answer_of ws (length rows) used conf c initiator cursor).told ≡ Err k
    → buffer_of ws rows used conf c initiator cursor ≡ rows
unfolding answer_of buffer_of
buffer_kept ws rows used conf c initiator cursor {k} =
    go (is_ok (round_test ws (length rows) used conf (start_of conf initiator cursor c))) _ _ refl _
  where
    go : (b : Bool) (x y : CeAnswer) → x.told ≡ Ok tt → (l : List ℕ) → (either b x y).told ≡ Err k → either b l rows ≡ rows
    go true x y z l h = no_err (sym h ∙ z)
    go false x y z l h = refl

module _ (xs ws rows : List ℕ) (conf : RoundConf) (initiator : ℕ) where
  abbrev answer : CeAnswer
  answer = told_of xs ws (length rows) conf initiator

  abbrev asked : Tested
  asked = asked_test conf initiator xs

  pub not_asked : {k : Refusal} → asked ≡ Err k → Answered xs ws rows conf initiator (number_of k) xs rows
  not_asked {k} e =
      record { refusal = rw e; state = unless_refused _ _ _ (named k); rows = unless_refused _ _ _ (named k) }

  -- the round, called with what the numbers say
  module _ (fine : asked ≡ Ok tt) {told : Tested} {state c : CeState} {used start cursor : ℕ} {left : List ℕ}
      (e2 : c ≡ state_at xs) (e3 : start ≡ get_or xs 3 0) (e4 : cursor ≡ get_or xs 4 0)
      (tells : record { told = told; state = state; used = used } ≡ answer_of ws (length rows) start conf c initiator cursor)
      (wrote : left ≡ buffer_of ws rows start conf c initiator cursor) where
    ran : record { told = told; state = state; used = used } ≡ answer
    unfolding told_of
    ran = tells ∙ rw (e2, e3, e4)

    recorded : left ≡ rows_left xs ws rows conf initiator
    unfolding rows_left
    recorded = wrote ∙ rw (e2, e3, e4)

    answers : tell told ≡ tell (played_told xs ws (length rows) conf initiator)
    answers = rw fine (ap (λ (x : CeAnswer). tell x.told) ran)

    pub not_run : {k : Refusal} → told ≡ Err k → Answered xs ws rows conf initiator (number_of k) xs left
    not_run {k} e =
        record {
          refusal = sym (ap tell e) ∙ answers;
          state = unless_refused _ _ _ (named k);
          rows = wrote ∙ buffer_kept ws rows start conf c initiator cursor (sym (ap (λ (x : CeAnswer). x.told) tells) ∙ e)
              ∙ unless_refused _ _ _ (named k);
        }

    pub all_run : {after : List ℕ} → told ≡ Ok tt → after ≡ put_state state used xs → Answered xs ws rows conf initiator 0 after left
    all_run e p =
        record {
          refusal = sym (ap tell e) ∙ answers;
          state = p ∙ ap (λ (x : CeAnswer). put_state x.state x.used xs) ran ∙ unless_done _ _;
          rows = recorded ∙ unless_done _ _;
        }
