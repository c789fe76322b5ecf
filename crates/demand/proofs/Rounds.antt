-- A pipeline room accepts at most T + 1002 rounds: by induction over the list of calls, from what each does to the round number. Assumes nothing.
use mathlib.Core.Bool.{false}
use mathlib.Core.List.{List, [], ◌∷◌}
use mathlib.Core.Path.{◌≡◌, refl, ap, ◌∙◌}
use Prim.Native.Nat.{ℕ, ◌+◌, ◌≤◌}
use native.Mathlib.Omega.{arith}
use lib.ListN.{length}
use Rattle.room.specs.declared.room.Room.{Room}
use Rattle.graph.specs.Links.{is_size, size_test}
use Rattle.room.specs.Pipelining.{pipeline_test, pipeline_part}
use Rattle.room.specs.Rooms.{size_of, opened_by, propose_of, capture_of, pipeline_of}
use Rattle.room.proofs.Spending.{Within, within_few, more, propose_within, capture_within, pipeline_within, opened_within}
use Rattle.demand.specs.Calls.{Call, Propose, CaptureRound, PipelineRound, Read, handed}
use Rattle.demand.specs.Rounds.{round_in, rounds_in, FewRounds, NoRounds}

call_within : (t k : ℕ) (r : Room) → Within t k r → (c : Call) → Within t (k + round_in c r) (handed c r)
unfolding round_in handed
call_within t k r w (Propose v) = propose_within t k r w v
call_within t k r w (CaptureRound ws cursor rows used) = capture_within t k r w ws (length rows) used cursor
call_within t k r w (PipelineRound ws cursor rows used) = pipeline_within t k r w ws (length rows) used cursor
call_within t k r w (Read q) = more w

calls_within : (t : ℕ) (cs : List Call) (k : ℕ) (r : Room) → Within t k r → k + rounds_in cs r ≤ t + 1002
unfolding rounds_in
calls_within t [] k r w = omega (arith, within_few w)
calls_within t (c ∷ cs) k r w =
    let h = calls_within t cs (k + round_in c r) (handed c r) (call_within t k r w c) in
    omega (arith, h)

pub few_rounds : FewRounds
few_rounds asked few calls =
    let h = calls_within asked.transactions calls 0 (opened_by asked) (opened_within asked few) in
    omega (arith, h)

-- ---- a room of another size

none_in : (r : Room) → is_size (size_of r) ≡ false → (c : Call) → round_in c r ≡ 0
unfolding round_in pipeline_of pipeline_part pipeline_test size_test
none_in r e (Propose v) = refl
none_in r e (CaptureRound ws cursor rows used) = refl
none_in r e (PipelineRound ws cursor rows used) = rw e
none_in r e (Read q) = refl

same_size : (r : Room) (c : Call) → size_of (handed c r) ≡ size_of r
unfolding handed propose_of capture_of pipeline_of
same_size r (Propose v) = refl
same_size r (CaptureRound ws cursor rows used) = refl
same_size r (PipelineRound ws cursor rows used) = refl
same_size r (Read q) = refl

pub no_rounds : NoRounds
unfolding rounds_in
no_rounds r e [] = refl
no_rounds r e (c ∷ cs) =
    let one = none_in r e c in
    let rest = no_rounds (handed c r) (ap is_size (same_size r c) ∙ e) cs in
    omega (arith, one, rest)
