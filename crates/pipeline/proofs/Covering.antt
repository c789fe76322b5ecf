-- RULES 10.10: covered is counted by bytes. In a room of valid packets the
-- positions that a round counts are those that hold, at its end, the text of its initiator. Assumes nothing.
use Rattle.std.proofs.Common.{◌≡◌, ℕ, zero, suc, ◌+◌, ◌%◌, ◌^◌, ◌<◌, ◌≤◌, Bool, true, false, ◌&&◌, ◌||◌, eqb, ltb, List, [], ◌∷◌, length, get_or, set, sym, refl, ap, ◌∙◌, arith, lt-ltb, eq-eqb}
use mir.Val.{bool_byte}
use Rattle.loops.specs.Pick.{either}
use Rattle.loops.specs.Upto.{upto, upto_holds}
use Rattle.loops.specs.Runs.{runs_keeps}
use Rattle.marks.specs.Marks.{has, marks, count_of}
use Rattle.marks.specs.Sets.{iff, and_true, has_marks, marks_ext, count_le}
use Rattle.packets.specs.Packets.{pipeline_text, ValidPipeline}
use Rattle.engines.specs.Clamp.{at_most64}
use Rattle.engines.specs.Metrics.{with_frames}
use Rattle.engines.specs.Nodes.{inc, no_node, is_sleep, sleeps, sets_of}
use Rattle.engines.specs.declared.node.Node.{Node}
use Rattle.engines.specs.declared.node.NodeState.{NodeState}
use Rattle.engines.specs.declared.node.NodeState.TheVariants.{Sleep}
use Rattle.engines.specs.declared.network.Network.{Network}
use Rattle.engines.specs.declared.network.RoundConf.{RoundConf}
use Rattle.engines.specs.declared.words.Draw.{Draw}
use Rattle.engines.proofs.Places.{over_get}
use Rattle.flood.specs.Flood.{is_over, flood_slot, flood_round}
use Rattle.flood.specs.declared.flood.FloodRun.{FloodRun}
use Rattle.pipeline.specs.Pending.{join_marks}
use Rattle.pipeline.specs.Pipeline.{packet_of, same_packet, parts_of, progressed, progress_at, progress_all}
use Rattle.pipeline.specs.Round.{no_packet, deliver_all, is_covered, cover_at, covered_of, size_of, initiator_of}
use Rattle.pipeline.specs.Round.{preparing, flood_from, flood_of, close_round, run_round}
use Rattle.pipeline.specs.declared.two_pc_pipeline.RoundPacket.{RoundPacket}
use Rattle.pipeline.specs.declared.prepare.Prepared.{Prepared}
use Rattle.pipeline.specs.declared.pipeline.PipelineConf.{PipelineConf}
use Rattle.pipeline.specs.declared.pipeline.PipelinePart.{PipelinePart}
use Rattle.pipeline.proofs.Packing.{same_packet_lem, same_bytes}
use Rattle.pipeline.proofs.Valid.{ValidPart, initiator_below, preparing_well, run_valid}

-- ---- how many

-- what is counted one by one is the number of marks
count_so_far : (q : RoundPacket) (holding : ℕ) (ps : List RoundPacket) (n k : ℕ) → n ≤ 64 → k ≤ n
    → upto k (cover_at q holding ps) 0 ≡ count_of (marks n (is_covered q holding ps)) k
unfolding upto count_of cover_at
count_so_far q holding ps n zero h l = refl
count_so_far q holding ps n (suc k) h l =
    let test = is_covered q holding ps in
    let m = marks n test in
    let c : has m k ≡ test k = has_marks n test k ∙ rw (lt-ltb k n (omega arith)) in
    rw (count_so_far q holding ps n k h (omega arith), c) (by (test k) (count_of m k) (omega (arith, count_le m k)))
  where
    by : (b : Bool) (x : ℕ) → x ≤ 64 → either b (inc x) x ≡ x + bool_byte b
    by true x e = omega arith
    by false x e = omega arith

covered_is : (q : RoundPacket) (n holding : ℕ) (ps : List RoundPacket) → n ≤ 64
    → covered_of q n holding ps ≡ count_of (marks n (is_covered q holding ps)) n
unfolding covered_of
covered_is q n holding ps h =
    let e : at_most64 n ≡ n = omega arith in
    rw e (count_so_far q holding ps n n h (omega arith))

-- ---- by bytes

-- the text of what a position holds; an empty one where it holds nothing
abbrev pub text_in : ℕ → PipelinePart → ℕ → List ℕ
text_in n p v = either (has p.holding v) (pipeline_text (packet_of n (get_or p.payloads v no_packet))) []

no_text : (n : ℕ) (q : RoundPacket) → [] ≡ pipeline_text (packet_of n q) → ⊥
unfolding pipeline_text
no_text n q e = let z : ◌≡◌ {A = ℕ} 0 123 = ap (λ (l : List ℕ). get_or l 0 0) e in omega arith

-- where all packets are valid
module _ (n : ℕ) (p : PipelinePart) (valid : ValidPart n p) (q : RoundPacket) (fine : ValidPipeline (packet_of n q))
    (v : ℕ) where
  abbrev held : RoundPacket
  held = get_or p.payloads v no_packet

  abbrev counts : Bool
  counts = is_covered q p.holding p.payloads v

  covered_text : counts ≡ true → text_in n p v ≡ pipeline_text (packet_of n q)
  unfolding is_covered
  covered_text e =
      let b = and_true (has p.holding v) (same_packet held q) e in
      rw (b.0, same_packet_lem held q b.1)

  text_covered : text_in n p v ≡ pipeline_text (packet_of n q) → counts ≡ true
  unfolding is_covered
  text_covered e = by (has p.holding v) e
    where
      by : (b : Bool) → either b (pipeline_text (packet_of n held)) [] ≡ pipeline_text (packet_of n q)
          → (b && same_packet held q) ≡ true
      by true e = same_bytes n held q (valid.payloads v) fine e
      by false e = absurd (no_text n q e)

-- ---- a round

abbrev covered_by : Network → ℕ
covered_by w = w.metrics.flood_nodes_covered

-- a flood counts frames, and nobody as covered
flood_covered : (ws : List ℕ) (conf : RoundConf) (bytes : ℕ) (f : FloodRun)
    → covered_by (flood_round ws conf bytes f).network ≡ covered_by f.network
unfolding flood_round flood_slot with_frames
flood_covered ws conf bytes f =
    let Same : FloodRun → Type 0 = λ g. covered_by g.network ≡ covered_by f.network in
    runs_keeps is_over (flood_slot ws conf bytes) (λ k. Same) (λ k g e. e) Same (λ k g e. e) conf.length f refl

or_yes : (b : Bool) → (b || true) ≡ true
or_yes true = refl
or_yes false = refl

-- a position that stays in its state leaves all in theirs
set_state : (l : List Node) (j v : ℕ) (x : Node) → x.state ≡ (get_or l j no_node).state
    → (get_or (set l j x) v no_node).state ≡ (get_or l v no_node).state
set_state [] j v x e = refl
set_state (y ∷ l) zero zero x e = e
set_state (y ∷ l) zero (suc v) x e = refl
set_state (y ∷ l) (suc j) zero x e = refl
set_state (y ∷ l) (suc j) (suc v) x e = set_state l j v x e

abbrev state_at : Network → ℕ → NodeState
state_at w v = (get_or w.nodes v no_node).state

-- Whoever takes part holds the packet afterwards: the initiator, and every sleeper.
module _ (n i sleeping : ℕ) (most : n ≤ 64) (v : ℕ) (inside : v < n) (takes : (has sleeping v || eqb v i) ≡ true) where
  abbrev parts : ℕ
  parts = parts_of n i sleeping

  takes_part : has parts v ≡ true
  unfolding parts_of
  takes_part =
      has_marks 64 (λ j. ltb j n && (has sleeping j || eqb j i)) v
      ∙ rw (lt-ltb v 64 (omega arith), lt-ltb v n inside) takes

  holds_now : (holding : ℕ) → has (join_marks holding parts) v ≡ true
  unfolding join_marks
  holds_now holding =
      has_marks 64 (λ j. has holding j || has parts j) v
      ∙ rw (lt-ltb v 64 (omega arith), takes_part) (or_yes (has holding v))

  given_now : (q : RoundPacket) (ps : List RoundPacket) → length ps ≡ 64 → get_or (deliver_all q parts ps) v no_packet ≡ q
  unfolding deliver_all
  given_now q ps h = over_get no_packet (λ _ _. q) parts ps v h (omega arith) ∙ rw takes_part

module _ (ws : List ℕ) (conf : PipelineConf) (least : 0 < size_of conf) (most : size_of conf ≤ 64) (w : Network)
    (p : PipelinePart) (d : Draw) (valid : ValidPart (size_of conf) p) where
  abbrev n : ℕ
  n = size_of conf

  abbrev i : ℕ
  i = initiator_of conf p

  abbrev prep : Prepared
  prep = preparing ws conf w.slot p i d

  abbrev flooded : FloodRun
  flooded = flood_of ws conf w i prep

  abbrev after : PipelinePart
  after = (run_round ws conf w p d).part

  abbrev text : ℕ → List ℕ
  text v = text_in n after v

  abbrev sent : List ℕ
  sent = pipeline_text (packet_of n prep.packet)

  abbrev sleeping : ℕ
  sleeping = (sets_of n flooded.network.nodes).sleeping

  part_text : (v : ℕ) → v < n → (has sleeping v || eqb v i) ≡ true → text v ≡ sent
  unfolding run_round close_round
  part_text v l t =
      rw (
        holds_now n i sleeping most v l t p.holding,
        given_now n i sleeping most v l t prep.packet p.payloads valid.places,
      )

  -- The initiator holds what it sent.
  pub initiator_holds : has after.holding i ≡ true
  unfolding run_round close_round
  initiator_holds =
      holds_now n i sleeping most i (initiator_below ws conf least most p)
      (rw (eq-eqb i i refl) (or_yes (has sleeping i))) p.holding

  initiator_text : text i ≡ sent
  initiator_text =
      part_text i (initiator_below ws conf least most p) (rw (eq-eqb i i refl) (or_yes (has sleeping i)))

  -- what follows the flood leaves the states
  state_kept : (v : ℕ) → state_at (run_round ws conf w p d).network v ≡ state_at flooded.network v
  unfolding run_round close_round progress_all progress_at
  state_kept v =
      upto_holds (λ (l : List Node). (get_or l v no_node).state ≡ state_at flooded.network v) _ (at_most64 n)
      (λ j l _ e. set_state l j v (progressed _ _ (get_or l j no_node)) refl ∙ e) flooded.network.nodes refl

  -- Sleepers get the initiator's payload.
  pub sleeper_text : (v : ℕ) → v < n → state_at (run_round ws conf w p d).network v ≡ Sleep → text v ≡ text i
  unfolding sets_of sleeps
  sleeper_text v l e =
      let s : is_sleep (state_at flooded.network v) ≡ true = ap is_sleep (sym (state_kept v) ∙ e) in
      let t : has sleeping v ≡ true =
      has_marks (at_most64 n) (sleeps flooded.network.nodes) v ∙ rw (lt-ltb v (at_most64 n) (omega arith)) s in
      part_text v l (rw t) ∙ sym initiator_text

  counted : covered_by (run_round ws conf w p d).network
      ≡ (covered_by w + covered_of prep.packet n after.holding after.payloads) % 2 ^ 64
  unfolding run_round close_round flood_of flood_from
  counted =
      ap (λ (x : ℕ). (x + covered_of prep.packet n after.holding after.payloads) % 2 ^ 64)
      (flood_covered ws conf.round _ _)

  fine : ValidPart n after
  fine = run_valid ws conf least most w p d valid

  packet : ValidPipeline (packet_of n prep.packet)
  packet = (preparing_well ws conf least most w.slot p d valid).packet

  -- The count rises by the number of positions whose text is the initiator's, by any test of equal texts.
  pub run_covered : (test : List ℕ → List ℕ → Bool) → ((a b : List ℕ) → test a b ≡ true → a ≡ b)
      → ((a : List ℕ) → test a a ≡ true)
      → covered_by (run_round ws conf w p d).network
      ≡ (covered_by w + count_of (marks n (λ v. test (text v) (text i))) n) % 2 ^ 64
  run_covered test sound complete =
      counted
      ∙ ap (λ (x : ℕ). (covered_by w + x) % 2 ^ 64)
      (covered_is prep.packet n after.holding after.payloads most
      ∙ ap (λ (m : ℕ). count_of m n) (marks_ext n _ _ (λ v _. iff _ _ (to v) (from v))))
    where
      counts : ℕ → Bool
      counts v = is_covered prep.packet after.holding after.payloads v

      to : (v : ℕ) → counts v ≡ true → test (text v) (text i) ≡ true
      to v e = rw (covered_text n after fine prep.packet packet v e, initiator_text) (complete sent)

      from : (v : ℕ) → test (text v) (text i) ≡ true → counts v ≡ true
      from v e = text_covered n after fine prep.packet packet v (sound (text v) (text i) e ∙ initiator_text)
