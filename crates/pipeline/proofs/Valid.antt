-- A pipeline room holds valid packets only: those within the limits of a text. What is kept from round to round: no
-- vote word has a mark at or behind the number of positions, no more than 64 transactions were generated, and what is
-- piggybacked is a number of 64 bits. Assumes nothing.
use Rattle.std.proofs.Common.{◌≡◌, ℕ, zero, suc, ◌^◌, ◌<◌, ◌≤◌, Bool, true, false, not, ◌&&◌, ◌||◌, eqb, ltb, leb, Option, Some, None, List, length, get_or, replicate, sym, refl, ◌∙◌, mod-lt, arith, length-set, pow_pos, ltb-false, ltb-true, ne_eqb}
use Rattle.std.specs.Option.{unwrap_or}
use Rattle.std.specs.Result.{is_ok}
use Rattle.limits.proofs.Tests.{ok_told}
use lib.Ieee.{Float}
use Rattle.loops.specs.Stores.{set_all}
use Rattle.loops.specs.Pick.{either}
use Rattle.loops.specs.Upto.{upto_holds}
use Rattle.marks.specs.Marks.{has}
use Rattle.marks.specs.Laws.{has_out}
use Rattle.marks.specs.Sets.{and_true, has_marks, marks_is, marks_lt}
use Rattle.texts.specs.Put.{written}
use Rattle.texts.specs.ListLaws.{none, more}
use Rattle.packets.specs.Packets.{ValidData, ValidTx, ValidPipeline}
use Rattle.merges.proofs.Safety.{either_cases}
use Rattle.engines.specs.Clamp.{at_most64}
use Rattle.engines.specs.Marked.{over_marks, with_mark}
use Rattle.engines.specs.Nodes.{sets_of}
use Rattle.engines.specs.Words.{next_of, lost_of}
use Rattle.engines.proofs.Marking.{over_keeps}
use Rattle.engines.specs.declared.words.Draw.{Draw}
use Rattle.engines.specs.declared.network.Network.{Network}
use Rattle.flood.specs.declared.flood.FloodRun.{FloodRun}
use Rattle.pipeline.specs.Pending.{join_marks, logged_of, finalize_tx, open_tx, votes_at, merge_votes, merge_abort}
use Rattle.pipeline.specs.Pending.{gap_at, gap_of, nack_of, vote_of, is_judged, judge_at, judged, fast_of, abort_at}
use Rattle.pipeline.specs.Pending.{abort_all, own_vote}
use Rattle.pipeline.specs.declared.process.AllProcessed.{AllProcessed}
use Rattle.pipeline.specs.Pipeline.{data_of, piggyback_tx, packet_of, is_fresh, begin_tx, abort_of, known_votes}
use Rattle.pipeline.specs.Pipeline.{round_packet, prepare_round, is_new, hear_new, merge_round, take_up, is_answer}
use Rattle.pipeline.specs.Pipeline.{answer_nack, process_one, no_state, parts_of, process_at, process_all}
use Rattle.pipeline.specs.Round.{no_packet, new_part, new_state, deliver_at, deliver_all, size_of, facts_of, initiator_of}
use Rattle.pipeline.specs.Round.{preparing, processing, close_round, run_round, start_draw, round_test, PipelineAnswer}
use Rattle.pipeline.specs.Round.{round_answer}
use Rattle.pipeline.specs.declared.two_pc_pipeline.NodeTwoPcState.{NodeTwoPcState}
use Rattle.pipeline.specs.declared.two_pc_pipeline.Outcome.{Outcome}
use Rattle.pipeline.specs.declared.two_pc_pipeline.RoundPacket.{RoundPacket}
use Rattle.pipeline.specs.declared.two_pc_pipeline.Records.{Records}
use Rattle.pipeline.specs.declared.two_pc_pipeline.Txs.{Txs}
use Rattle.pipeline.specs.declared.prepare.Begun.{Begun}
use Rattle.pipeline.specs.declared.prepare.Prepared.{Prepared}
use Rattle.pipeline.specs.declared.process.Learnt.{Learnt}
use Rattle.pipeline.specs.declared.process.Carried.{Carried}
use Rattle.pipeline.specs.declared.process.RoundFacts.{RoundFacts}
use Rattle.pipeline.specs.declared.pipeline.PipelineConf.{PipelineConf}
use Rattle.pipeline.specs.declared.pipeline.PipelinePart.{PipelinePart}
use Rattle.pipeline.proofs.Rounding.{early_size, refusal_none}

-- ---- lists and loops

same_all : {A : Type 0} (P : A → Type 0) (d a : A) (n : ℕ) → P d → P a → (j : ℕ) → P (get_or (replicate n a) j d)
same_all P d a zero p q j = p
same_all P d a (suc n) p q zero = q
same_all P d a (suc n) p q (suc j) = same_all P d a n p q j

-- what every turn at a mark keeps, the loop keeps
over_holds : {S : Type 0} (P : S → Type 0) (m : ℕ) (f : ℕ → S → S)
    → ((i : ℕ) (s : S) → has m i ≡ true → P s → P (f i s))
    → (s : S) → P s → P (over_marks m f s)
unfolding over_marks
over_holds P m f h s p =
    upto_holds P (λ i t. either (has m i) (f i t) t) 64
    (λ i t _ q. either_cases P (has m i) (λ e. h i t e q) (λ e. q)) s p

-- ---- the data

-- none, or the letters t and x with one or two digits behind them
data_valid : (fresh : Bool) (t : ℕ) → ValidData (data_of fresh t)
unfolding data_of written
data_valid fresh t =
    either_cases ValidData fresh
    (λ e. either_cases ValidData (ltb t 10)
    (λ f. record {
      at_most32 = omega arith;
      small = more (omega arith) (more (omega arith) (more (omega arith) none));
      zeros = refl;
    })
    (λ f. record {
      at_most32 = omega arith;
      small = more (omega arith) (more (omega arith) (more (omega arith) (more (omega arith) none)));
      zeros = refl;
    }))
    (λ e. record { at_most32 = omega arith; small = none; zeros = refl })

-- ---- what is asked for

-- a transaction below 64, or none
nack_small : (current : ℕ) (s : NodeTwoPcState) → nack_of current s ≤ 64
unfolding nack_of gap_of gap_at
nack_small current s = upto_holds (λ g. unwrap_or g 0 ≤ 64) (gap_at known) (at_most64 current) turn None (omega arith)
  where
    known : ℕ
    known = join_marks (logged_of s.log) s.pending

    turn : (t : ℕ) (g : Option ℕ) → t < at_most64 current → unwrap_or g 0 ≤ 64 → unwrap_or (gap_at known t g) 0 ≤ 64
    turn t None l h = either_cases (λ g. unwrap_or g 0 ≤ 64) (has known t) (λ e. omega arith) (λ e. omega arith)
    turn t (Some g) l h = h

and_no : (t : Bool) → (t && false) ≡ false
and_no true = refl
and_no false = refl

module _ (n : ℕ) (small : n ≤ 64) where
  -- ---- words of marks

  -- a word without marks at n or above
  below : (m : ℕ) → m < 2 ^ 64 → ((j : ℕ) → n ≤ j → has m j ≡ false) → m < 2 ^ n
  below m l e = rw (marks_is n (λ j. has m j) m small l (λ j. by j (ltb j n) refl)) (marks_lt n (λ j. has m j))
    where
      by : (j : ℕ) (t : Bool) → ltb j n ≡ t → has m j ≡ (t && has m j)
      by j true p = refl
      by j false p = e j (ltb-false j n p)

  with_fits : (m i : ℕ) → m < 2 ^ n → i < n → with_mark m i < 2 ^ n
  unfolding with_mark
  with_fits m i h l =
      below (with_mark m i) (marks_lt 64 _)
      (λ j k. has_marks 64 (λ x. has m x || eqb x i) j
      ∙ rw (has_out n m j h k, ne_eqb j i (omega arith)) (and_no (ltb j 64)))

  join_fits : (a b : ℕ) → a < 2 ^ n → b < 2 ^ n → join_marks a b < 2 ^ n
  unfolding join_marks
  join_fits a b h l =
      below (join_marks a b) (marks_lt 64 _)
      (λ j k. has_marks 64 (λ x. has a x || has b x) j
      ∙ rw (has_out n a j h k, has_out n b j l k) (and_no (ltb j 64)))

  -- ---- the votes that a position knows

  abbrev Fits : List ℕ → Type 0
  Fits vs = (t : ℕ) → get_or vs t 0 < 2 ^ n

  abbrev VotesFit : NodeTwoPcState → Type 0
  VotesFit s = Fits s.votes

  vote_fits : (ws : List ℕ) (p : Float) (i bits : ℕ) (abort : Bool) (d : Draw) → bits < 2 ^ n → i < n
      → (vote_of ws p i bits abort d).bits < 2 ^ n
  unfolding vote_of
  vote_fits ws p i bits abort d h l =
      either_cases (λ x. x < 2 ^ n) (lost_of (next_of ws d).word p) (λ e. h) (λ e. with_fits bits i h l)

  open_fits : (t bits : ℕ) (abort : Bool) (s : NodeTwoPcState) → bits < 2 ^ n → VotesFit s
      → VotesFit (open_tx t bits abort s)
  unfolding open_tx
  open_fits t bits abort s h f =
      either_cases VotesFit (ltb t 64) (λ e. set_all (λ x. x < 2 ^ n) 0 s.votes t bits f h) (λ e. f)

  votes_at_lem : (top bits t : ℕ) (vs : List ℕ) → bits < 2 ^ n → Fits vs → Fits (votes_at top bits t vs)
  unfolding votes_at
  votes_at_lem top bits t vs h f =
      either_cases Fits (leb t top)
      (λ e. set_all (λ x. x < 2 ^ n) 0 vs t (join_marks (get_or vs t 0) bits) f (join_fits (get_or vs t 0) bits (f t) h))
      (λ e. f)

  merge_fits : (top bits : ℕ) (s : NodeTwoPcState) → bits < 2 ^ n → VotesFit s → VotesFit (merge_votes top bits s)
  unfolding merge_votes
  merge_fits top bits s h f =
      over_holds Fits s.pending (votes_at top bits) (λ t vs _ g. votes_at_lem top bits t vs h g) s.votes f

  final_fits : (t : ℕ) (o : Bool) (s : NodeTwoPcState) → VotesFit s → VotesFit (finalize_tx t o s)
  unfolding finalize_tx
  final_fits t o s f = either_cases VotesFit (has (logged_of s.log) t) (λ e. f) (λ e. f)

  judged_fits : (m r : ℕ) (rounds : List ℕ) (s : NodeTwoPcState) → VotesFit s → VotesFit (judged m r rounds s)
  unfolding judged judge_at
  judged_fits m r rounds s f =
      over_holds VotesFit s.pending (judge_at m r rounds)
      (λ t x _ g. either_cases VotesFit (is_judged m r (get_or rounds t 0)) (λ e. final_fits t _ x g) (λ e. g)) s f

  aborts_fits : (fast : ℕ) (s : NodeTwoPcState) → VotesFit s → VotesFit (abort_all fast s)
  unfolding abort_all
  aborts_fits fast s f = over_holds VotesFit fast abort_at (λ t x _ g. final_fits t false x g) s f

  abort_fits : (t : ℕ) (abort : Bool) (s : NodeTwoPcState) → VotesFit s → VotesFit (merge_abort t abort s)
  unfolding merge_abort
  abort_fits t abort s f = either_cases VotesFit (abort && has s.pending t) (λ e. f) (λ e. f)

  own_fits : (i top : ℕ) (s : NodeTwoPcState) → i < n → VotesFit s → VotesFit (own_vote i top s)
  unfolding own_vote
  own_fits i top s l f =
      either_cases VotesFit (has s.pending top && not (has s.aborts top))
      (λ e. merge_fits top (with_mark 0 i) s (with_fits 0 i (pow_pos n) l) f)
      (λ e. f)

  take_fits : (b : Option Outcome) (s : NodeTwoPcState) → VotesFit s → VotesFit (take_up b s)
  unfolding take_up
  take_fits None s f = f
  take_fits (Some o) s f = final_fits o.tx o.committed s f

  -- ---- the packet

  abbrev Valid : RoundPacket → Type 0
  Valid q = ValidPipeline (packet_of n q)

  -- a piggyback says a number of 64 bits
  abbrev SmallTx : Option Outcome → Type 0
  SmallTx b = ValidTx (piggyback_tx b)

  valid_by : (q : RoundPacket) → q.tx ≤ 64 → q.bits < 2 ^ n → q.nack ≤ 64 → q.sender ≤ 64 → SmallTx q.piggyback
      → Valid q
  unfolding packet_of
  valid_by q t b k i p =
      record {
        id_fits = omega arith;
        nack_fits = omega arith;
        sender_fits = omega arith;
        tx_fits = p;
        bytes = data_valid q.fresh q.tx;
        bitmap = record { at_most64 = small; marks_lt = b };
      }

  bits_fit : (q : RoundPacket) → Valid q → q.bits < 2 ^ n
  unfolding packet_of
  bits_fit q v = v.bitmap.marks_lt

  nack_fits : (q : RoundPacket) → Valid q → q.nack < 2 ^ 64
  unfolding packet_of
  nack_fits q v = v.nack_fits

  none_valid : Valid no_packet
  none_valid = valid_by no_packet (omega arith) (pow_pos n) (omega arith) (omega arith) tt

  -- ---- prepare

  known_fits : (s : NodeTwoPcState) (t : ℕ) → VotesFit s → known_votes s t < 2 ^ n
  unfolding known_votes
  known_fits s t f = either_cases (λ x. x < 2 ^ n) (has s.pending t) (λ e. f t) (λ e. pow_pos n)

  packet_valid : (i t : ℕ) (fresh : Bool) (nack : ℕ) (pb : Option Outcome) (s : NodeTwoPcState) → i < n → t ≤ 64 → nack ≤ 64
      → SmallTx pb → VotesFit s → Valid (round_packet i t fresh nack pb s)
  unfolding round_packet
  packet_valid i t fresh nack pb s l h k p f =
      valid_by (round_packet i t fresh nack pb s) h
      (either_cases (λ x. x < 2 ^ n) (abort_of s t) (λ e. known_fits s t f)
      (λ e. with_fits (known_votes s t) i (known_fits s t f) l))
      k (omega arith) p

  record BegunWell (b : Begun) : Type 0 where
    votes : VotesFit b.state
    counter : b.txs.counter ≤ 64
    tx : b.tx ≤ 64

  begun_well : (ws : List ℕ) (p : Float) (i r slot t : ℕ) (txs : Txs) (s : NodeTwoPcState) (d : Draw) → i < n
      → txs.counter ≤ 64 → VotesFit s → BegunWell (begin_tx ws p i r slot t txs s d)
  unfolding begin_tx is_fresh
  begun_well ws p i r slot t txs s d l h f =
      let c = txs.counter in
      either_cases BegunWell (is_fresh t txs)
      (λ e. let g = ltb-true c 64 (and_true (ltb c t) (ltb c 64) e).1 in
      record {
        votes = open_fits c _ _ s (vote_fits ws p i 0 false d (pow_pos n) l) f;
        counter = omega arith;
        tx = h;
      })
      (λ e. record { votes = f; counter = h; tx = omega arith })

  pub record PreparedWell (x : Prepared) : Type 0 where
    pub votes : VotesFit x.state
    pub counter : x.txs.counter ≤ 64
    pub packet : Valid x.packet

  prepared_well : (ws : List ℕ) (p : Float) (i : ℕ) (facts : RoundFacts) (t : ℕ) (txs : Txs) (records : Records)
      (pb : Option Outcome) (s : NodeTwoPcState) (d : Draw) → i < n → txs.counter ≤ 64 → SmallTx pb → VotesFit s
      → PreparedWell (prepare_round ws p i facts t txs records pb s d)
  unfolding prepare_round
  prepared_well ws p i facts t txs records pb s d l h q f =
      let x = begin_tx ws p i facts.round facts.slot t txs s d in
      let b = begun_well ws p i facts.round facts.slot t txs s d l h f in
      let v = judged_fits facts.n facts.round x.txs.rounds x.state b.votes in
      record {
        votes = v;
        counter = b.counter;
        packet = packet_valid i x.tx x.fresh _ pb _ l b.tx (nack_small txs.counter s) q v;
      }

  -- ---- process

  module _ (q : RoundPacket) (valid : Valid q) where
    hear_fits : (ws : List ℕ) (p : Float) (i : ℕ) (s : NodeTwoPcState) (d : Draw) → i < n → VotesFit s
        → VotesFit (hear_new ws p i q s d).state
    unfolding hear_new
    hear_fits ws p i s d l f =
        either_cases (λ (x : Learnt). VotesFit x.state) (is_new q s)
        (λ e. open_fits q.tx _ _ s (vote_fits ws p i q.bits q.abort d (bits_fit q valid) l) f)
        (λ e. f)

    round_fits : (i : ℕ) (s : NodeTwoPcState) → i < n → VotesFit s → VotesFit (merge_round i q s)
    unfolding merge_round
    round_fits i s l f =
        own_fits i q.tx _ l
        (abort_fits q.tx q.abort _ (merge_fits q.tx q.bits s (bits_fit q valid) f))

    answer_small : (s : NodeTwoPcState) (l : Carried) → SmallTx l.piggyback
        → SmallTx (answer_nack q.nack s l).piggyback
    unfolding answer_nack
    answer_small s l p =
        either_cases (λ (x : Carried). SmallTx x.piggyback) (is_answer q.nack s) (λ e. nack_fits q valid) (λ e. p)

    module _ (ws : List ℕ) (p : Float) (facts : RoundFacts) (rounds : List ℕ) where
      one_fits : (i : ℕ) (s : NodeTwoPcState) (l : Carried) → i < n → VotesFit s
          → VotesFit (process_one ws p facts rounds q i s l).state
      unfolding process_one
      one_fits i s l h f =
          let m = merge_round i q (hear_new ws p i q s l.draw).state in
          judged_fits facts.n facts.round rounds _
          (take_fits q.piggyback _ (aborts_fits (fast_of m) m (round_fits i _ h (hear_fits ws p i s l.draw h f))))

      one_small : (i : ℕ) (s : NodeTwoPcState) (l : Carried) → SmallTx l.piggyback
          → SmallTx (process_one ws p facts rounds q i s l).carried.piggyback
      unfolding process_one
      one_small i s l b = answer_small _ _ b

      record ProcessedWell (x : AllProcessed) : Type 0 where
        votes : (v : ℕ) → VotesFit (get_or x.states v no_state)
        piggyback : SmallTx x.carried.piggyback

      at_well : (i : ℕ) (x : AllProcessed) → i < n → ProcessedWell x → ProcessedWell (process_at ws p facts rounds q i x)
      unfolding process_at
      at_well i x l w =
          let s = get_or x.states i no_state in
          record {
            votes = set_all VotesFit no_state x.states i _ w.votes (one_fits i s x.carried l (w.votes i));
            piggyback = one_small i s x.carried w.piggyback;
          }

      -- whoever takes part is one of the n
      all_well : (i sleeping : ℕ) (g : AllProcessed) → ProcessedWell g
          → ProcessedWell (process_all ws p facts rounds q (parts_of n i sleeping) g)
      unfolding process_all parts_of
      all_well i sleeping g h =
          over_holds ProcessedWell (parts_of n i sleeping) (process_at ws p facts rounds q)
          (λ j x e w. at_well j x (inside j (sym (has_marks 64 _ j) ∙ e)) w) g h
        where
          inside : (j : ℕ) → (ltb j 64 && (ltb j n && (has sleeping j || eqb j i))) ≡ true → j < n
          inside j e = ltb-true j n (and_true (ltb j n) _ (and_true (ltb j 64) _ e).1).0

-- ---- a room

-- What holds of a pipeline room's own part, between its calls.
pub record ValidPart (n : ℕ) (p : PipelinePart) : Type 0 where
  pub votes : (v t : ℕ) → get_or (get_or p.states v no_state).votes t 0 < 2 ^ n
  pub counter : p.txs.counter ≤ 64
  pub piggyback : ValidTx (piggyback_tx p.piggyback)
  pub payloads : (v : ℕ) → ValidPipeline (packet_of n (get_or p.payloads v no_packet))
  pub places : length p.payloads ≡ 64

pub new_valid : (n : ℕ) → n ≤ 64 → ValidPart n new_part
unfolding new_part
new_valid n h =
    let none : (t : ℕ) → get_or (replicate 64 0) t 0 < 2 ^ n =
    λ t. same_all (λ x. x < 2 ^ n) 0 0 64 (pow_pos n) (pow_pos n) t in
    record {
      votes = λ v t.
          same_all (λ (s : NodeTwoPcState). get_or s.votes t 0 < 2 ^ n) no_state new_state 64 (pow_pos n) (none t) v;
      counter = omega arith;
      piggyback = tt;
      payloads = same_all (Valid n h) no_packet no_packet 64 (none_valid n h) (none_valid n h);
      places = refl;
    }

deliver_length : (q : RoundPacket) (parts : ℕ) (ps : List RoundPacket) → length (deliver_all q parts ps) ≡ length ps
unfolding deliver_all
deliver_length q parts ps = over_keeps length (deliver_at q) (λ i _ l. length-set l i q) parts ps

module _ (ws : List ℕ) (conf : PipelineConf) (least : 0 < size_of conf) (most : size_of conf ≤ 64) where
  abbrev ValidIn : PipelinePart → Type 0
  ValidIn = ValidPart (size_of conf)

  abbrev pub WellIn : Prepared → Type 0
  WellIn = PreparedWell (size_of conf) most

  abbrev AllValid : List RoundPacket → Type 0
  AllValid l = (v : ℕ) → Valid (size_of conf) most (get_or l v no_packet)

  pub initiator_below : (p : PipelinePart) → initiator_of conf p < size_of conf
  unfolding initiator_of
  initiator_below p = mod-lt p.round least

  pub preparing_well : (slot : ℕ) (p : PipelinePart) (d : Draw) → ValidIn p
      → WellIn (preparing ws conf slot p (initiator_of conf p) d)
  unfolding preparing
  preparing_well slot p d v =
      let i = initiator_of conf p in
      prepared_well (size_of conf) most ws conf.round.settings.abort_probability i (facts_of conf p slot)
      conf.transactions p.txs p.records p.piggyback (get_or p.states i no_state) d
      (initiator_below p) v.counter v.piggyback (v.votes i)

  deliver_valid : (q : RoundPacket) (parts : ℕ) (ps : List RoundPacket) → Valid (size_of conf) most q → AllValid ps
      → AllValid (deliver_all q parts ps)
  unfolding deliver_all
  deliver_valid q parts ps h g =
      over_holds AllValid parts (deliver_at q) (λ i l _ k. set_all (Valid (size_of conf) most) no_packet l i q k h) ps g

  close_valid : (p : PipelinePart) (i : ℕ) (prep : Prepared) (f : FloodRun) → ValidIn p → WellIn prep
      → ValidIn (close_round ws conf p i prep f).part
  unfolding close_round processing
  close_valid p i prep f v w =
      let sleeping = (sets_of (size_of conf) f.network.nodes).sleeping in
      let parts = parts_of (size_of conf) i sleeping in
      let x =
      all_well (size_of conf) most prep.packet w.packet ws conf.round.settings.abort_probability
      (facts_of conf p f.network.slot) prep.txs.rounds i sleeping _
      (record {
        votes = set_all (VotesFit (size_of conf) most) no_state p.states i prep.state v.votes w.votes;
        piggyback = tt;
      }) in
      record {
        votes = x.votes;
        counter = w.counter;
        piggyback = x.piggyback;
        payloads = deliver_valid prep.packet parts p.payloads w.packet v.payloads;
        places = deliver_length prep.packet parts p.payloads ∙ v.places;
      }

  -- a round that is run
  pub run_valid : (w : Network) (p : PipelinePart) (d : Draw) → ValidIn p → ValidIn (run_round ws conf w p d).part
  unfolding run_round
  run_valid w p d v =
      let i = initiator_of conf p in
      close_valid p i (preparing ws conf w.slot p i d) _ v (preparing_well w.slot p d v)

-- A call keeps it, refused or not, whatever the size that it is told: a round is run for 1 to 64 positions only.
pub answer_valid : (ws : List ℕ) (numbers used : ℕ) (conf : PipelineConf) (w : Network) (p : PipelinePart) (cursor : ℕ)
    → ValidPart (size_of conf) p → ValidPart (size_of conf) (round_answer ws numbers used conf w p cursor).part
unfolding round_answer
answer_valid ws numbers used conf w p cursor v =
    let told = round_test ws numbers used conf w p cursor in
    either_cases (λ (a : PipelineAnswer). ValidPart (size_of conf) a.part) (is_ok told)
    (λ e. let none = refusal_none ws numbers used conf w p cursor (ok_told told e) in
    let size = early_size conf w.slot p.stop none.0 in
    run_valid ws conf size.0 size.1 w p (start_draw cursor) v)
    (λ e. v)
