-- Proposing, merging and the tests of what is held, by RULES 6.1, 6.2, 6.3, 6.4 and 6.5 (merge), RULES 6.6 (propose)
-- and RULES 6.7 (goal, outcome). A bitmap has its length and a word of 64 marks: entry i is there if i is below the
-- length, and true if the word has mark i. So an entry from 64 on is false and stays so, and the rules hold for every
-- n, position and length. Every bitmap made here has no mark at or behind its length. Assumes nothing: these are
-- definitions.
use Rattle.std.specs.Prelude.{Option, Some, None, ℕ, ◌+◌, max, Bool, true, false, not, ◌&&◌, ◌||◌, List, [], ◌==◌, nat_eq, nat_le, nat_lt, slice_index_or, replicate, Result, Ok, Err}
use Rattle.limits.specs.Limits.{positions}
use Rattle.limits.specs.declared.refusals.Refusal.{Refusal}
use Rattle.loops.specs.Pick.{either}
use Rattle.marks.specs.Marks.{has, marks, any_of, all_of}
use Rattle.packets.specs.Packets.{proposal_data}
use Rattle.packets.specs.Reading.{ce_read}
use Rattle.loops.specs.Wrap.{add64}
use Rattle.packets.specs.declared.TwoPcPhase.{TwoPcPhase}
use Rattle.packets.specs.declared.TwoPcPhase.TheVariants.{Prepare, Committed, Aborted}
use Rattle.packets.specs.declared.Bitmap.{Bitmap}
use Rattle.packets.specs.declared.CeTwoPcPacket.{CeTwoPcPacket}
use Rattle.merges.specs.declared.merging.ProposalOutcome.{ProposalOutcome}
use Rattle.merges.specs.declared.merging.ProposalOutcome.TheVariants as outcome
use Rattle.merges.specs.declared.merging.Held.{Held}
use Rattle.merges.specs.declared.merging.Held.TheVariants.{Empty, Unreadable, Packet}
use Rattle.merges.specs.declared.merging.Payload.{Payload}

-- who votes no: `nay t i` is true where position i does in term t. Every rule here holds for any such votes; those of
-- a room are `no_of` its settings
abbrev pub Noes : Type 0
Noes = ℕ → ℕ → Bool

-- ---- bitmaps (RULES 6.5)

abbrev pub entry : Bitmap → ℕ → Bool
entry b i = nat_lt i b.len && has b.marks i

-- the entries that a bitmap lacks for n positions are there, and false
unfoldable pub filled_of : ℕ → Bitmap → Bitmap
filled_of n b = record { len = max b.len n; marks = marks 64 (λ j. nat_lt j b.len && has b.marks j) }

-- the own mark of position v, if the bitmap has such an entry
unfoldable pub marked_of : ℕ → Bitmap → Bitmap
marked_of v b = record { len = b.len; marks = marks 64 (λ j. nat_lt j b.len && (has b.marks j || j == v)) }

-- a bitmap for n positions that v alone has marked
unfoldable pub only_of : ℕ → ℕ → Bitmap
only_of n v = record { len = n; marks = marks 64 (λ j. nat_lt j n && j == v) }

-- two bitmaps of one phase: all that a has, and what b has for the n positions
unfoldable pub join_of : ℕ → Bitmap → Bitmap → Bitmap
join_of n a b = record { len = a.len; marks = marks 64 (λ j. nat_lt j a.len && (has a.marks j || (nat_lt j n && entry b j))) }

-- whether b knows of one of them that a does not
unfoldable pub join_news : ℕ → Bitmap → Bitmap → Bool
join_news n a b = any_of 64 (λ j. (nat_lt j a.len && (nat_lt j n && entry b j)) && not (has a.marks j))

-- there is an entry for each of the n positions, and every entry is true, those behind n too
unfoldable pub unanimous_of : ℕ → Bitmap → Bool
unanimous_of n b = nat_le n b.len && all_of b.len (λ j. has b.marks j)

-- ---- packets (RULES 6.3 and 6.4)

-- which phase outranks which
unfoldable pub rank_of : TwoPcPhase → ℕ
rank_of Prepare = 0
rank_of Committed = 1
rank_of Aborted = 2

abbrev pub with_state : TwoPcPhase → Bitmap → CeTwoPcPacket → CeTwoPcPacket
with_state f b p = record { term = p.term; phase = f; proposal_data = p.proposal_data; flags_bitmap = b }

unfoldable pub ensure_of : ℕ → CeTwoPcPacket → CeTwoPcPacket
ensure_of n p = with_state p.phase (filled_of n p.flags_bitmap) p

-- a decision that v makes: nobody else is known to hold it yet
unfoldable pub decided_of : TwoPcPhase → ℕ → ℕ → CeTwoPcPacket → CeTwoPcPacket
decided_of f n v p = with_state f (only_of n v) p

unfoldable pub acknowledged_of : ℕ → CeTwoPcPacket → CeTwoPcPacket
acknowledged_of v p = with_state p.phase (marked_of v p.flags_bitmap) p

-- the own entry of a packet, by its phase: in Prepare the vote, a no aborts; else the acknowledgement
unfoldable pub voiced_of : Noes → ℕ → ℕ → CeTwoPcPacket → TwoPcPhase → CeTwoPcPacket
voiced_of nay n v p Prepare = either (nay p.term v) (decided_of Aborted n v p) (acknowledged_of v p)
voiced_of nay n v p Committed = acknowledged_of v p
voiced_of nay n v p Aborted = acknowledged_of v p

-- a packet on its way through a merge, and whether anything in it is new
pub record Draft : Type 0 where
  pub packet : CeTwoPcPacket
  pub news : Bool

-- once every vote is in, the packet is Committed
unfoldable pub settled_of : ℕ → ℕ → Draft → TwoPcPhase → Draft
settled_of n v d Prepare =
    either (unanimous_of n d.packet.flags_bitmap) (record { packet = decided_of Committed n v d.packet; news = true }) d
settled_of n v d Committed = d
settled_of n v d Aborted = d

abbrev pub settled : ℕ → ℕ → Draft → Draft
settled n v d = settled_of n v d d.packet.phase

-- a packet is taken over: the own vote is cast in any case, also where its mark is there
unfoldable pub adopted_of : Noes → ℕ → ℕ → CeTwoPcPacket → CeTwoPcPacket
adopted_of nay n v p = (settled n v (record { packet = voiced_of nay n v (ensure_of n p) (ensure_of n p).phase; news = true })).packet

-- two packets of one term: the phase that outranks the other brings its bitmap, and one phase in both joins the two;
-- the data never moves
unfoldable pub raised_of : ℕ → CeTwoPcPacket → CeTwoPcPacket → Draft
raised_of n l r =
    either (nat_lt (rank_of l.phase) (rank_of r.phase))
    (record { packet = with_state r.phase r.flags_bitmap l; news = true })
    (either (rank_of l.phase == rank_of r.phase)
    (record { packet = with_state l.phase (join_of n l.flags_bitmap r.flags_bitmap) l; news = join_news n l.flags_bitmap r.flags_bitmap })
    (record { packet = l; news = false }))

-- v speaks up if its entry is there and still false
unfoldable pub own_of : Noes → ℕ → ℕ → Draft → Draft
own_of nay n v d =
    either (nat_lt v d.packet.flags_bitmap.len)
    (either (has d.packet.flags_bitmap.marks v) d (record { packet = voiced_of nay n v d.packet d.packet.phase; news = true }))
    d

unfoldable pub same_term_of : Noes → ℕ → ℕ → CeTwoPcPacket → CeTwoPcPacket → Draft
same_term_of nay n v l r = settled n v (own_of nay n v (raised_of n (ensure_of n l) (ensure_of n r)))

-- ---- the merge, in the order of RULES 6.2

-- what a merge says: whether anything was new, and what is held from now on
pub data MergeResult : Type 0 where
  Redundant : MergeResult
  NewInfo : MergeResult

pub record Merged : Type 0 where
  pub result : MergeResult
  pub payload : Payload

-- nothing new: what is held goes back as it came
abbrev pub redundant : Payload → Merged
redundant l = record { result = Redundant; payload = l }

abbrev pub new_info : CeTwoPcPacket → Merged
new_info p = record { result = NewInfo; payload = record { held = Packet; packet = p } }

-- the code says what is new, a packet, or that nothing is
abbrev pub news_or : Payload → Option CeTwoPcPacket → Merged
news_or l None = redundant l
news_or l (Some p) = new_info p

abbrev pub concluded : Payload → Draft → Merged
concluded l d = either d.news (new_info d.packet) (redundant l)

-- A packet of term t says nothing to a position that holds one of term u, if t is the earlier of the two.
unfoldable pub outdated : ℕ → ℕ → Bool
outdated t u = nat_lt t u

-- the received text is a packet p: an empty local adopts, an unreadable one is left; a higher term is adopted, a lower
-- one left
unfoldable pub heard_of : Noes → ℕ → ℕ → Payload → CeTwoPcPacket → Held → Merged
heard_of nay n v l p Empty = new_info (adopted_of nay n v p)
heard_of nay n v l p Unreadable = redundant l
heard_of nay n v l p Packet =
    either (nat_lt l.packet.term p.term) (new_info (adopted_of nay n v p))
    (either (outdated p.term l.packet.term) (redundant l) (concluded l (same_term_of nay n v l.packet p)))

-- a received text that is no packet, an empty one with it, is redundant
unfoldable pub merged_by : Noes → ℕ → ℕ → Payload → CeTwoPcPacket → Held → Merged
merged_by nay n v l p Empty = redundant l
merged_by nay n v l p Unreadable = redundant l
merged_by nay n v l p Packet = heard_of nay n v l p l.held

unfoldable pub merge_of : Noes → ℕ → ℕ → Payload → Payload → Merged
merge_of nay n v l r = merged_by nay n v l r.packet r.held

-- ---- texts (RULES 6.1)

-- what is held where there is no packet has one of zeros in its place
abbrev pub without : Held → Payload
without h =
    record {
      held = h;
      packet = record { term = 0; phase = Prepare; proposal_data = record { len = 0; bytes = replicate 32 0 }; flags_bitmap = record { len = 0; marks = 0 } };
    }

abbrev pub read_as : Result CeTwoPcPacket Refusal → Payload
read_as (Ok p) = record { held = Packet; packet = p }
read_as (Err k) = without Unreadable

-- what the first len bytes of a buffer are: nothing, a packet's text, or no packet's
unfoldable pub payload_of : List ℕ → ℕ → Payload
payload_of s len = either (len == 0) (without Empty) (read_as (ce_read s len))

-- ---- the proposal (RULES 6.6)

-- n entries, all false
abbrev pub blank : ℕ → ℕ → CeTwoPcPacket
blank n t = record { term = t; phase = Prepare; proposal_data = proposal_data t; flags_bitmap = record { len = n; marks = 0 } }

-- the next term's packet, as its maker has it after its own vote
unfoldable pub proposal_of : Noes → ℕ → ℕ → ℕ → CeTwoPcPacket
proposal_of nay n v t = adopted_of nay n v (blank n (add64 t 1))

-- ---- what is held (RULES 6.7)

-- 0: no packet, and above that the phase
unfoldable pub standing_by : TwoPcPhase → Held → ℕ
standing_by f Empty = 0
standing_by f Unreadable = 0
standing_by f Packet = rank_of f + 1

abbrev pub standing_of : Payload → ℕ
standing_of l = standing_by l.packet.phase l.held

-- a decision is held
unfoldable pub goal_of : Payload → Bool
goal_of l = nat_lt 1 (standing_of l)

-- a decision is held, and all are known to hold it
unfoldable pub can_sleep_of : ℕ → Payload → Bool
can_sleep_of n l = goal_of l && unanimous_of n l.packet.flags_bitmap

-- what an array gives past its end: nothing
abbrev pub no_payload : Payload
no_payload =
    record {
      held = Empty;
      packet = record { term = 0; phase = Prepare; proposal_data = record { len = 0; bytes = [] }; flags_bitmap = record { len = 0; marks = 0 } };
    }

-- the first n of 64 positions, of which there is one or more, all hold phase k - 1
unfoldable pub all_hold : ℕ → ℕ → List Payload → Bool
all_hold n k ls = (nat_lt 0 n && nat_le n positions) && all_of n (λ i. nat_eq (standing_of (slice_index_or ls i no_payload)) k)

-- everybody has the same decision
unfoldable pub network_goal_of : ℕ → List Payload → Bool
network_goal_of n ls = all_hold n 2 ls || all_hold n 3 ls

-- of the first n of 64 positions one or more hold phase k - 1
unfoldable pub any_holds : ℕ → ℕ → List Payload → Bool
any_holds n k ls = nat_le n positions && any_of n (λ i. nat_eq (standing_of (slice_index_or ls i no_payload)) k)

-- One abort is enough, a commit takes everybody; all else was not decided in time.
unfoldable pub outcome_of : ℕ → List Payload → ProposalOutcome
outcome_of n ls = either (any_holds n 3 ls) outcome.Aborted (either (all_hold n 2 ls) outcome.Committed outcome.TimedOut)

-- the outcomes' numbers for C: those of the phases of these names, and 3 for what no phase is called
abbrev pub outcome_number : ProposalOutcome → ℕ
outcome_number outcome.Committed = 1
outcome_number outcome.Aborted = 2
outcome_number outcome.TimedOut = 3
