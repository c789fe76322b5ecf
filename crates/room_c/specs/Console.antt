-- RULES 17, entries on slices and numbers: a room opened and called by lent
-- lists of numbers, and its account as such a list. A place past the end reads as 0, and nothing is put there. Assumes
-- nothing.
use Rattle.room.specs.Capturing.{proposer}
use Rattle.std.specs.Prelude.{ℕ, ◌+◌, ◌-◌, ◌*◌, ◌/◌, ◌%◌, ◌^◌, List, [], ◌∷◌, ◌++◌, map, eqb, Float, length, get_or, set, Option, None, Some, Result, Ok, Err, is_some}
use Rattle.std.proofs.lemmas.List.Edits.{sets}
use mir.Val.{bool_byte}
use Rattle.loops.specs.Pick.{either}
use Rattle.loops.specs.Upto.{upto}
use Rattle.engines_c.specs.Numbers.{truth}
use Rattle.engines_c.specs.Payloads.{put_held}
use Rattle.engines.specs.declared.settings.Settings.{Settings}
use Rattle.limits.specs.Refusals.{answer_of as tell, number_of, and_then}
use Rattle.limits.specs.declared.refusals.Refusal.{Refusal}
use Rattle.graph.specs.Links.{rows_of}
use Rattle.graph.specs.declared.network.NetworkGraph.{NetworkGraph}
use Rattle.pipeline_c.specs.Console.{put_played}
use Rattle.pipeline_c.specs.declared.rounds.Played.{Played}
use Rattle.room.specs.Kinds.{kind_numbered}
use Rattle.room.specs.declared.room.Room.{Room}
use Rattle.room.specs.declared.room.Asked.{Asked}
use Rattle.room.specs.Rooms.{open_of, propose_of, RoundAnswer, capture_of, capture_buffer, pipeline_of, pipeline_buffer}
use Rattle.readings.specs.Calls.{
  Reading,
  kind,
  num_nodes,
  settings,
  slot,
  next_row,
  bytes_sent,
  metrics,
  link_pdr,
  flood_coverage,
  term,
  round,
  stopped,
  initiator,
  proposal_outcome,
  node,
  packet_text,
  log_len,
  log_entry,
  pending,
  «record»,
  answer_of,
}
use Rattle.demand.specs.Calls.{Call, Propose, CaptureRound, PipelineRound, Read, handed}
use Rattle.room_c.specs.Answers.{Said, plain, said, told_in}

-- ---- the opening

-- from place 5 on: seed, listen timeout, repeats (the low 32 digits), slots of a round, whether these are given
unfoldable pub settings_by : List ℕ → Float → Float → Settings
settings_by xs loss p =
    record {
      loss_rate = loss;
      abort_probability = p;
      seed = get_or xs 5 0;
      listen_timeout = get_or xs 6 0;
      flood_repeats = get_or xs 7 0 % 2 ^ 32;
      round_slots = get_or xs 8 0;
      slots_given = truth (get_or xs 9 0);
    }

-- before them: kind, transactions, start term, interval, bound
unfoldable pub asked_by : List ℕ → Float → Float → NetworkGraph → Asked
asked_by xs loss p g =
    record {
      kind = kind_numbered (get_or xs 0 0);
      graph = g;
      settings = settings_by xs loss p;
      transactions = get_or xs 1 0;
      term = get_or xs 2 0;
      interval = get_or xs 3 0;
      bound = get_or xs 4 0;
    }

-- The refusal of the rows (2 and 3), or else of the opening with the graph that they make.
unfoldable pub opening_by : List ℕ → Float → Float → List ℕ → Result Room Refusal
opening_by xs loss p links = and_then (rows_of links) (λ g. open_of (asked_by xs loss p g))

-- ---- which call it is

-- the readings of the room as a whole, and those of a position or a place
abbrev pub whole_readings : List Reading
whole_readings =
    kind ∷ num_nodes ∷ settings ∷ slot ∷ next_row ∷ bytes_sent ∷ metrics ∷ link_pdr ∷ flood_coverage ∷
    term ∷ round ∷ stopped ∷ initiator ∷ proposal_outcome ∷ []

abbrev pub part_readings : List ℕ → ℕ → ℕ → List Reading
part_readings text a b =
    node a ∷ packet_text a text ∷ log_len a ∷ log_entry a b ∷ pending a b ∷ «record» a ∷ []

-- what those of a number from 4 on, or from 18 on, say; for a number beyond, which the table has not, the last
abbrev pub whole_said : ℕ → Room → Said
whole_said which r = said (answer_of (get_or whole_readings (which - 4) proposal_outcome) r)

abbrev pub part_said : List ℕ → ℕ → ℕ → ℕ → Room → Said
part_said text a b which r = said (answer_of (get_or (part_readings text a b) (which - 18) («record» a)) r)

-- The calls, each at the place that is its number: 0 none, 1 propose, 2 capture round, 3 pipeline round, from 4 on the
-- readings of the whole room, from 18 on the others. Of its three arguments a is a position or a record's place, b a
-- round's cursor, a log's place or a transaction, c the rows used.
unfoldable pub call_table : List ℕ → List ℕ → List ℕ → ℕ → ℕ → ℕ → List (Option Call)
call_table ws rows text a b c =
    None ∷ Some (Propose a) ∷ Some (CaptureRound ws b rows c) ∷ Some (PipelineRound ws b rows c) ∷
    map (λ q. Some (Read q)) (whole_readings ++ part_readings text a b)

-- The lent lists that calls write to, and the room.
pub record Calling : Type 0 where
  pub rows : List ℕ
  pub told : List ℕ
  pub floats : List Float
  pub text : List ℕ
  pub room : Room

-- a number that is no place of the table is no call
unfoldable pub call_by : List ℕ → Calling → ℕ → ℕ → ℕ → ℕ → Option Call
call_by ws w which a b c = get_or (call_table ws w.rows w.text a b c) which None

-- call i of the list: four numbers, with the lists as the calls before it left them
unfoldable pub call_at : List ℕ → List ℕ → ℕ → Calling → Option Call
call_at ws calls i w =
    let k = i * 4 in
    call_by ws w (get_or calls k 0) (get_or calls (k + 1) 0) (get_or calls (k + 2) 0) (get_or calls (k + 3) 0)

-- ---- what it tells and leaves

-- a round's cursor and the rows used; refused, these are as they were handed over
abbrev pub round_said : RoundAnswer → Said
round_said a = plain (tell a.told) (a.cursor ∷ a.used ∷ [])

unfoldable pub call_said : Call → Room → Said
call_said (Propose v) r = plain (tell (propose_of r v).told) []
call_said (CaptureRound ws cursor rows used) r = round_said (capture_of ws (length rows) used r cursor)
call_said (PipelineRound ws cursor rows used) r = round_said (pipeline_of ws (length rows) used r cursor)
call_said (Read q) r = said (answer_of q r)

-- the buffer of rows, to which rounds alone write
unfoldable pub rows_left : List ℕ → Call → Room → List ℕ
rows_left rows (Propose v) r = rows
rows_left rows (CaptureRound ws cursor lent used) r = capture_buffer ws lent used r cursor
rows_left rows (PipelineRound ws cursor lent used) r = pipeline_buffer ws lent used r cursor
rows_left rows (Read q) r = rows

-- the places of each call in the two lists
abbrev pub numbers_each : ℕ
numbers_each = 40

abbrev pub floats_each : ℕ
floats_each = 2

-- what is no call tells that there is no refusal
abbrev pub untold : ℕ → List ℕ → List ℕ
untold i told = set told (i * numbers_each) 0

unfoldable pub called : ℕ → Option Call → Calling → Calling
called i None w =
    record { rows = w.rows; told = untold i w.told; floats = w.floats; text = w.text; room = w.room }
called i (Some c) w =
    let s = call_said c w.room in
    record {
      rows = rows_left w.rows c w.room;
      told = sets w.told (i * numbers_each) (told_in s);
      floats = sets w.floats (i * floats_each) s.floats;
      text = s.text w.text;
      room = handed c w.room;
    }

-- call i, by its numbers
abbrev pub call_of : List ℕ → ℕ → ℕ → ℕ → ℕ → ℕ → Calling → Calling
call_of ws i which a b c w = called i (call_by ws w which a b c) w

abbrev pub turn : List ℕ → List ℕ → ℕ → Calling → Calling
turn ws calls i w = called i (call_at ws calls i w) w

-- the first k calls, each on what the one before it left
unfoldable pub play_first : ℕ → List ℕ → List ℕ → Calling → Calling
play_first k ws calls w = upto k (turn ws calls) w

-- all of them; fewer than four numbers at the end are none
abbrev pub play : List ℕ → List ℕ → Calling → Calling
play ws calls w = play_first (length calls / 4) ws calls w

-- ---- the account

-- as the pipeline's console has it, with nothing of a call, and behind it what that has not
abbrev pub played_by : Room → Played
played_by r = record { cursor = 0; used = 0; count = 0; network = r.network; part = r.pipeline }

unfoldable pub term_numbers : Room → List ℕ
term_numbers r =
    let x = r.capture in
    x.term ∷ proposer x ∷ bool_byte (is_some x.initiator) ∷ bool_byte x.raised ∷ []

unfoldable pub put_room : Room → List ℕ → List ℕ
put_room r xs = put_held 9753 r.capture.held (sets (put_played (played_by r) xs) 9749 (term_numbers r))

-- ---- the entry

-- what is handed back, and the lent lists behind it
pub record Run : Type 0 where
  pub answer : ℕ
  pub rows : List ℕ
  pub told : List ℕ
  pub floats : List Float
  pub text : List ℕ
  pub out : List ℕ

abbrev pub ended : ℕ → Calling → List ℕ → Run
ended k w out =
    record { answer = k; rows = w.rows; told = w.told; floats = w.floats; text = w.text; out = out }

-- the opening's refusal; with one nothing is called, and every list stays as it is
unfoldable pub run_from :
    Result Room Refusal → List ℕ → List ℕ → List ℕ → List ℕ → List Float → List ℕ → List ℕ → Run
run_from (Ok r) ws calls rows told floats text out =
    let w : Calling = record { rows = rows; told = told; floats = floats; text = text; room = r } in
    let v = play ws calls w in ended 0 v (put_room v.room out)
run_from (Err k) ws calls rows told floats text out =
    record { answer = number_of k; rows = rows; told = told; floats = floats; text = text; out = out }
