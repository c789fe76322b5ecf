-- RULES 12 and RULES 17: what a reading answers as numbers and floats, for an entry that can
-- be lent nothing else; each enum has its number here. Assumes nothing: these are definitions.
use Rattle.std.specs.Prelude.{ℕ, false, List, [], ◌∷◌, ◌++◌, Float, Option, Some, None}
use Rattle.std.specs.Result.{result_unwrap_or}
use mir.Val.{bool_byte}
use Rattle.limits.specs.Refusals.{answer_of}
use Rattle.merges.specs.Merging.{outcome_number}
use Rattle.merges.specs.declared.merging.ProposalOutcome.TheVariants as outcomes
use Rattle.engines.specs.Nodes.{no_node}
use Rattle.engines_c.specs.Numbers.{node_numbers, metrics_numbers}
use Rattle.pipeline.specs.Pipeline.{data_of}
use Rattle.pipeline.specs.declared.two_pc_pipeline.LogEntry.{LogEntry}
use Rattle.readings.specs.declared.readings.PendingReading.{PendingReading}
use Rattle.readings.specs.declared.readings.RecordReading.{RecordReading}
use Rattle.room.specs.Kinds.{kind_number}
use Rattle.readings.specs.Calls.{
  Answer,
  a_kind,
  the_settings,
  a_number,
  the_metrics,
  a_ratio,
  maybe_number,
  an_outcome,
  a_node,
  a_text,
  an_entry,
  a_pending,
  a_record,
}

-- 1 if there is a ratio, which is then a float
abbrev pub ratio_number : Option Float → ℕ
ratio_number None = 0
ratio_number (Some x) = 1

abbrev pub ratio_floats : Option Float → List Float
ratio_floats None = []
ratio_floats (Some x) = x ∷ []

-- 1 if there is an entry, and behind it its transaction and whether that was committed
abbrev pub entry_numbers : Option LogEntry → List ℕ
entry_numbers None = 0 ∷ 0 ∷ 0 ∷ []
entry_numbers (Some e) = 1 ∷ e.tx ∷ bool_byte e.committed ∷ []

-- What is told behind a refusal: 0, TimedOut, a fresh position, nothing held, no record.
abbrev pub nothing_held : PendingReading
nothing_held = record { pending = false; abort = false; votes = 0; start = 0; «data» = data_of false 0 }

abbrev pub no_record : RecordReading
no_record = record { entry = None; start = 0; end = 0 }

abbrev pub pending_numbers : PendingReading → List ℕ
pending_numbers x =
    bool_byte x.pending ∷ bool_byte x.abort ∷ x.votes ∷ x.start ∷ x.«data».len ∷ x.«data».bytes

abbrev pub record_numbers : RecordReading → List ℕ
record_numbers x = entry_numbers x.entry ++ x.start ∷ x.end ∷ []

-- A refusal, 0 for none; what else is told in numbers and in floats; and what becomes of the buffer lent for texts.
pub record Said : Type 0 where
  pub refusal : ℕ
  pub numbers : List ℕ
  pub floats : List Float
  pub text : List ℕ → List ℕ

-- in numbers alone
abbrev pub plain : ℕ → List ℕ → Said
plain k xs = record { refusal = k; numbers = xs; floats = []; text = λ t. t }

-- Every field of the answer, in order; what is no number there is a float or the text.
unfoldable pub said : Answer → Said
said (a_kind k) = plain 0 (kind_number k ∷ [])
said (the_settings s) =
    record {
      refusal = 0;
      numbers =
          s.seed ∷ s.listen_timeout ∷ s.flood_repeats ∷ s.round_slots ∷ bool_byte s.slots_given ∷ [];
      floats = s.loss_rate ∷ s.abort_probability ∷ [];
      text = λ t. t;
    }
said (a_number x) = plain 0 (x ∷ [])
said (the_metrics m) = plain 0 (metrics_numbers m)
said (a_ratio x) = record { refusal = 0; numbers = ratio_number x ∷ []; floats = ratio_floats x; text = λ t. t }
said (maybe_number q) = plain (answer_of q) (result_unwrap_or q 0 ∷ [])
said (an_outcome q) = plain (answer_of q) (outcome_number (result_unwrap_or q outcomes.TimedOut) ∷ [])
said (a_node q) = plain (answer_of q) (node_numbers (result_unwrap_or q no_node))
said (a_text q left) =
    record { refusal = answer_of q; numbers = result_unwrap_or q 0 ∷ []; floats = []; text = λ t. left }
said (an_entry q) = plain (answer_of q) (entry_numbers (result_unwrap_or q None))
said (a_pending q) = plain (answer_of q) (pending_numbers (result_unwrap_or q nothing_held))
said (a_record q) = plain (answer_of q) (record_numbers (result_unwrap_or q no_record))

-- all numbers, the refusal in front
abbrev pub told_in : Said → List ℕ
told_in s = s.refusal ∷ s.numbers
