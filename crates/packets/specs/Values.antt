-- RULES 5.3. What a packet's text says, as a JSON value of RFC 8259: an object with exactly these members, in this
-- order. Assumes nothing: these are definitions.
use Rattle.std.specs.Prelude.{Option, Some, None, List, [], ◌∷◌, ℕ, take}
use Rattle.marks.specs.Marks.{marks_of}
use Rattle.texts.specs.Decimal.{decimal}
use Rattle.texts.specs.Rfc8259.{Tree, Fields}
use Rattle.texts.specs.JsonLaws.{trees_of}
use Rattle.packets.specs.declared.TwoPcPhase.{TwoPcPhase}
use Rattle.packets.specs.declared.TwoPcPhase.TheVariants.{Prepare, Committed, Aborted}
use Rattle.packets.specs.declared.Bitmap.{Bitmap}
use Rattle.packets.specs.declared.Data.{Data}
use Rattle.packets.specs.declared.CeTwoPcPacket.{CeTwoPcPacket}
use Rattle.packets.specs.declared.TwoPcPacket.{TwoPcPacket}

-- the names of the phases: Prepare, Committed, Aborted
abbrev pub phase_name : TwoPcPhase → List ℕ
phase_name Prepare = 80 ∷ 114 ∷ 101 ∷ 112 ∷ 97 ∷ 114 ∷ 101 ∷ []
phase_name Committed = 67 ∷ 111 ∷ 109 ∷ 109 ∷ 105 ∷ 116 ∷ 116 ∷ 101 ∷ 100 ∷ []
phase_name Aborted = 65 ∷ 98 ∷ 111 ∷ 114 ∷ 116 ∷ 101 ∷ 100 ∷ []

-- a number by its decimal spelling, a phase by its name, a bitmap as an array of booleans, data as an array of numbers
abbrev pub num_value : ℕ → Tree
num_value n = Tree.number (decimal n)

abbrev pub phase_value : TwoPcPhase → Tree
phase_value p = Tree.string (phase_name p)

abbrev pub bitmap_value : Bitmap → Tree
bitmap_value b = Tree.array (trees_of Tree.bool (marks_of b.marks b.len))

abbrev pub data_value : Data → Tree
data_value d = Tree.array (trees_of num_value (take d.len d.bytes))

-- absent: null
abbrev pub option_value : {A : Type 0} → (A → Tree) → Option A → Tree
option_value value None = Tree.null
option_value value (Some x) = value x

abbrev pub tx_value : Option ℕ → Tree
tx_value = option_value num_value

abbrev pub state_value : Option TwoPcPhase → Tree
state_value = option_value phase_value

-- the names of the fields

-- term
abbrev pub name_term : List ℕ
name_term = 116 ∷ 101 ∷ 114 ∷ 109 ∷ []

-- phase
abbrev pub name_phase : List ℕ
name_phase = 112 ∷ 104 ∷ 97 ∷ 115 ∷ 101 ∷ []

-- proposal_data
abbrev pub name_proposal_data : List ℕ
name_proposal_data = 112 ∷ 114 ∷ 111 ∷ 112 ∷ 111 ∷ 115 ∷ 97 ∷ 108 ∷ 95 ∷ 100 ∷ 97 ∷ 116 ∷ 97 ∷ []

-- flags_bitmap
abbrev pub name_flags_bitmap : List ℕ
name_flags_bitmap = 102 ∷ 108 ∷ 97 ∷ 103 ∷ 115 ∷ 95 ∷ 98 ∷ 105 ∷ 116 ∷ 109 ∷ 97 ∷ 112 ∷ []

-- transaction_id
abbrev pub name_transaction_id : List ℕ
name_transaction_id = 116 ∷ 114 ∷ 97 ∷ 110 ∷ 115 ∷ 97 ∷ 99 ∷ 116 ∷ 105 ∷ 111 ∷ 110 ∷ 95 ∷ 105 ∷ 100 ∷ []

-- state
abbrev pub name_state : List ℕ
name_state = 115 ∷ 116 ∷ 97 ∷ 116 ∷ 101 ∷ []

-- abort_flag
abbrev pub name_abort_flag : List ℕ
name_abort_flag = 97 ∷ 98 ∷ 111 ∷ 114 ∷ 116 ∷ 95 ∷ 102 ∷ 108 ∷ 97 ∷ 103 ∷ []

-- nack_tx_id
abbrev pub name_nack_tx_id : List ℕ
name_nack_tx_id = 110 ∷ 97 ∷ 99 ∷ 107 ∷ 95 ∷ 116 ∷ 120 ∷ 95 ∷ 105 ∷ 100 ∷ []

-- transaction_data
abbrev pub name_transaction_data : List ℕ
name_transaction_data = 116 ∷ 114 ∷ 97 ∷ 110 ∷ 115 ∷ 97 ∷ 99 ∷ 116 ∷ 105 ∷ 111 ∷ 110 ∷ 95 ∷ 100 ∷ 97 ∷ 116 ∷ 97 ∷ []

-- sender
abbrev pub name_sender : List ℕ
name_sender = 115 ∷ 101 ∷ 110 ∷ 100 ∷ 101 ∷ 114 ∷ []

-- piggyback_tx
abbrev pub name_piggyback_tx : List ℕ
name_piggyback_tx = 112 ∷ 105 ∷ 103 ∷ 103 ∷ 121 ∷ 98 ∷ 97 ∷ 99 ∷ 107 ∷ 95 ∷ 116 ∷ 120 ∷ []

-- piggyback_state
abbrev pub name_piggyback_state : List ℕ
name_piggyback_state = 112 ∷ 105 ∷ 103 ∷ 103 ∷ 121 ∷ 98 ∷ 97 ∷ 99 ∷ 107 ∷ 95 ∷ 115 ∷ 116 ∷ 97 ∷ 116 ∷ 101 ∷ []

unfoldable pub ce_value : CeTwoPcPacket → Tree
ce_value p =
    Tree.object
    (Fields.field name_term (num_value p.term)
    (Fields.field name_phase (phase_value p.phase)
    (Fields.field name_proposal_data (data_value p.proposal_data)
    (Fields.field name_flags_bitmap (bitmap_value p.flags_bitmap)
    Fields.no_fields))))

unfoldable pub pipeline_value : TwoPcPacket → Tree
pipeline_value p =
    Tree.object
    (Fields.field name_transaction_id (num_value p.transaction_id)
    (Fields.field name_state (phase_value p.state)
    (Fields.field name_flags_bitmap (bitmap_value p.flags_bitmap)
    (Fields.field name_abort_flag (Tree.bool p.abort_flag)
    (Fields.field name_nack_tx_id (num_value p.nack_tx_id)
    (Fields.field name_transaction_data (data_value p.transaction_data)
    (Fields.field name_sender (num_value p.sender)
    (Fields.field name_piggyback_tx (tx_value p.piggyback_tx)
    (Fields.field name_piggyback_state (state_value p.piggyback_state)
    Fields.no_fields)))))))))
