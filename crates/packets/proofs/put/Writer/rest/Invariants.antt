use Rattle.std.proofs.Common.{◌≤◌, length, drop}
use Rattle.texts.specs.Decimal.{decimal}
use Rattle.texts.specs.Readers.{items_text}
use Rattle.packets.proofs.Writers.{Left}
use Rattle.packets.proofs.put.Writer.rest.Given as goal

abbrev pub invariant-loop-b : goal.invariant-loop-b
invariant-loop-b l =
    Left l.initial.w (items_text decimal l.bytes) l.w (items_text decimal (drop l.b-index l.bytes)) × (l.b-index ≤ length l.bytes)
