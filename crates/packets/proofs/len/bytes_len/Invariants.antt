use Rattle.std.proofs.Common.{◌≡◌, ◌+◌, ◌*◌, ◌≤◌, length, drop}
use Rattle.texts.specs.Decimal.{decimal}
use Rattle.texts.specs.Readers.{items_text}
use Rattle.packets.proofs.len.bytes_len.Given as goal

abbrev pub invariant-loop-b : goal.invariant-loop-b
invariant-loop-b l =
    (l.b-index ≤ length l.bytes) × (l.len ≤ 1 + 4 * l.b-index)
    × (l.len + length (items_text decimal (drop l.b-index l.bytes)) ≡ 1 + length (items_text decimal l.bytes))
