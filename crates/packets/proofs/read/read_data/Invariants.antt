use Rattle.std.proofs.Common.{◌≡◌, ◌-◌, length}
use Rattle.packets.specs.Packets.{most_bytes}
use Rattle.packets.specs.Reading.{data_of, data_at}
use Rattle.texts.specs.Readers.{map, num_at, items_at}
use Rattle.texts.specs.Stores.{store_byte}
use Rattle.packets.proofs.read.read_data.Given as goal

abbrev pub invariant-loop-k : goal.invariant-loop-k
invariant-loop-k l = (length l.bytes ≡ 32) × (data_at l.s l.at ≡ map data_of (items_at (num_at 256) store_byte (most_bytes - l.k) l.s l.i l.k l.bytes))
