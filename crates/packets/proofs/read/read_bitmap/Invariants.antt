use Rattle.std.proofs.Common.{◌≡◌, ◌-◌, ◌^◌, ◌<◌}
use Rattle.packets.specs.Reading.{bitmap_of, bitmap_at}
use Rattle.texts.specs.Readers.{map, bool_at, items_at}
use Rattle.texts.specs.Stores.{store_mark}
use Rattle.packets.proofs.read.read_bitmap.Given as goal

abbrev pub invariant-loop-k : goal.invariant-loop-k
invariant-loop-k l = (l.marks < 2 ^ l.k) × (bitmap_at l.s l.at ≡ map bitmap_of (items_at bool_at store_mark (64 - l.k) l.s l.i l.k l.marks))
