use Rattle.std.proofs.Common.{refl}
use Rattle.texts.specs.Put.{put_byte}
use Rattle.packets.proofs.put.Writer.byte.Goals as goal

pub returns : goal.returns
returns c = record { put = put_byte c.args.self.now.buf.now c.args.self.now.at c.args.b c.requires; same = refl }
