-- RULES none. A buffer with the place in it where the next text goes. Assumes nothing: these are definitions.
use Rattle.std.specs.Prelude.{◌≡◌, List, ℕ}
use Rattle.texts.specs.Put.{Put, Room}
use Rattle.packets.specs.declared.put.Writer.{Writer}

-- the text fits the buffer from the place on
abbrev pub RoomIn : Writer → List ℕ → Type 0
RoomIn w t = Room w.buf.now w.at t

-- what a writer does: it puts the text t, goes behind it, and leaves every other byte and the lent buffer itself as it was
pub record Wrote (w : Writer) (t : List ℕ) (v : Writer) : Type 0 where
  pub put : Put w.buf.now w.at t v.at v.buf.now
  pub same : v.buf.ghost_name ≡ w.buf.ghost_name
