use mathlib.Core.Path.{◌≡◌}
use lib.ListN.{length}
use Rattle.loops.specs.Table.{tabulate}
use Rattle.texts.specs.Put.{Put}
use Rattle.frame.proofs.Playing.{word_at}
use Rattle.frame.proofs.listing.read_words.Given as goal

abbrev pub invariant-loop-k : goal.invariant-loop-k
invariant-loop-k l = (length l.words ≡ length l.initial.words) × Put l.initial.words 0 (tabulate l.k (word_at l.s l.i)) l.k l.words
