use mathlib.Core.Path.{refl}
use lib.ListN.{length-set}
use native.Mathlib.Omega.{arith}
use Rattle.frame.proofs.Playing.{word_at, words_start, words_more}
use Rattle.frame.proofs.listing.read_words.Goals as goal

pub loop-k-init : goal.loop-k-init
loop-k-init c = (refl, words_start _ _)

pub loop-k-preserved : goal.loop-k-preserved
loop-k-preserved c = (simp length-set c.loop-k.invariant.0, words_more (word_at c.args.s.now c.args.i) (omega arith) c.loop-k.invariant.1 c.word_at.ensures)
