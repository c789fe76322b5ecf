use Rattle.frame.specs.Listing.{name_of}
use Rattle.texts.specs.Put.{Put}
use Rattle.frame.proofs.listing.put_name.Given as goal

abbrev pub invariant-loop-k : goal.invariant-loop-k
invariant-loop-k l = Put l.initial.out 0 (name_of l.s l.k) l.k l.out
