-- Who takes part in a round. Assumes nothing.
use Rattle.std.proofs.Common.{◌≡◌, ℕ, ◌^◌, ◌<◌, Bool, true, false, ◌&&◌, ◌||◌, eqb, ltb, refl, ap, ◌∙◌, ap₂, arith}
use Rattle.marks.specs.Marks.{has}
use Rattle.marks.specs.Sets.{marks_is, has_marks}
use Rattle.engines.specs.Marked.{with_mark}
use Rattle.pipeline.specs.Pipeline.{parts_of}

pub parts_is : (n initiator sleeping all first r : ℕ) → r < 2 ^ 64 → all ≡ with_mark sleeping initiator → ((j : ℕ) → has first j ≡ (ltb j n && ltb j 64)) → ((j : ℕ) → has r j ≡ (has all j && has first j)) → r ≡ parts_of n initiator sleeping
unfolding parts_of with_mark
parts_is n initiator sleeping all first r h a f e =
    marks_is 64 (λ i. ltb i n && (has sleeping i || eqb i initiator)) r (omega arith) h
    (λ j. e j ∙ (ap₂ (λ (x y : Bool). x && y) (ap (λ (x : ℕ). has x j) a ∙ has_marks 64 (λ i. has sleeping i || eqb i initiator) j) (f j) ∙ by (ltb j 64) (ltb j n) (has sleeping j || eqb j initiator)))
  where
    by : (a b t : Bool) → ((a && t) && (b && a)) ≡ (a && (b && t))
    by true true true = refl
    by true true false = refl
    by true false true = refl
    by true false false = refl
    by false b t = refl
