-- The answers of the entries for C, case by case. Assumes nothing.
use Rattle.std.proofs.Common.{◌≡◌, refl, sym, ◌∙◌, ℕ, ◌≤◌, arith, List, ◌++◌, length, drop}
use Rattle.std.proofs.lemmas.List.Edits.{sets, sets-eq}
use borrow.Author.Tests.{ne_eqb}
use Rattle.graph.specs.Console.{unless}

pub unless_refused : {A : Type 0} (k : ℕ) (new old : A) → (k ≡ 0 → ⊥) → old ≡ unless k new old
unfolding unless
unless_refused k new old h = rw (ne_eqb k 0 h)

pub unless_done : {A : Type 0} (new old : A) → new ≡ unless 0 new old
unfolding unless
unless_done new old = refl

-- the first 64 numbers stored
pub stored : (l values : List ℕ) → length values ≡ 64 → 64 ≤ length l → values ++ drop 64 l ≡ sets l 0 values
stored l values e h = sym (sets-eq values l 0 (omega arith) ∙ rw e)
