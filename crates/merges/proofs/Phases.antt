-- The derived order of phases and the rule's ranks.
-- Assumes nothing.
use Rattle.std.proofs.Common.{◌≡◌, refl, [], ◌∷◌, get_or, int_cmp, Less, Equal, Greater, Ordering, true, false, nat_lt, eqb}
use lib.IntN.{pos}
use denote.Enum.Declared.{tag_of}
use Rattle.packets.specs.contracts.TwoPcPhase.{the_type}
use Rattle.packets.specs.declared.TwoPcPhase.{TwoPcPhase}
use Rattle.packets.specs.declared.TwoPcPhase.TheVariants.{Prepare, Committed, Aborted}
use Rattle.merges.specs.Merging.{rank_of}

abbrev pub order_of : TwoPcPhase → TwoPcPhase → Ordering
order_of f g = int_cmp (get_or (pos 0 ∷ pos 1 ∷ pos 2 ∷ []) (tag_of the_type f) (pos 0)) (get_or (pos 0 ∷ pos 1 ∷ pos 2 ∷ []) (tag_of the_type g) (pos 0))

pub lower : (f g : TwoPcPhase) → Less ≡ order_of f g → nat_lt (rank_of f) (rank_of g) ≡ true
unfolding rank_of
lower Prepare Prepare e = cc
lower Prepare Committed e = refl
lower Prepare Aborted e = refl
lower Committed Prepare e = cc
lower Committed Committed e = cc
lower Committed Aborted e = refl
lower Aborted Prepare e = cc
lower Aborted Committed e = cc
lower Aborted Aborted e = cc

pub same : (f g : TwoPcPhase) → Equal ≡ order_of f g → f ≡ g
same Prepare Prepare e = refl
same Prepare Committed e = cc
same Prepare Aborted e = cc
same Committed Prepare e = cc
same Committed Committed e = refl
same Committed Aborted e = cc
same Aborted Prepare e = cc
same Aborted Committed e = cc
same Aborted Aborted e = refl

pub not_below : (f : TwoPcPhase) → nat_lt (rank_of f) (rank_of f) ≡ false
unfolding rank_of
not_below Prepare = refl
not_below Committed = refl
not_below Aborted = refl

pub equal_to : (f : TwoPcPhase) → eqb (rank_of f) (rank_of f) ≡ true
unfolding rank_of
equal_to Prepare = refl
equal_to Committed = refl
equal_to Aborted = refl

pub higher : (f g : TwoPcPhase) → Greater ≡ order_of f g → (nat_lt (rank_of f) (rank_of g) ≡ false) × (eqb (rank_of f) (rank_of g) ≡ false)
unfolding rank_of
higher Prepare Prepare e = cc
higher Prepare Committed e = cc
higher Prepare Aborted e = cc
higher Committed Prepare e = (refl, refl)
higher Committed Committed e = cc
higher Committed Aborted e = cc
higher Aborted Prepare e = (refl, refl)
higher Aborted Committed e = (refl, refl)
higher Aborted Aborted e = cc
