use Rattle.std.proofs.Common.{sym, refl, ap, ◌∙◌, le-ltb, lt-ltb}
use Rattle.merges.specs.Merging.{new_info, heard_of}
use Rattle.merges.proofs.Slips.{heard_same}
use Rattle.merges.proofs.merging.hear_packet.Goals as goal

pub returns-then-local-received : goal.returns-then-local-received
unfolding heard_of
returns-then-local-received c =
    record {
      merged = λ d l h k.
          rw (k refl, lt-ltb _ _ c.if-local-received.true) (ap new_info (sym (c.adopt_with_local_vote.ensures d)));
    }

pub returns-then-is_outdated : goal.returns-then-is_outdated
unfolding heard_of
returns-then-is_outdated c =
    record {
      merged = λ d l h k.
          rw (k refl, le-ltb _ _ c.if-local-received.false, ← c.is_outdated.ensures, c.if-is_outdated.true);
    }

pub returns-then-x : goal.returns-then-x
returns-then-x c =
    record {
      merged = λ d l h k.
          heard_same _ _ _ l _ _ _ (k refl)
          (le-ltb _ _ c.if-local-received.false)
          (sym c.is_outdated.ensures ∙ c.if-is_outdated.false)
          (c.merge_same_term-x.ensures d)
          ∙ rw c.if-x.true;
    }

pub returns-else-x : goal.returns-else-x
returns-else-x c =
    record {
      merged = λ d l h k.
          heard_same _ _ _ l _ _ _ (k refl)
          (le-ltb _ _ c.if-local-received.false)
          (sym c.is_outdated.ensures ∙ c.if-is_outdated.false)
          (c.merge_same_term-x.ensures d)
          ∙ rw c.if-x.false;
    }
