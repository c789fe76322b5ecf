use mathlib.Core.Path.{sym, ◌∙◌}
use Rattle.frame.specs.Listing.{outcome_of}
use native.Mathlib.Omega.{arith}
use Rattle.frame.proofs.Playing.{kept, no_words, a_frame, words_left}
use Rattle.std.proofs.lemmas.Grind.{common_steps}
use Rattle.frame.proofs.listing.outcome_of.Goals as goal

pub returns-in_err-f : goal.returns-in_err-f
unfolding outcome_of
returns-in_err-f c = (grind (arith, common_steps), no_words c.args.s.now c.args.words.now (sym (c.in_err-f.was) ∙ c.read_frame.ensures))

pub read_words-requires : goal.read_words-requires
read_words-requires c =
    let k = kept c.args.s.now (sym (c.in_ok-f.was) ∙ c.read_frame.ensures) in
    (k.inside, omega (arith, k.few), k.hex)

pub shared_ref_as_front-play_frame : goal.shared_ref_as_front-play_frame
shared_ref_as_front-play_frame c =
    let k = kept c.args.s.now (sym (c.in_ok-f.was) ∙ c.read_frame.ensures) in
    omega (arith, k.few)

pub returns : goal.returns
returns c =
    let e = sym (c.in_ok-f.was) ∙ c.read_frame.ensures in
    (a_frame c.args.s.now c.args.words.now e c.read_words.ensures c.play_frame.ensures, words_left c.args.s.now c.args.words.now e c.read_words.ensures)
