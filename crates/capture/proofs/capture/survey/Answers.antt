use Rattle.std.proofs.Common.{refl}
use Rattle.capture.proofs.Acting.{goes}
use Rattle.capture.proofs.Running.{surveyed_as}
use Rattle.capture.proofs.capture.survey.Goals as goal

pub returns : goal.returns
returns c =
    let went = goes c.args.conf c.fixed_of.ensures in
    surveyed_as _ c.args.conf _ _ (c.dry_run-d.ensures c.args.conf c.args.c _ went refl (c.unpack-b.ensures refl c.args.conf refl)) c.pack.ensures
