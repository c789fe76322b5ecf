use Rattle.std.proofs.Common.{sym, refl}
use Rattle.capture.proofs.Acting.{goes}
use Rattle.capture.proofs.capture.write_rows.Goals as goal

pub returns : goal.returns
returns c =
    let went = goes c.args.conf c.fixed_of.ensures in
    c.record_run.ensures c.args.conf c.args.c _ went refl (c.unpack-b.ensures refl c.args.conf refl) (sym c.highest_progress-top.ensures)
