use Rattle.std.proofs.Common.{List, ℕ, ap, refl, length}
use Rattle.packets_c.proofs.Asked.{front_written}
use Rattle.packets_c.proofs.console.filled.Goals as goal

pub returns : goal.returns
returns c =
    ap (λ (x : List ℕ). record { len = length c.args.bytes.now; bytes = x })
    (front_written _ _ _ _ c.copy_from_slice.ensures.after refl)
