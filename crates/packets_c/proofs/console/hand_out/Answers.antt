use Rattle.std.proofs.Common.{◌≡◌, refl, sym, length, length-take-le, ◌∙◌, rules}
use Rattle.packets_c.proofs.Asked.{front_written}
use Rattle.packets_c.proofs.console.hand_out.Goals as goal

pub copy_from_slice-requires-2 : goal.copy_from_slice-requires-2
copy_from_slice-requires-2 c =
    let long : length c.args.d.bytes ≡ 32 = search rules in
    length-take-le 32 c.args.bytes.now c.requires.1 ∙ sym long

pub returns : goal.returns
returns c =
    let long : length c.args.d.bytes ≡ 32 = search rules in
    record {
      numbers_after = front_written _ _ _ _ c.copy_from_slice.ensures.after refl;
      bytes_after = front_written _ _ _ 32 c.copy_from_slice-2.ensures.after (sym long);
    }
