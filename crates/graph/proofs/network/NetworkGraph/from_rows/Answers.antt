use Rattle.std.proofs.Common.{List, ℕ, Ok, ap, sym, ◌∙◌, ◌++◌, drop, length, replicate}
use Rattle.graph.specs.Links.{rows_of}
use Rattle.graph.proofs.Rules.{copied_is, fits_front, size_parts}
use Rattle.graph.proofs.network.NetworkGraph.from_rows.Goals as goal

pub slice_bounds-copy_from_slice-end : goal.slice_bounds-copy_from_slice-end
slice_bounds-copy_from_slice-end c = sym (fits_front _ (size_parts _ (sym c.check_size.ensures ∙ c.in_ok-check_size.was)).1)

pub copy_from_slice-requires : goal.copy_from_slice-requires
copy_from_slice-requires c = fits_front _ (size_parts _ (sym c.check_size.ensures ∙ c.in_ok-check_size.was)).1

pub returns : goal.returns
unfolding rows_of
returns c =
    let n = length c.args.rows.now in
    let size = sym c.check_size.ensures ∙ c.in_ok-check_size.was in
    let copied = ap (λ (l : List ℕ). l ++ drop n (replicate 64 0)) c.copy_from_slice.ensures.after ∙ copied_is c.args.rows.now (size_parts n size).1 in
    rw (size, sym c.check_rows.ensures ∙ c.in_ok-check_rows.was) (ap (λ (l : List ℕ). Ok (record { n = n; adj = l })) copied)
