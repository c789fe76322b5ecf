use Rattle.std.proofs.Common.{◌≡◌, ◌+◌, ◌*◌, ◌<◌, ◌%◌, ◌^◌, ℕ, length, slice_index}
use Rattle.case_lines.proofs.fill_words.Given as goal

abbrev pub invariant-loop-i : goal.invariant-loop-i
invariant-loop-i l =
    (length l.words ≡ length l.fn.words)
    × ((k : ℕ) → k < l.i → slice_index l.words k ≡ (l.fn.first + l.fn.step * k) % 2 ^ 64)
