use Rattle.std.proofs.Common.{◌≡◌, ◌-◌}
use Rattle.std.specs.Prelude.{min}
use Rattle.loops.specs.Downto.{downto}
use Rattle.engines.specs.Words.{swap_step}
use Rattle.engines.proofs.words.shuffle.Given as goal

abbrev pub invariant-loop-i : goal.invariant-loop-i
invariant-loop-i l = downto (l.i - 1) (swap_step l.words) (record { ids = l.ids; draw = l.e }) ≡ downto (min l.count 64 - 1) (swap_step l.words) (record { ids = l.fn.ids; draw = l.fn.d })
