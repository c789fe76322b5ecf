-- RULES 11.2, refusal 4 of RULES 15, and RULES 3.4, when a loss is drawn. Assumes nothing.
use Rattle.std.specs.Prelude.{Bool, ◌&&◌, from_bits, Float}
use Rattle.std.specs.Float.{binary64}
use Rattle.std.specs.Float.Ieee.{le, lt}

-- The loss is a number from 0 on and below 1. (The patterns are those of 0 and 1; -0 equals 0, and NaN compares with
-- nothing.)
unfoldable pub loss_accepted : Float → Bool
loss_accepted loss = le (from_bits binary64 0) loss && lt loss (from_bits binary64 0x3FF0_0000_0000_0000)

-- Losses are drawn only if the loss lies above 0.
unfoldable pub is_lossy : Float → Bool
is_lossy loss = lt (from_bits binary64 0) loss
