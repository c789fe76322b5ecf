-- RULES 7.6: the two ratios. Assumes nothing.
use Rattle.std.specs.Prelude.{ℕ, ◌+◌, ◌%◌, ◌^◌, pos, ◌==◌, Option, None, Some, Float}
use Rattle.std.specs.Float.{binary64}
use Rattle.std.specs.Float.Ieee.{div, of_int}
use Rattle.loops.specs.Pick.{either}
use Rattle.engines.specs.declared.metrics.MetricsCollector.{MetricsCollector}

abbrev pub no_metrics : MetricsCollector
no_metrics =
    record {
      nacks_sent = 0;
      piggybacks_sent = 0;
      ce_timeouts = 0;
      rx_attempts = 0;
      rx_success = 0;
      flood_rounds = 0;
      flood_nodes_total = 0;
      flood_nodes_covered = 0;
    }

-- Each count as the nearest binary64 number, and their quotient; nothing where the second is 0.
unfoldable pub ratio_of : ℕ → ℕ → Option Float
ratio_of part whole = either (whole == 0) None (Some (div binary64 (of_int binary64 (pos part)) (of_int binary64 (pos whole))))

unfoldable pub link_pdr_of : MetricsCollector → Option Float
link_pdr_of m = ratio_of m.rx_success m.rx_attempts

unfoldable pub flood_coverage_of : MetricsCollector → Option Float
flood_coverage_of m = ratio_of m.flood_nodes_covered m.flood_nodes_total

-- frames tried and received, added to what was counted before
unfoldable pub with_frames : ℕ → ℕ → MetricsCollector → MetricsCollector
with_frames attempts success m =
    record {
      nacks_sent = m.nacks_sent;
      piggybacks_sent = m.piggybacks_sent;
      ce_timeouts = m.ce_timeouts;
      rx_attempts = (m.rx_attempts + attempts) % 2 ^ 64;
      rx_success = (m.rx_success + success) % 2 ^ 64;
      flood_rounds = m.flood_rounds;
      flood_nodes_total = m.flood_nodes_total;
      flood_nodes_covered = m.flood_nodes_covered;
    }
