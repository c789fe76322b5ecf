-- Of a round only the flood sends: preparing, the flood's start and processing leave bytes sent and flood ticks as they
-- were. Assumes nothing.
use Rattle.std.proofs.Common.{◌≡◌, ℕ, ◌+◌, leb, List, get_or, sym, refl, ap, ◌∙◌}
use Rattle.limits.specs.Limits.{header_bytes}
use Rattle.loops.specs.Upto.{upto_keeps}
use Rattle.loops.specs.Wrap.{add64, mul64}
use Rattle.engines.specs.Clamp.{at_most64}
use Rattle.engines.specs.Nodes.{no_node, flood_ticks}
use Rattle.engines.specs.declared.node.Node.{Node}
use Rattle.engines.proofs.FloodTicks.{kept_ticks}
use Rattle.flood.proofs.Sent.{start_ticks, flood_sends}
use Rattle.pipeline.specs.Pipeline.{no_state, progressed, progress_at, progress_all}
use Rattle.pipeline.specs.Round.{size_of, initiator_of, preparing, bytes_of, flood_from, flood_of, close_round, run_round}
use Rattle.pipeline.specs.Sent.{RoundSends}
use Rattle.pipeline.specs.declared.two_pc_pipeline.NodeTwoPcState.{NodeTwoPcState}

progress_ticks : (n t done : ℕ) (ss : List NodeTwoPcState) (l : List Node) → flood_ticks (progress_all n t done ss l) ≡ flood_ticks l
unfolding progress_all progress_at
progress_ticks n t done ss l =
    upto_keeps flood_ticks (progress_at t done ss) l (at_most64 n)
    (λ i k. kept_ticks k i (progressed done (leb t (get_or ss i no_state).log.len) (get_or k i no_node)) refl)

pub round_sends : RoundSends
unfolding run_round close_round flood_of flood_from bytes_of
round_sends ws conf w p d =
    let i = initiator_of conf p in
    let prep = preparing ws conf w.slot p i d in
    let each = bytes_of conf prep.packet + header_bytes in
    let start = flood_from conf w i prep.draw in
    let f = flood_of ws conf w i prep in
    ap (λ (k : ℕ). add64 f.network.bytes_sent (mul64 k each))
    (sym (start_ticks (size_of conf) i conf.round.settings.flood_repeats w.nodes))
    ∙ flood_sends ws conf.round (bytes_of conf prep.packet) start
    ∙ ap (λ (k : ℕ). add64 w.bytes_sent (mul64 k each)) (sym (progress_ticks (size_of conf) _ _ _ f.network.nodes))
