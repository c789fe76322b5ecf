use Prim.Native.Nat.{◌+◌}
use Rattle.engines_c.specs.Payloads.{payload_numbers, put_payload}
use Rattle.engines_c.proofs.Storing.{put_two}
use Rattle.engines_c.proofs.payloads.put_payload.Goals as goal

pub returns : goal.returns
unfolding put_payload
returns c = put_two c.args.xs.now (payload_numbers c.args.l) c.args.l.packet.proposal_data.bytes (c.args.at + c.args.k) (c.args.at + (c.args.k + 6)) c.put_run-2.ensures c.put_run.ensures c.payload_numbers-first.ensures c.widened-rest.ensures
