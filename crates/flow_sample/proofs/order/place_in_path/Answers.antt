use Rattle.std.proofs.Common.{arith}
use Rattle.flow_sample.proofs.RingLemmas.{not_there}
use Rattle.flow_sample.proofs.order.place_in_path.Goals as goal

pub unreachable-requires : goal.unreachable-requires
unreachable-requires c = not_there c.args.path.now c.args.number (λ k l e. c.loop-place.invariant k (omega arith) e) c.requires
