use Rattle.std.proofs.Common.{refl, rules}
use Rattle.flow_sample.proofs.OrderLemmas.{each_within, ring_within, ring_some}
use Rattle.flow_sample.proofs.order.refusal_of.Goals as goal

pub circle_of-requires : goal.circle_of-requires
circle_of-requires g c =
    let wide = c.requires.wide in (
      search rules,
      (
        each_within c.args.items.now c.args.ring.now c.args.ring.now refl (ring_within c.args.items.now c.args.ring.now c.requires.ring.cycle),
        ring_some c.args.items.now c.args.ring.now c.requires.ring.cycle,
      ),
    )
