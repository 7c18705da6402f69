use Rattle.flow_plan.proofs.SweepLemmas.{joined_has}
use Rattle.flow_plan.proofs.sweep.push_joined.Goals as goal

pub returns : goal.returns
returns g c = λ leaves test stands. (
  c.in-Some.set.now,
  c.in_ok-push.ensures.items,
  joined_has leaves c.args.rows.now.items c.args.joined.now c.args.number c.in-Some.set.now c.in-Some.ensures.some test stands,
)
