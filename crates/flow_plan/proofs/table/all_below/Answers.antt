use Rattle.flow_plan.proofs.PlaceLemmas.{all_below_last, none_below}
use Rattle.flow_plan.proofs.table.all_below.Goals as goal

pub returns-in-Some : goal.returns-in-Some
returns-in-Some c = all_below_last c.args.leaves.now c.in-Some.last.now c.args.bound c.requires c.in-Some.ensures.value

pub returns-in-None : goal.returns-in-None
returns-in-None c = λ yes. none_below c.args.leaves.now c.args.bound c.in-None.ensures.value
