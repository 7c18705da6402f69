use Rattle.std.proofs.Common.{sym, ◌∙◌}
use Rattle.flow_goal.specs.Goal.{process_of}
use Rattle.flow_goal.proofs.Numbers.{stopped, failed}
use Rattle.flow_goal.proofs.tree.is_numbered.Goals as goal

pub returns-in-Some : goal.returns-in-Some
returns-in-Some c = stopped (process_of c.args.goal.now) c.args.count c.in-Some.stop (sym c.in-Some.is ∙ c.number_after.ensures)

pub returns-in-None : goal.returns-in-None
returns-in-None c = failed (process_of c.args.goal.now) c.args.count (sym c.in-None.is ∙ c.number_after.ensures)
