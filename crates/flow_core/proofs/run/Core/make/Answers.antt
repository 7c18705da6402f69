use Rattle.flow_core.proofs.MakeLemmas.{made_where}
use Rattle.flow_core.proofs.run.Core.make.Goals as goal

pub returns-clause-legal : goal.returns-clause-legal
returns-clause-legal c =
    made_where c.args.self.now (rw (← c.self.view_is) c.self.invariant.kept.legal) c.args.entry c.make_step.result c.make_step.new.self c.make_step.ensures
