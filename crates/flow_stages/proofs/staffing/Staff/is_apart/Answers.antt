use Rattle.flow_stages.proofs.TieLemmas.{tied}
use Rattle.flow_stages.proofs.staffing.Staff.is_apart.Goals as goal

pub returns : goal.returns
returns c = tied c.args.self.now.policy.now.duties.separate c.args.event c.args.other _ _ c.separations.ensures c.is_tied.ensures
