use Rattle.std.proofs.Common.{◌∙◌}
use Rattle.flow_model.specs.Process.{leaves}
use Rattle.flow_residual.proofs.Outstanding.{is_among}
use Rattle.flow_reach.proofs.reach.has.Goals as goal

pub returns : goal.returns
returns c = is_among c.contains.result c.args.leaf c.leaves.result.now (leaves c.args.plan.now.process) c.contains.ensures.value (c.leaves.ensures.leaves ∙ c.leaves.ensures.listed)
