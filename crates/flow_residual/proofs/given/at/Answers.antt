use Rattle.std.proofs.Common.{◌∙◌}
use Rattle.flow_residual.proofs.Outstanding.{copied_at}
use Rattle.flow_residual.proofs.given.at.Goals as goal

pub returns : goal.returns
returns c = c.copied.ensures ∙ copied_at c.args.given.now c.args.place c.get.result _ c.get.ensures.lookup.3 c.get.ensures.lookup.1
