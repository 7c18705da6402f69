use Rattle.std.proofs.Common.{subst}
use Rattle.flow_core.specs.Answers.{Performs}
use Rattle.flow_core.specs.Run.{Run}
use Rattle.flow_core.proofs.run.Core.perform.Goals as goal

pub returns : goal.returns
returns c = subst (λ (r : Run). Performs r c.args.leaf c.args.by c.perform_prepared.result c.perform_prepared.new.self) c.prepare.ensures c.perform_prepared.ensures
