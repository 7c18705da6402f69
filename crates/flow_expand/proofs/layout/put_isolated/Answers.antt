use Rattle.std.proofs.lemmas.Result.{IfOk-weaker}
use Rattle.std.proofs.Common.{◌∙◌}
use Rattle.flow_expand.proofs.LayLemmas.{isolated_root}
use Rattle.flow_expand.proofs.layout.put_isolated.Goals as goal

pub returns-clause-ok : goal.returns-clause-ok
returns-clause-ok c = IfOk-weaker c.put.result _ _ (λ whole h. isolated_root _ _ c.args.root whole h.0 h.1 (h.2 ∙ c.isolated.ensures)) c.put.ensures.ok
