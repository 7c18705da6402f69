use Rattle.std.proofs.lemmas.Result.{IfOk-weaker}
use Rattle.std.proofs.Common.{◌∙◌}
use Rattle.flow_expand.proofs.LayLemmas.{joined_root}
use Rattle.flow_expand.proofs.layout.put_both.Goals as goal

pub returns-clause-ok : goal.returns-clause-ok
returns-clause-ok c = IfOk-weaker c.put.result _ _ (λ whole h. joined_root _ _ c.args.how c.args.left c.args.right whole h.0 h.1 (h.2 ∙ c.with.ensures)) c.put.ensures.ok
