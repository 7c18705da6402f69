use Rattle.std.proofs.lemmas.Result.{IfOk-weaker}
use Rattle.flow_expand.proofs.LayLemmas.{end_root}
use Rattle.flow_expand.proofs.layout.put_end.Goals as goal

pub returns-clause-ok : goal.returns-clause-ok
returns-clause-ok c = IfOk-weaker c.put.result _ _ (λ root h. end_root _ _ c.args.piece root h.0 h.1 h.2) c.put.ensures.ok
