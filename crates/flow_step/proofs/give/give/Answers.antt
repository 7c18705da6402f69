use Rattle.std.proofs.lemmas.Result.{IfOk-weaker}
use Rattle.flow_step.proofs.give.give.Goals as goal

pub returns-in-Look : goal.returns-in-Look
returns-in-Look g c = rw c.in-Look.is (IfOk-weaker c.look_at.result _ _ (λ stepped gave. gave c.args.by) c.look_at.ensures)
