use Rattle.std.proofs.Common.{[], ◌∷◌, ◌++◌, ◌∙◌, ap}
use Rattle.flow_plan.proofs.sweep.Sweep.new.Goals as goal

pub returns-clause-joined : goal.returns-clause-joined
returns-clause-joined g c = (c.new.result, c.new.ensures, c.in_ok-push.ensures.items ∙ ap (λ l. l ++ c.new.result ∷ []) c.new-joined.ensures.items)
