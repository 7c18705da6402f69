use Rattle.std.proofs.Common.{[], ◌∷◌, sym, ◌∙◌, append-nil}
use Rattle.flow_expand.proofs.layout.put.Goals as goal

pub returns-in_err-push-clause-grown : goal.returns-in_err-push-clause-grown
returns-in_err-push-clause-grown c = ([], c.in_err-push.ensures.items ∙ sym (append-nil _))

pub returns-clause-grown : goal.returns-clause-grown
returns-clause-grown c = (c.args.piece ∷ [], c.in_ok-push.ensures.items)
