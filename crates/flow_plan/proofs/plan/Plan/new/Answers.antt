use Rattle.std.proofs.Common.{List, subst, sym}
use Rattle.flow_fold_laws.specs.Unfolding.{IsFoldedOrdered}
use Rattle.flow_goal.specs.Resolved.{Resolved, IsResolved}
use Rattle.flow_plan.specs.declared.token.OrderToken.{OrderToken}
use Rattle.flow_plan.specs.Planned.{pairs_of}
use Rattle.flow_plan.proofs.Readiness.{new_is_ordered}
use Rattle.flow_plan.proofs.plan.Plan.new.Goals as goal

pub new-requires-clause-ordered : goal.new-requires-clause-ordered
new-requires-clause-ordered c =
    subst (λ (tokens : List OrderToken). IsFoldedOrdered c.in_ok-goal.goal.process (pairs_of tokens)) (sym c.deref.ensures.value)
    (subst (λ (g : Resolved). IsFoldedOrdered g.process (pairs_of c.args.tokens.items)) (sym c.in_ok-goal.ensures.same)
    (new_is_ordered c.args.goal.now c.args.tokens.items (subst IsResolved c.in_ok-goal.ensures.same c.in_ok-goal.ensures.resolved) c.requires.of_fixed c.requires.different))
