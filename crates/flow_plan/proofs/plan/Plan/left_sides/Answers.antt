use Rattle.std.proofs.Common.{List, refl, subst, sym, ◌∙◌}
use Rattle.flow_model.specs.declared.limits.TheConstants.{MOST_LEAVES}
use Rattle.flow_plan.specs.declared.token.OrderToken.{OrderToken}
use Rattle.flow_plan.specs.Planned.{pairs_of}
use Rattle.flow_plan.proofs.FoldedGoals.{ArePairsOf, left_small, left_fixed}
use Rattle.flow_plan.proofs.Readiness.{kept_listed, kept_ordered}
use Rattle.flow_plan.proofs.plan.Plan.left_sides.Goals as goal

pub new-requires-clause-small : goal.new-requires-clause-small
new-requires-clause-small c =
    left_small c.in_ok-goal.goal c.self.inside.goal.process c.in_ok-goal.ensures.resolved c.in_ok-goal.ensures.process MOST_LEAVES c.self.inside.goal.leaves
    (kept_listed c.self.inside.rows c.self.invariant.kept refl) c.self.invariant.small

pub new-requires-clause-of_fixed : goal.new-requires-clause-of_fixed
new-requires-clause-of_fixed c =
    subst (λ (tokens : List OrderToken). ArePairsOf c.in_ok-goal.goal.fixed (pairs_of tokens)) (sym (c.in_ok-tokens.ensures.items ∙ c.deref.ensures.value))
    (left_fixed c.in_ok-goal.goal c.self.inside.goal.process c.in_ok-goal.ensures.resolved c.in_ok-goal.ensures.process _
    (kept_ordered c.self.inside.rows c.self.invariant.kept refl).of_fixed)
