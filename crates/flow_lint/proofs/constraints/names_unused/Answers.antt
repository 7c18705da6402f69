use Rattle.std.proofs.Common.{ℕ, List, ◌↔◌, subst, ap, ◌∙◌}
use Rattle.flow_model.specs.Lists.{◌∈◌}
use Rattle.flow_model.specs.Constraint.{all_of}
use Rattle.flow_model.specs.Folding.{named_events}
use Rattle.flow_workflow.specs.declared.rule.Rule.{Rule}
use Rattle.flow_workflow.specs.Rule.{rule_of, rules_of}
use Rattle.flow_lint.specs.Constraints.{has_unused}
use Rattle.flow_lint.proofs.Told.{told_unused}
use Rattle.flow_lint.proofs.constraints.names_unused.Goals as goal

pub returns : goal.returns
returns c =
    let events : List ℕ = c.in_ok-events.events.items in
    let named = subst (λ (rules : List Rule). (e : ℕ) → (e ∈ events) ↔ (e ∈ named_events (all_of (rules_of rules)))) c.from_ref.ensures.value c.in_ok-events.ensures.named in
    told_unused c.args.labels.now (rule_of c.args.rule.now) events c.has_unused.result named
    (c.has_unused.ensures ∙ ap (has_unused c.args.labels.now) c.deref.ensures.value)
