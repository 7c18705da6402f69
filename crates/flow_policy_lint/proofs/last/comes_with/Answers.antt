use Rattle.std.proofs.Common.{◌↔◌, IsTrue, IfOk, subst}
use Rattle.flow_model.specs.Constraint.{Constraint}
use Rattle.flow_workflow.specs.Definition.{schema_of}
use Rattle.flow_policy_lint.specs.Findings.{IsAlways}
use Rattle.flow_policy_lint.proofs.last.comes_with.Goals as goal

pub returns : goal.returns
returns c = subst (λ (p : Constraint). IfOk c.is_always.result (λ so. IsTrue so ↔ IsAlways (schema_of c.args.workflow.now) p)) c.in_ok-if_then.ensures c.is_always.ensures
