use Rattle.std.proofs.Common.{◌↔◌, IsTrue, IfOk, subst}
use Rattle.flow_model.specs.Constraint.{Constraint}
use Rattle.flow_workflow.specs.Definition.{schema_of}
use Rattle.flow_policy_lint.specs.Findings.{IsNotAlways}
use Rattle.flow_policy_lint.proofs.last.is_free.Goals as goal

pub returns : goal.returns
returns c = subst (λ (p : Constraint). IfOk c.is_not_always.result (λ so. IsTrue so ↔ IsNotAlways (schema_of c.args.workflow.now) p)) c.must.ensures c.is_not_always.ensures
