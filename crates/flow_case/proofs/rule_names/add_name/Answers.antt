use Rattle.std.proofs.Common.{sym, ◌∙◌, subst}
use Rattle.flow_workflow.specs.Numbered.{IsAdded}
use Rattle.flow_case.specs.Givens.{said}
use Rattle.flow_case.proofs.NameSteps.{name_added}
use Rattle.flow_case.proofs.rule_names.add_name.Goals as goal

pub returns-in_ok-add : goal.returns-in_ok-add
returns-in_ok-add c = λ so_far was.
    name_added c.args.kind so_far (said c.args.given) c.args.names.now c.add-then-is.new.self (sym c.is.ensures ∙ c.if-is.true) was
    (subst (λ n. IsAdded c.args.names.now n c.add-then-is.new.self) c.in_ok-new.ensures c.in_ok-add.ensures.keys)
