use Rattle.std.proofs.Common.{IsTrue, ◌↔◌, subst, sym}
use Rattle.flow_model.specs.Lists.{◌∈◌}
use Rattle.flow_workflow.specs.Rule.{rules_of}
use Rattle.flow_workflow.proofs.NamedLemmas.{named_in_all}
use Rattle.flow_workflow.proofs.names.names_event.Goals as goal

pub returns : goal.returns
returns c = subst (λ events. IsTrue c.some_names.result ↔ c.args.event ∈ events) (sym (named_in_all (rules_of c.args.rules.now))) c.some_names.ensures
