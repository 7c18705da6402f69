use Rattle.std.proofs.Common.{◌≡◌, subst}
use Rattle.flow_workflow.specs.Definition.{Definition}
use Rattle.flow_workflow.specs.Numbers.{event_number}
use Rattle.flow_model.specs.Lists.{◌∈◌}
use Rattle.flow_model.proofs.Lists.{mem-slice_get}
use Rattle.flow_names.proofs.means.event_called.Goals as goal

pub returns-in-Some-clause-found : goal.returns-in-Some-clause-found
returns-in-Some-clause-found c =
    let name = c.args.name.now in
    subst (λ (d : Definition). (name ∈ d.events) × (c.in-Some.event ≡ event_number d.events name)) c.workflow.ensures
    (mem-slice_get c.workflow.result.now.events c.in-Some.event name c.in-Some.ensures.place, c.in-Some.ensures.number)
