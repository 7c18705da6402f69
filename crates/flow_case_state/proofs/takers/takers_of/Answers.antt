use Rattle.std.proofs.Common.{◌∙◌}
use Rattle.std.proofs.lemmas.Result.{IfOk-weaker}
use Rattle.flow_staff.specs.Desk.{desk_of}
use Rattle.flow_case_state.proofs.TakerLoops.{event_of, takers_at, no_takers}
use Rattle.flow_case_state.proofs.takers.takers_of.Goals as goal

pub returns-in-Some : goal.returns-in-Some
returns-in-Some c =
    let its = event_of c.args.core.now c.args.leaf c.event.result c.tree.result.now c.workflow.result.now c.event.ensures c.tree.ensures.tree c.workflow.ensures ∙ c.in-Some.is in
    IfOk-weaker c.takers_of_event.result _ _ (λ found. takers_at (desk_of c.args.core.now c.args.policy.now) c.args.users c.args.leaf c.in-Some.event found.items its) c.takers_of_event.ensures

pub returns-in-None : goal.returns-in-None
returns-in-None c =
    let none = event_of c.args.core.now c.args.leaf c.event.result c.tree.result.now c.workflow.result.now c.event.ensures c.tree.ensures.tree c.workflow.ensures ∙ c.in-None.is in
    no_takers (desk_of c.args.core.now c.args.policy.now) c.args.users c.args.leaf c.new.result.items none c.new.ensures.items
