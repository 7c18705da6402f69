use Rattle.std.proofs.Common.{ℕ, List, Some, map, ap, sym, ◌∙◌}
use Rattle.std.proofs.lemmas.List.{take_all}
use Rattle.std.proofs.lemmas.Option.{slice_get-get_or}
use Rattle.flow_model.specs.Lists.{◌∈◌}
use Rattle.flow_model.proofs.Lists.{each_member, mem-slice_get}
use Rattle.flow_workflow.specs.Numbers.{event_number}
use Rattle.flow_expand.proofs.Members.{one_more}
use Rattle.flow_expand.proofs.constraints.numbers_of.Goals as goal

pub loop-name-preserved : goal.loop-name-preserved
loop-name-preserved c =
    one_more (event_number c.args.workflow.now.events) c.loop-name.found.items c.push.new.self.items c.number_of.result c.args.names.now c.loop-name.name-index c.name-item.result
    c.loop-name-test.true c.loop-name.invariant (c.number_of.ensures ∙ ap (event_number c.args.workflow.now.events) c.name-item.is) c.in_ok-push.ensures.items

pub number_of-requires : goal.number_of-requires
number_of-requires c =
    let names = c.args.names.now in
    let i = c.loop-name.name-index in
    each_member (λ (n : List ℕ). n ∈ c.args.workflow.now.events) names c.requires c.name-item.result
    (mem-slice_get names i c.name-item.result (slice_get-get_or names i c.name-item.result c.loop-name-test.true ∙ ap Some (sym c.name-item.is)))

pub returns : goal.returns
returns c = c.loop-name.invariant ∙ ap (map (event_number c.args.workflow.now.events)) (take_all c.loop-name.name-index c.args.names.now c.loop-name-test.false)
