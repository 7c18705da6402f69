use Rattle.std.proofs.Common.{◌∙◌, ℕ, Bool, false, List, get_or, ap}
use Rattle.flow_goal.specs.Goal.{process_of}
use Rattle.flow_goal.specs.Labelled.{Labelled}
use Rattle.flow_workflow.specs.Definition.{Definition}
use Rattle.flow_reason.specs.Sides.{other_side}
use Rattle.flow_reason.proofs.SidesTold.{some_other}
use Rattle.flow_reason.proofs.sides.chosen_against.Goals as goal

pub returns : goal.returns
returns c =
    let flags : List Bool = c.in_ok-done.done.items in
    let leaf : ℕ = c.args.leaf in
    let whole = c.goal.ensures ∙ ap (λ (t : Labelled). t.process) c.tree.ensures.tree ∙ ap (λ (d : Definition). d.tree.process) c.workflow.ensures in
    some_other c.args.core.now leaf flags c.in_ok-done.ensures c.leaves.result c.leaves.ensures.count c.leaves.ensures.numbered c.other_side.result
    (c.other_side.ensures ∙ ap (λ (fs : List Bool). other_side (λ n. get_or fs n false) leaf (process_of c.goal.result.now)) c.deref.ensures.value
    ∙ ap (other_side (λ n. get_or flags n false) leaf) whole)
