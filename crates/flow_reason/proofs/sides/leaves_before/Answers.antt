use Rattle.std.proofs.Common.{◌∙◌, ℕ, Bool, false, List, ◌++◌, get_or, ap, subst}
use Rattle.flow_model.specs.Lists.{◌∈◌}
use Rattle.flow_model.proofs.Lists.{each_from_members}
use Rattle.flow_goal.specs.Goal.{process_of}
use Rattle.flow_goal.specs.Labelled.{Labelled}
use Rattle.flow_workflow.specs.Definition.{Definition}
use Rattle.flow_reason.specs.Sides.{before}
use Rattle.flow_reason.specs.Waiting.{IsBefore}
use Rattle.flow_reason.proofs.SidesTold.{told_before}
use Rattle.flow_reason.proofs.sides.leaves_before.Goals as goal

pub returns : goal.returns
returns c =
    let flags : List Bool = c.in_ok-done.done.items in
    let leaf : ℕ = c.args.leaf in
    let whole = c.goal.ensures ∙ ap (λ (t : Labelled). t.process) c.tree.ensures.tree ∙ ap (λ (d : Definition). d.tree.process) c.workflow.ensures in
    let items = c.in_ok-push_before.ensures
    ∙ ap (λ (l : List ℕ). l ++ before (λ n. get_or c.deref.result.now n false) leaf (process_of c.goal.result.now)) c.new-left.ensures.items
    ∙ ap (λ (fs : List Bool). before (λ n. get_or fs n false) leaf (process_of c.goal.result.now)) c.deref.ensures.value
    ∙ ap (before (λ n. get_or flags n false) leaf) whole in
    each_from_members (IsBefore c.args.core.now leaf) c.push_before.new.left.items
    (λ m member. told_before c.args.core.now leaf flags c.in_ok-done.ensures c.leaves.result c.leaves.ensures.count c.leaves.ensures.numbered m
    (subst (λ (l : List ℕ). m ∈ l) items member))
