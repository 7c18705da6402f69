use Rattle.std.proofs.Common.{◌≡◌, ◌<◌, length, subst, arith}
use Rattle.flow_model.specs.Lists.{Each}
use Rattle.flow_workflow.specs.Definition.{Definition}
use Rattle.flow_workflow.specs.Numbers.{IsKnown}
use Rattle.flow_core.proofs.ListLemmas.{fact_within}
use Rattle.flow_core.proofs.run.Core.held.Goals as goal

pub list-requires : goal.list-requires
list-requires c = λ n has.
    let w = c.args.self.now.definition in
    let held : Each (λ f. f < length w.facts) w.held = subst (λ (w : Definition). Each (λ f. f < length w.facts) w.held) c.workflow-workflow.ensures c.held.ensures.known in
    let known : Each (IsKnown (length w.events) (length w.facts)) w.tree.labels =
    subst (λ (w : Definition). Each (IsKnown (length w.events) (length w.facts)) w.tree.labels) c.workflow-workflow.ensures c.tree.ensures.known in
    let count : c.count.result ≡ length w.facts = cc in
    let below : n < length w.facts = fact_within c.args.self.now held known n has in
    omega arith
