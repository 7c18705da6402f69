use Rattle.std.proofs.Common.{List, [], ◌∷◌, length, ap}
use Rattle.std.proofs.lemmas.Result.{on_ok_weaker}
use Rattle.flow_model.specs.declared.labels.Label.{Label}
use Rattle.flow_model.specs.Constraint.{Constraint}
use Rattle.flow_workflow.specs.Rule.{rules_of}
use Rattle.flow_lint.specs.declared.finding.Finding.{Finding}
use Rattle.flow_lint.specs.declared.kind.Kind.TheVariants.{Redundant, Unsettled, Idle}
use Rattle.flow_lint.specs.Constraints.{IsIdleOf}
use Rattle.flow_lint.proofs.FindingLists.{added_marked, added_more, added_one, both_of_two}
use Rattle.flow_lint.proofs.findings.add_of_rules.Goals as goal

pub returns : goal.returns
returns c = λ s.
    let w = c.args.workflow.now in
    let labels : List Label = c.args.labels.now in
    let rules : List Constraint = rules_of c.rules-rules.result.now in
    let old : List Finding = c.args.found.now.items in
    let one : List Finding = c.add.new.found.items in
    let two : List Finding = c.add-2.new.found.items in
    let new : List Finding = c.add-3.new.found.items in
    let told = c.in_ok-told.ensures in
    on_ok_weaker c.add-3.result
    (λ adds. added_more s w (Redundant ∷ Unsettled ∷ []) (Idle ∷ []) old two new
    (added_more s w (Redundant ∷ []) (Unsettled ∷ []) old one two
    (added_marked s w Redundant c.deref.result.now c.in_ok-told.told.follows.items old one c.deref.ensures.value told.follows c.in_ok-add.ensures)
    (added_marked s w Unsettled c.deref-2.result.now c.in_ok-told.told.unknown.items one two c.deref-2.ensures.value told.unknown c.in_ok-add-2.ensures))
    (added_one s w Idle (length rules) (IsIdleOf labels rules) two new (ap (λ (rs : List Constraint). length rs) c.rules-rules.ensures)
    (λ n _. both_of_two (λ ls rs. IsIdleOf ls rs n) labels w.tree.labels rules w.rules c.requires c.rules-rules.ensures) adds))
    c.add-3.ensures
