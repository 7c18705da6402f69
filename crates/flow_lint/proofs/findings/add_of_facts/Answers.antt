use Rattle.std.proofs.Common.{ℕ, List, [], ◌∷◌, length, ap, ◌∙◌}
use Rattle.std.proofs.lemmas.Result.{on_ok_weaker}
use Rattle.flow_facts.specs.Atom.{Atom}
use Rattle.flow_model.specs.declared.labels.Label.{Label}
use Rattle.flow_lint.specs.declared.finding.Finding.{Finding}
use Rattle.flow_lint.specs.declared.kind.Kind.TheVariants.{NeverAdded, NeverTested}
use Rattle.flow_lint.specs.Facts.{IsNeverAdded, IsNeverTested}
use Rattle.flow_lint.proofs.FindingLists.{added_more, added_one, both_of_two}
use Rattle.flow_lint.proofs.findings.add_of_facts.Goals as goal

pub returns : goal.returns
returns c = λ s.
    let w = c.args.workflow.now in
    let labels : List Label = c.args.labels.now in
    let held : List ℕ = c.held-held.result.now in
    let old : List Finding = c.args.found.now.items in
    let mid : List Finding = c.add.new.found.items in
    let new : List Finding = c.add-2.new.found.items in
    let counted = c.count-facts.ensures.count ∙ ap (λ (facts : List Atom). length facts) c.facts.ensures in
    on_ok_weaker c.add-2.result
    (λ adds. added_more s w (NeverAdded ∷ []) (NeverTested ∷ []) old mid new
    (added_one s w NeverAdded c.count-facts.result (IsNeverAdded labels held) old mid counted
    (λ n _. both_of_two (λ ls hs. IsNeverAdded ls hs n) labels w.tree.labels held w.held c.requires c.held-held.ensures.held) c.in_ok-add.ensures)
    (added_one s w NeverTested c.count-facts.result (IsNeverTested labels held) mid new counted
    (λ n _. both_of_two (λ ls hs. IsNeverTested ls hs n) labels w.tree.labels held w.held c.requires c.held-held.ensures.held) adds))
    c.add-2.ensures
