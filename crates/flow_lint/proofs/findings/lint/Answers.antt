use Rattle.std.proofs.Common.{List, [], ◌∷◌, ◌++◌, ◌∙◌, Bor, ap, subst}
use Rattle.flow_form.specs.Script.{said}
use Rattle.flow_form.specs.declared.form.Form.{Form}
use Rattle.flow_lint.specs.declared.finding.Finding.{Finding}
use Rattle.flow_lint.specs.declared.kind.Kind.{Kind}
use Rattle.flow_lint.specs.declared.kind.Kind.TheVariants.{NeverAdded, NeverTested, UnusedEvent, UnusedFlow, DeadLeaf, Redundant, Unsettled, Idle, IdleNop, LoneIso}
use Rattle.flow_lint.specs.Finding.{IsAdded}
use Rattle.flow_lint.specs.Goals.{shapes_of}
use Rattle.flow_lint.proofs.FindingLists.{added_more, found_exactly, whole}
use Rattle.flow_lint.proofs.findings.lint.Goals as goal

pub returns-clause-findings : goal.returns-clause-findings
returns-clause-findings c =
    let s = said c.args.script.now in
    let w = c.args.workflow.now in
    let start : List Finding = c.new-found.result.items in
    let one : List Finding = c.add_of_facts.new.found.items in
    let two : List Finding = c.add_of_names.new.found.items in
    let three : List Finding = c.add_of_rules.new.found.items in
    let new : List Finding = c.add_of_goals.new.found.items in
    let facts : List Kind = NeverAdded ∷ NeverTested ∷ [] in
    let names : List Kind = UnusedEvent ∷ UnusedFlow ∷ DeadLeaf ∷ [] in
    let rules : List Kind = Redundant ∷ Unsettled ∷ Idle ∷ [] in
    let goals : List Kind = IdleNop ∷ LoneIso ∷ [] in
    whole s w new
    (subst (λ (l : List Finding). IsAdded s w (facts ++ (names ++ (rules ++ goals))) l new) c.new-found.ensures.items
    (added_more s w facts (names ++ (rules ++ goals)) start one new (c.in_ok-add_of_facts.ensures s)
    (added_more s w names (rules ++ goals) one two new c.in_ok-add_of_names.ensures
    (added_more s w rules goals two three new (c.in_ok-add_of_rules.ensures s) (c.in_ok-add_of_goals.ensures s (ap (λ (goals : List (Bor Form)). shapes_of goals) c.deref-5.ensures.value ∙ c.in_ok-goals.ensures))))))

pub returns-clause-exact : goal.returns-clause-exact
returns-clause-exact c =
    let s = said c.args.script.now in
    let w = c.args.workflow.now in
    found_exactly s w c.add_of_goals.new.found.items (returns-clause-findings c)
