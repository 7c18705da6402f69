use Rattle.std.proofs.Common.{◌≡◌, ℕ, Bool, List, [], ◌∷◌, length, map, ap, ap₂, subst, sym, ◌∙◌, IsTrue}
use Rattle.std.proofs.lemmas.Result.{on_ok_weaker}
use Rattle.flow_model.specs.declared.labels.Label.{Label}
use Rattle.flow_model.specs.Folding.{folded_options}
use Rattle.flow_form.specs.Script.{declared, said}
use Rattle.flow_form.specs.Form.{Shape}
use Rattle.flow_form.specs.declared.script.Decl.{Decl}
use Rattle.flow_goal.specs.Labelled.{Labelled}
use Rattle.flow_workflow.specs.Definition.{schema_of}
use Rattle.flow_plan.specs.Options.{HasExecution, AreJustThose, options_of}
use Rattle.flow_plan.specs.Sampled.{Sampled}
use Rattle.flow_lint.specs.declared.finding.Finding.{Finding}
use Rattle.flow_lint.specs.declared.kind.Kind.TheVariants.{UnusedEvent, UnusedFlow, DeadLeaf}
use Rattle.flow_lint.specs.Events.{IsUnused}
use Rattle.flow_lint.specs.Goals.{is_unused, unused_flows}
use Rattle.flow_lint.specs.Leaves.{is_in_plans}
use Rattle.flow_lint.proofs.FindingLists.{added_marked, added_more, added_one, both_ways, own_marks}
use Rattle.flow_lint.proofs.LiveLeaves.{dead, not_dead}
use Rattle.flow_lint.proofs.findings.add_of_names.Goals as goal

pub returns : goal.returns
returns c =
    let s = said c.args.script.now in
    let w = c.args.workflow.now in
    let labels : List Label = c.args.labels.now in
    let plans : List Sampled = c.plans-plans.result.now in
    let old : List Finding = c.args.found.now.items in
    let one : List Finding = c.add.new.found.items in
    let two : List Finding = c.add-2.new.found.items in
    let new : List Finding = c.add-3.new.found.items in
    let marks : List Bool = c.deref-2.result.now in
    let are = subst (λ (ps : List Sampled). AreJustThose HasExecution (folded_options (schema_of w)) (options_of ps)) (sym c.plans-plans.ensures.plans) c.requires.compiled.plans in
    let kept : marks ≡ unused_flows s = c.deref-2.ensures.value ∙ c.in_ok-flows.ensures
    ∙ ap₂ (λ (goals : List Shape) (decls : List Decl). map (is_unused goals) (map declared decls)) c.requires.goals c.deref.ensures.value in
    on_ok_weaker c.add-3.result
    (λ adds. added_more s w (UnusedEvent ∷ UnusedFlow ∷ []) (DeadLeaf ∷ []) old two new
    (added_more s w (UnusedEvent ∷ []) (UnusedFlow ∷ []) old one two
    (added_one s w UnusedEvent (length c.events.result.now) (IsUnused labels) old one (ap (λ (names : List (List ℕ)). length names) c.events.ensures.names)
    (λ n _. both_ways (λ (ls : List Label). IsUnused ls n) labels w.tree.labels c.requires.labels) c.in_ok-add.ensures)
    (added_marked s w UnusedFlow marks (unused_flows s) one two kept (own_marks (unused_flows s)) c.in_ok-add-2.ensures))
    (added_one s w DeadLeaf c.leaves-leaves.result (λ n. ¬ (IsTrue (is_in_plans plans n))) two new
    (c.leaves-leaves.ensures.count ∙ ap (λ (t : Labelled). length t.labels) c.tree.ensures.tree)
    (λ n _. (dead (schema_of w) c.tree.ensures.well_formed plans are n, not_dead (schema_of w) c.tree.ensures.well_formed plans are n)) adds))
    c.add-3.ensures
