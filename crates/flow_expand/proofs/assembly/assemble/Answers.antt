use Rattle.std.proofs.Common.{◌≡◌, ◌∙◌, ap, map}
use Rattle.flow_workflow.specs.Definition.{Definition}
use Rattle.flow_workflow.specs.Rule.{rules_of}
use Rattle.flow_form.specs.Script.{said}
use Rattle.flow_form.specs.RuleForm.{rule_shape_of}
use Rattle.flow_expand.specs.Constraints.{constraint_of}
use Rattle.flow_expand.proofs.LeavesLemmas.{parts_kept, rules_known, expanded}
use Rattle.flow_expand.proofs.ConstraintsLemmas.{constraints_of-shapes}
use Rattle.flow_expand.proofs.assembly.assemble.Goals as goal

pub new-workflow-requires : goal.new-workflow-requires
new-workflow-requires c =
    parts_kept (said c.args.script.now) c.args.goal c.requires.closed c.requires.numbered c.requires.unique c.args.events.names c.requires.names c.args.events.notes.items c.requires.notes

pub rules_of-requires : goal.rules_of-requires
rules_of-requires c =
    rules_known (said c.args.script.now) c.new-workflow.result.events (map rule_shape_of c.deref.result.now) c.requires.closed
    (ap (λ (w : Definition). w.events) c.new-workflow.ensures ∙ c.requires.names) (ap (map rule_shape_of) c.deref.ensures.value)

pub returns-in-Ok : goal.returns-in-Ok
returns-in-Ok c =
    let rules : map rule_shape_of c.deref.result.now ≡ (said c.args.script.now).rules = ap (map rule_shape_of) c.deref.ensures.value in
    let events : c.new-workflow.result.events ≡ c.args.events.names = ap (λ (w : Definition). w.events) c.new-workflow.ensures in
    expanded (said c.args.script.now) c.args.goal c.requires.closed c.requires.numbered c.requires.unique c.args.events.names c.requires.names c.args.events.notes.items (rules_of c.in-Ok.rules.items) c.with_rules.result c.requires.notes
    (c.in-Ok.ensures ∙ constraints_of-shapes c.new-workflow.result.events (map rule_shape_of c.deref.result.now) ∙ (λ i. map (constraint_of (events i)) (rules i)))
    (c.with_rules.ensures ∙ ap (λ (w : Definition). record w { rules = rules_of c.in-Ok.rules.items }) c.new-workflow.ensures)
