use Rattle.std.proofs.Common.{ap, sym, ◌∙◌, inl, inr}
use Rattle.flow_goal.specs.declared.goal.Goal.{Goal}
use Rattle.flow_goal.specs.Goal.{process_of}
use Rattle.flow_goal.specs.Measure.{isolated_of, measure_of}
use Rattle.flow_goal.proofs.FoldsLemmas.{both_measured, choice_measured}
use Rattle.flow_workflow.specs.Rule.{rules_of}
use Rattle.flow_excise.specs.Options.{is_named_in}
use Rattle.flow_excise.proofs.unseen.+measured.Goals as goal

pub returns-in-Nop : goal.returns-in-Nop
returns-in-Nop t c =
    let test = is_named_in c.args.tree.now (rules_of c.args.rules.now) in
    c.of_nop.ensures test ∙ ap (λ (g : Goal). measure_of test (process_of g)) (sym c.in-Nop.is)

pub returns-in-Leaf : goal.returns-in-Leaf
returns-in-Leaf t c =
    let test = is_named_in c.args.tree.now (rules_of c.args.rules.now) in
    c.of_leaf.ensures test c.in-Leaf.leaf c.is_named.ensures ∙ ap (λ (g : Goal). measure_of test (process_of g)) (sym c.in-Leaf.is)

pub returns-in-Serial : goal.returns-in-Serial
returns-in-Serial t c =
    let test = is_named_in c.args.tree.now (rules_of c.args.rules.now) in
    let found = λ (g : Goal). measure_of test (process_of g) in
    let both = c.both.ensures
    ∙ both_measured test (process_of c.in-Serial.left.value) (process_of c.in-Serial.right.value) _ _
    (c.measured-in-Serial.ensures ∙ ap found c.deref-in-Serial.ensures) (c.measured-in-Serial-2.ensures ∙ ap found c.deref-in-Serial-2.ensures) in
    elim c.in-Serial.is [ inl e ↦ both ∙ ap found (sym e) | inr e ↦ both ∙ ap found (sym e) ]

pub returns-in-Either : goal.returns-in-Either
returns-in-Either t c =
    let test = is_named_in c.args.tree.now (rules_of c.args.rules.now) in
    let found = λ (g : Goal). measure_of test (process_of g) in
    c.choice.ensures
    ∙ choice_measured test (process_of c.in-Either.left.value) (process_of c.in-Either.right.value) _ _
    (c.measured.ensures ∙ ap found c.deref.ensures) (c.measured-in-Either.ensures ∙ ap found c.deref-in-Either.ensures)
    ∙ ap found (sym c.in-Either.is)

pub returns-in-Iso : goal.returns-in-Iso
returns-in-Iso t c =
    let test = is_named_in c.args.tree.now (rules_of c.args.rules.now) in
    let found = λ (g : Goal). measure_of test (process_of g) in
    c.isolated.ensures ∙ ap isolated_of (c.measured-in-Iso.ensures ∙ ap found c.deref-in-Iso.ensures) ∙ ap found (sym c.in-Iso.is)
