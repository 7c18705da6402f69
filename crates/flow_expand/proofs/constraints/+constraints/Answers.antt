use denote.Param.Weighed.{at_most}
use Rattle.std.proofs.Common.{arith, ◌≡◌, ℕ, List, subst, ◌+◌, ◌++◌, ◌∷◌, [], get_or, map, take, sym, ap, ◌∙◌}
use Rattle.std.proofs.lemmas.List.{map_push, map_more, take_all}
use Rattle.flow_model.specs.Lists.{◌∈◌, Each}
use Rattle.flow_model.specs.Constraint.{all_of}
use Rattle.flow_form.specs.RuleForm.{rule_shape_of, rule_shapes}
use Rattle.flow_form.specs.Names.{names_in_rule}
use Rattle.flow_form.proofs.Shapes.{shape_of-Order}
use Rattle.flow_form.proofs.rule_form.RuleForm.TheLaws.{the_size}
use Rattle.flow_workflow.specs.Rule.{any_of, rule_of}
use Rattle.flow_workflow.proofs.RuleViews.{rule_of-And, rule_of-Or}
use Rattle.flow_expand.specs.Constraints.{constraint_of, constraints_of}
use Rattle.flow_expand.proofs.ConstraintsLemmas.{constraints_of-shapes, shape_of-And, shape_of-Or}
use Rattle.flow_expand.proofs.constraints.+constraints.Goals as goal

pub rule_of-returns-in_ok-rules_of-in-And : goal.rule_of-returns-in_ok-rules_of-in-And
rule_of-returns-in_ok-rules_of-in-And t c =
    rule_of-And c.in_ok-rules_of-in-And.field-0
    ∙ ap all_of (c.in_ok-rules_of-in-And.ensures ∙ ap (λ l. constraints_of c.args.workflow.now.events (rule_shapes (map rule_shape_of l))) c.deref-in-And.ensures.value)
    ∙ ap (constraint_of c.args.workflow.now.events) (sym (ap rule_shape_of c.in-And.is ∙ shape_of-And c.in-And.parts))

pub rule_of-returns-in_ok-rules_of-in-Or : goal.rule_of-returns-in_ok-rules_of-in-Or
rule_of-returns-in_ok-rules_of-in-Or t c =
    rule_of-Or c.in_ok-rules_of-in-Or.field-0
    ∙ ap any_of (c.in_ok-rules_of-in-Or.ensures ∙ ap (λ l. constraints_of c.args.workflow.now.events (rule_shapes (map rule_shape_of l))) c.deref-in-Or.ensures.value)
    ∙ ap (constraint_of c.args.workflow.now.events) (sym (ap rule_shape_of c.in-Or.is ∙ shape_of-Or c.in-Or.parts))

pub rules_of-loop-place-preserved : goal.rules_of-loop-place-preserved
rules_of-loop-place-preserved t c =
    let events = c.args.workflow.now.events in
    let forms = c.args.forms.now in
    let i = c.loop-place.place in
    let item = c.index-forms-place.result in
    let made = c.loop-place.made.items in
    let rule = c.in_ok-rule_of.field-0 in
    let before : map rule_of made ≡ map (constraint_of events) (map rule_shape_of (take i forms)) = c.loop-place.invariant ∙ constraints_of-shapes events (map rule_shape_of (take i forms)) in
    let same : rule_of rule ≡ constraint_of events (rule_shape_of (get_or forms i item)) = c.in_ok-rule_of.ensures ∙ ap (λ f. constraint_of events (rule_shape_of f)) c.index-forms-place.is in
    ap (map rule_of) c.in_ok-push.ensures.items ∙ map_push rule_of made rule ∙ (λ t. before t ++ same t ∷ [])
    ∙ sym (ap (map (constraint_of events)) (map_more rule_shape_of forms i item c.loop-place-test.true) ∙ map_push (constraint_of events) (map rule_shape_of (take i forms)) (rule_shape_of (get_or forms i item)))
    ∙ sym (constraints_of-shapes events (map rule_shape_of (take (i + 1) forms)))

pub rules_of-returns : goal.rules_of-returns
rules_of-returns t c =
    c.loop-place.invariant ∙ ap (λ forms. constraints_of c.args.workflow.now.events (rule_shapes (map rule_shape_of forms))) (take_all c.loop-place.place c.args.forms.now c.loop-place-test.false)

pub rule_of-numbers_of-requires : goal.rule_of-numbers_of-requires
rule_of-numbers_of-requires t c =
    let known = λ (n : List ℕ). n ∈ c.args.workflow.now.events in
    subst (Each known) (sym c.deref.ensures.value) (subst (λ shape. Each known (names_in_rule shape)) (shape_of-Order c.args.form.now c.in-Order.names c.in-Order.is) c.requires)

pub rules_of-rule_of-requires : goal.rules_of-rule_of-requires
rules_of-rule_of-requires t c = (
  omega (arith, c.decreases, at_most the_size c.args.forms.now c.loop-place.place c.index-forms-place.result c.loop-place-test.true, ap the_size c.index-forms-place.is),
  c.member_known.ensures,
)
