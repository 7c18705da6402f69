use Rattle.std.proofs.Common.{List, nat_eq, IsTrue, ◌↔◌, map, ap, ◌∙◌, subst, sym, inl, inr, refl}
use Rattle.std.proofs.lemmas.Bool.{eqb-true, eq-eqb}
use Rattle.flow_model.specs.Folding.{named_events}
use Rattle.flow_model.specs.Lists.{◌∈◌, joined}
use Rattle.flow_model.proofs.MadeLists.{passing_member, some_passes}
use Rattle.flow_workflow.specs.declared.rule.Rule.{Rule}
use Rattle.flow_workflow.specs.Rule.{rules_of}
use Rattle.flow_workflow.proofs.NamedLemmas.{named_in_and, named_in_or, named_in_order, not_yet, named_by_one}
use Rattle.flow_workflow.proofs.names.+naming.Goals as goal

pub rule_names-returns-in-Order : goal.rule_names-returns-in-Order
rule_names-returns-in-Order t c =
    let event = c.args.event in
    let same = c.deref.ensures.value ∙ named_in_order c.args.rule.now c.in-Order.events c.in-Order.is in (
      λ yes. let (other, m, is) = passing_member (λ y. nat_eq y event) c.deref.result.now (sym c.contains.ensures.value ∙ yes) in
          subst (λ list. event ∈ list) same (subst (λ n. n ∈ c.deref.result.now) (eqb-true other event is) m),
      λ m. c.contains.ensures.value ∙ some_passes (λ y. nat_eq y event) event c.deref.result.now (subst (λ list. event ∈ list) (sym same) m) (eq-eqb event event refl),
    )

pub rule_names-returns-in-And : goal.rule_names-returns-in-And
rule_names-returns-in-And t c =
    let parts = ap (λ (rules : List Rule). joined (map named_events (rules_of rules))) c.deref-in-And.ensures.value in
    elim c.in-And.is [
      | inl e ↦ subst (λ events. IsTrue c.some_names.result ↔ c.args.event ∈ events) (parts ∙ named_in_and c.args.rule.now c.in-And.parts e) c.some_names.ensures
      | inr e ↦ subst (λ events. IsTrue c.some_names.result ↔ c.args.event ∈ events) (parts ∙ named_in_or c.args.rule.now c.in-And.parts e) c.some_names.ensures
    ]

pub some_names-returns-then-rule_names : goal.some_names-returns-then-rule_names
some_names-returns-then-rule_names t c =
    (λ _. named_by_one c.args.rules.now c.loop-rule.rule-index c.rule-item.result c.args.event c.loop-rule-test.true c.rule-item.is (c.rule_names.ensures.0 c.if-rule_names.true), λ _. refl)

pub some_names-loop-rule-preserved : goal.some_names-loop-rule-preserved
some_names-loop-rule-preserved t c =
    not_yet c.args.rules.now c.loop-rule.rule-index c.rule-item.result c.args.event c.loop-rule-test.true c.rule-item.is c.loop-rule.invariant
    (λ m. let yes = c.rule_names.ensures.1 m in cc)
