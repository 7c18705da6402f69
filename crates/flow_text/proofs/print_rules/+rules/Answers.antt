use Rattle.std.proofs.Common.{◌++◌, arith, codes, map, refl, sym, ap, ◌∙◌}
use Rattle.flow_form.specs.RuleForm.{rule_shape_of, rule_shapes}
use Rattle.flow_form.proofs.rule_form.RuleForm.TheLaws.{the_size}
use Rattle.flow_grammar.specs.Print.{in_all}
use Rattle.flow_text.specs.Joins.{word_of, parted_rule}
use Rattle.flow_text.specs.Printed.{bracketed, names_text, rule_text, rules_text, more_rules}
use Rattle.flow_text.proofs.Pushed.{listed, listed_more, largest_behind, put_behind, put_around}
use Rattle.flow_form.proofs.Shapes.{shape_of-Order, shape_of-Not}
use Rattle.flow_text.proofs.print_rules.+rules.Goals as goal

pub push_list-loop-member-preserved : goal.push_list-loop-member-preserved
push_list-loop-member-preserved t c =
    listed_more (λ f. bracketed (parted_rule c.args.connective (rule_shape_of f)) (rule_text (rule_shape_of f)))
    (λ fs. more_rules (word_of c.args.connective) (parted_rule c.args.connective) (rule_shapes (map rule_shape_of fs))) (word_of c.args.connective) _ c.loop-member.member-index c.member-item.result
    c.loop-member.text.items c.extend_from_slice.new.self.items c.push_member-in-loop-member.new.text.items c.word.result.now _
    c.loop-member-test.true c.member-item.is (λ f fs. refl) c.word.ensures c.in_ok-extend_from_slice.ensures.items c.in_ok-push_member-2.ensures c.loop-member.invariant

pub push_list-returns : goal.push_list-returns
push_list-returns t c =
    listed (λ f. bracketed (parted_rule c.args.connective (rule_shape_of f)) (rule_text (rule_shape_of f)))
    (λ fs. rules_text (word_of c.args.connective) (parted_rule c.args.connective) (rule_shapes (map rule_shape_of fs)))
    (λ fs. more_rules (word_of c.args.connective) (parted_rule c.args.connective) (rule_shapes (map rule_shape_of fs))) _ c.loop-member.member-index c.first-item.result
    _ _ _ c.in-len1-up.len_at_least c.first-item.is (λ f fs. refl) refl c.in_ok-push_member.ensures c.loop-member-test.false c.loop-member.invariant

pub push_list-push_member-requires-in-loop-member : goal.push_list-push_member-requires-in-loop-member
push_list-push_member-requires-in-loop-member t c =
    (omega (arith, c.decreases, largest_behind the_size c.args.members.now c.loop-member.member-index c.member-item.result c.loop-member-test.true c.member-item.is), tt)

pub push_rule-returns-in_ok-extend_from_slice-in-Order : goal.push_rule-returns-in_ok-extend_from_slice-in-Order
push_rule-returns-in_ok-extend_from_slice-in-Order t c =
    put_behind c.push_names.result _ _ _ (codes "order") (names_text c.deref.result.now) _
    (ap rule_text (shape_of-Order _ _ c.in-Order.is) ∙ ap (λ ns. codes "order" ++ names_text ns) (sym c.deref.ensures.value))
    c.in_ok-extend_from_slice-in-Order.ensures.items c.push_names.ensures

pub push_rule-returns-in_ok-extend_from_slice-in-Not : goal.push_rule-returns-in_ok-extend_from_slice-in-Not
push_rule-returns-in_ok-extend_from_slice-in-Not t c =
    put_behind c.push_member.result _ _ _ (codes "not ") (bracketed (in_all (rule_shape_of c.deref-in-Not.result.now)) (rule_text (rule_shape_of c.deref-in-Not.result.now))) _
    (ap rule_text (shape_of-Not _ _ c.in-Not.is) ∙ ap (λ f. codes "not " ++ bracketed (in_all (rule_shape_of f)) (rule_text (rule_shape_of f))) (sym c.deref-in-Not.ensures))
    c.in_ok-extend_from_slice-in-Not.ensures.items c.push_member.ensures

pub push_member-returns-in_ok-push_rule : goal.push_member-returns-in_ok-push_rule
push_member-returns-in_ok-push_rule t c =
    put_around c.extend_from_slice-then-parts.result _ _ _ _ (codes "(") (rule_text (rule_shape_of c.args.member.now)) (codes ")") _
    (ap (λ apart. bracketed apart (rule_text (rule_shape_of c.args.member.now))) (sym c.parts.ensures ∙ c.if-parts.true))
    c.in_ok-extend_from_slice.ensures.items c.in_ok-push_rule.ensures c.extend_from_slice-then-parts.ensures.items
