use Rattle.std.proofs.Common.{◌++◌, arith, codes, map, refl, sym, ap, ◌∙◌}
use Rattle.flow_form.specs.Form.{shape_of, shapes}
use Rattle.flow_form.proofs.form.Form.TheLaws.{the_size}
use Rattle.flow_text.specs.Joins.{mark_of, parted}
use Rattle.flow_text.specs.Printed.{bracketed, goal_text, list_text, more_text}
use Rattle.flow_text.proofs.Pushed.{listed, listed_more, largest_behind, put_around}
use Rattle.flow_form.proofs.Shapes.{shape_of-Iso}
use Rattle.flow_text.proofs.print_goals.+goals.Goals as goal

pub push_list-loop-member-preserved : goal.push_list-loop-member-preserved
push_list-loop-member-preserved t c =
    listed_more (λ f. bracketed (parted c.args.operator (shape_of f)) (goal_text (shape_of f)))
    (λ fs. more_text (mark_of c.args.operator) (parted c.args.operator) (shapes (map shape_of fs))) (mark_of c.args.operator) _ c.loop-member.member-index c.member-item.result
    c.loop-member.text.items c.extend_from_slice.new.self.items c.push_member-in-loop-member.new.text.items c.mark.result.now _
    c.loop-member-test.true c.member-item.is (λ f fs. refl) c.mark.ensures c.in_ok-extend_from_slice.ensures.items c.in_ok-push_member-2.ensures c.loop-member.invariant

pub push_list-returns : goal.push_list-returns
push_list-returns t c =
    listed (λ f. bracketed (parted c.args.operator (shape_of f)) (goal_text (shape_of f)))
    (λ fs. list_text (mark_of c.args.operator) (parted c.args.operator) (shapes (map shape_of fs)))
    (λ fs. more_text (mark_of c.args.operator) (parted c.args.operator) (shapes (map shape_of fs))) _ c.loop-member.member-index c.first-item.result
    _ _ _ c.in-len1-up.len_at_least c.first-item.is (λ f fs. refl) refl c.in_ok-push_member.ensures c.loop-member-test.false c.loop-member.invariant

pub push_list-push_member-requires-in-loop-member : goal.push_list-push_member-requires-in-loop-member
push_list-push_member-requires-in-loop-member t c =
    (omega (arith, c.decreases, largest_behind the_size c.args.members.now c.loop-member.member-index c.member-item.result c.loop-member-test.true c.member-item.is), tt)

pub push_goal-returns-in_ok-push_goal-in-Iso : goal.push_goal-returns-in_ok-push_goal-in-Iso
push_goal-returns-in_ok-push_goal-in-Iso t c =
    put_around c.extend_from_slice-in-Iso-2.result _ _ _ _ (codes "iso(") (goal_text (shape_of c.deref.result.now)) (codes ")") _
    (ap goal_text (shape_of-Iso _ _ c.in-Iso.is) ∙ ap (λ f. codes "iso(" ++ goal_text (shape_of f) ++ codes ")") (sym c.deref.ensures))
    c.in_ok-extend_from_slice-in-Iso.ensures.items c.in_ok-push_goal-in-Iso.ensures c.extend_from_slice-in-Iso-2.ensures.items

pub push_member-returns-in_ok-push_goal : goal.push_member-returns-in_ok-push_goal
push_member-returns-in_ok-push_goal t c =
    put_around c.extend_from_slice-then-parts.result _ _ _ _ (codes "(") (goal_text (shape_of c.args.member.now)) (codes ")") _
    (ap (λ apart. bracketed apart (goal_text (shape_of c.args.member.now))) (sym c.parts.ensures ∙ c.if-parts.true))
    c.in_ok-extend_from_slice.ensures.items c.in_ok-push_goal.ensures c.extend_from_slice-then-parts.ensures.items
