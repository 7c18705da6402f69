use Rattle.std.proofs.Common.{◌≡◌, ◌++◌, drop, map}
use Rattle.flow_form.specs.Form.{shape_of, shapes}
use Rattle.flow_text.specs.Joins.{mark_of, parted}
use Rattle.flow_text.specs.Printed.{more_text}
use Rattle.flow_text.proofs.print_goals.+goals.Given as goal

abbrev pub invariant-push_list-loop-member : goal.invariant-push_list-loop-member
invariant-push_list-loop-member l =
    l.text.items ++ more_text (mark_of l.operator) (parted l.operator) (shapes (map shape_of (drop l.member-index l.rest)))
    ≡ l.initial.text.items ++ more_text (mark_of l.operator) (parted l.operator) (shapes (map shape_of l.rest))
