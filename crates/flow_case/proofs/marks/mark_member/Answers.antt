use Rattle.std.proofs.Common.{sym, ◌∙◌, true≢false}
use Rattle.flow_case.specs.Members.{said}
use Rattle.flow_case.proofs.MarkSteps.{right_marked, right_passed}
use Rattle.flow_case.proofs.marks.mark_member.Goals as goal

pub returns-in_ok-mark_user : goal.returns-in_ok-mark_user
returns-in_ok-mark_user c = λ so_far before.
    right_marked c.args.named.now c.args.users.now so_far (said c.args.member) c.args.marks.now.items c.mark_user.new.marks.items (c.in_ok-is_given_to.ensures.0 c.if-branch.true)
    c.in_ok-mark_user.ensures before

pub returns-else-branch : goal.returns-else-branch
returns-else-branch c = λ so_far before.
    right_passed c.args.named.now c.args.users.now so_far (said c.args.member) c.args.marks.now.items (λ has. true≢false (sym (c.in_ok-is_given_to.ensures.1 has) ∙ c.if-branch.false)) before
