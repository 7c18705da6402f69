use Rattle.std.proofs.Common.{subst}
use Rattle.flow_case.specs.Members.{said}
use Rattle.flow_case.specs.RulesOf.{HaveRight}
use Rattle.flow_case.proofs.NameSteps.{taken_more}
use Rattle.flow_case.proofs.marks.users_with.Goals as goal

pub loop-member-preserved : goal.loop-member-preserved
loop-member-preserved c =
    subst (λ members. HaveRight c.args.named.now c.args.users.now members c.mark_member.new.marks.items) (taken_more said c.args.members.now c.loop-member.member-index _ c.loop-member-test.true)
    (c.in_ok-mark_member.ensures _ c.loop-member.invariant)
