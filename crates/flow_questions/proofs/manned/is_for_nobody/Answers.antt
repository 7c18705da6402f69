use Rattle.std.proofs.Common.{◌≤◌, refl, sym, true≢false, arith}
use Rattle.flow_questions.proofs.StaffLemmas.{one_more, none_left, none_past, left_by, left_from}
use Rattle.flow_questions.proofs.manned.is_for_nobody.Goals as goal

pub loop-user-preserved : goal.loop-user-preserved
loop-user-preserved c =
    one_more c.args.run.now.desk c.args.event c.loop-user.user c.loop-user.invariant
    (λ left. true≢false (sym (c.if-may_take.ensures.1 (left_by c.args.run.now.desk c.core.result.now c.policy.result.now c.loop-user.user c.args.event c.core.ensures.run c.policy.ensures left))))

pub returns-then-may_take : goal.returns-then-may_take
returns-then-may_take c = (
  λ no. absurd (true≢false (sym no)),
  λ none. absurd (none c.loop-user.user (left_from c.args.run.now.desk c.core.result.now c.policy.result.now c.loop-user.user c.args.event c.core.ensures.run c.policy.ensures
      (c.if-may_take.ensures.0 refl))),
)

pub returns : goal.returns
returns c =
    let past : c.args.users ≤ c.loop-user.user = omega (arith, c.loop-user-test.false) in (
      λ yes. none_left c.args.run.now.desk c.args.event c.args.users c.requires (none_past c.args.run.now.desk c.args.event c.loop-user.user c.args.users c.loop-user.invariant past),
      λ none. refl,
    )
