use Rattle.flow_model.specs.Verdict.{AreJust}
use Rattle.flow_policy_lint.specs.Findings.{IsOneBelow, IsForNobody}
use Rattle.flow_policy_lint.proofs.events.untaken.Given as goal

abbrev pub invariant-loop-event : goal.invariant-loop-event
invariant-loop-event l = AreJust (IsOneBelow l.event (IsForNobody l.policy.duties l.users)) l.found.items
