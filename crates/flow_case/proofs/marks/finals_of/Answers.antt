use Rattle.std.proofs.Common.{subst}
use Rattle.flow_case.specs.Givens.{said}
use Rattle.flow_case.specs.RulesOf.{AreFinals}
use Rattle.flow_case.proofs.NameSteps.{taken_more}
use Rattle.flow_case.proofs.marks.finals_of.Goals as goal

pub loop-name-preserved : goal.loop-name-preserved
loop-name-preserved c =
    subst (λ given. AreFinals c.args.workflow.now.events given c.mark_final.new.marks.items) (taken_more said c.args.given.now c.loop-name.name-index _ c.loop-name-test.true)
    (c.in_ok-mark_final.ensures _ c.loop-name.invariant)
