use Rattle.std.proofs.Common.{[], sym, subst}
use Rattle.flow_workflow.specs.Definition.{schema_of}
use Rattle.flow_stages.specs.Listed.{IsHopelessLook}
use Rattle.flow_stages.proofs.Closure.{never_hopeless, not_open, told_on}
use Rattle.flow_stages.proofs.search.Search.run.Goals as goal

pub returns-in-Hopeless-clause-never : goal.returns-in-Hopeless-clause-never
returns-in-Hopeless-clause-never c = λ _.
    let w = schema_of c.args.self.now.workflow.now in
    let d = c.args.self.now.staff.policy.now.duties in
    never_hopeless w d c.args.self.now.plan.now c.args.self.now.question
    (c.in_ok-look.ensures.hopeless (subst IsHopelessLook (sym c.in-Hopeless.is) tt) [] c.in_ok-node.ensures.first)

pub returns-in_default-clause-never : goal.returns-in_default-clause-never
returns-in_default-clause-never c = λ going. absurd (not_open c.in_ok-look.look c.in_default.not-Open going)

pub returns-in_default-clause-told : goal.returns-in_default-clause-told
returns-in_default-clause-told c =
    let w = schema_of c.args.self.now.workflow.now in
    let d = c.args.self.now.staff.policy.now.duties in
    told_on w d c.args.self.now.plan.now c.args.self.now.question c.look.new.states c.in_ok-look.look
    (c.in_ok-look.ensures.told c.in_ok-node.ensures.reached) c.in_default.not-Hopeless
