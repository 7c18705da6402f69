use Rattle.std.proofs.Common.{refl}
use Rattle.flow_workflow.specs.Definition.{schema_of}
use Rattle.flow_stages.proofs.LookLemmas.{both_shown}
use Rattle.flow_stages.proofs.search.Search.shown_for_both.Goals as goal

pub returns-then-are_done-clause-told : goal.returns-then-are_done-clause-told
returns-then-are_done-clause-told c = λ left reached fits.
    let w = schema_of c.args.self.now.workflow.now in
    let d = c.args.self.now.staff.policy.now.duties in
    let p = c.args.self.now.plan.now in
    let question = c.args.self.now.question in
    let list = c.args.node.now.leaves.items in
    let (first, second) = c.if-are_done.ensures.done list reached.after refl in
    c.shown.ensures.told w d p question left (both_shown w d p question c.args.node.now c.args.takers.items c.args.one c.args.two c.args.one c.requires.asked reached fits first second)
