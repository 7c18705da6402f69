use Rattle.std.proofs.Common.{rules, ◌∙◌}
use Rattle.flow_workflow.specs.Rule.{rule_of}
use Rattle.flow_verify.proofs.Negations.{negated_last, tells_fails, tells_holds, within_with, refused_with}
use Rattle.flow_verify.proofs.verification.verify_tree.Goals as goal

pub returns-in_err-execution : goal.returns-in_err-execution
returns-in_err-execution c =
    let same = negated_last c.args.rules.items c.deref.result.now c.in_ok-new.field-0 c.args.property (c.deref.ensures.value ∙ c.in_ok-push.ensures.items) c.in_ok-new.ensures.ok in
    let refused = refused_with c.args.tree.now c.args.rules.items c.deref.result.now (rule_of c.args.property) same in
    search (rules, refused)

pub returns-in-Some : goal.returns-in-Some
returns-in-Some c =
    let same = negated_last c.args.rules.items c.deref.result.now c.in_ok-new.field-0 c.args.property (c.deref.ensures.value ∙ c.in_ok-push.ensures.items) c.in_ok-new.ensures.ok in
    let (within, found) = c.in_ok-execution.ensures in (
      within_with c.args.tree.now c.args.rules.items c.deref.result.now (rule_of c.args.property) same within,
      tells_fails c.args.tree.now c.args.rules.items c.deref.result.now (rule_of c.args.property) same c.in-Some.execution (rw c.in-Some.is at found),
    )

pub returns : goal.returns
returns c =
    let same = negated_last c.args.rules.items c.deref.result.now c.in_ok-new.field-0 c.args.property (c.deref.ensures.value ∙ c.in_ok-push.ensures.items) c.in_ok-new.ensures.ok in
    let (within, found) = c.in_ok-execution.ensures in (
      within_with c.args.tree.now c.args.rules.items c.deref.result.now (rule_of c.args.property) same within,
      tells_holds c.args.tree.now c.args.rules.items c.deref.result.now (rule_of c.args.property) same (rw c.in-None.is at found),
    )
