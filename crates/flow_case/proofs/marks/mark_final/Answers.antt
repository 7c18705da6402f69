use Rattle.std.proofs.Common.{sym, ◌∙◌}
use Rattle.flow_case.specs.Givens.{said}
use Rattle.flow_case.proofs.MarkSteps.{final_marked, final_passed}
use Rattle.flow_case.proofs.marks.mark_final.Goals as goal

pub returns-in_ok-mark_event : goal.returns-in_ok-mark_event
returns-in_ok-mark_event c = λ so_far before.
    final_marked c.args.workflow.now.events so_far (said c.args.given) c.args.marks.now.items c.mark_event.new.marks.items (sym c.is.ensures ∙ c.if-is.true) c.in_ok-mark_event.ensures before

pub returns-else-is : goal.returns-else-is
returns-else-is c = λ so_far before.
    final_passed c.args.workflow.now.events so_far (said c.args.given) c.args.marks.now.items (sym c.is.ensures ∙ c.if-is.false) before
