use Rattle.std.proofs.Common.{◌≡◌, false, rules, ap, ◌∙◌}
use Rattle.flow_case.specs.CaseRun.{run_of}
use Rattle.flow_case_book.specs.Held.{case_of}
use Rattle.flow_case_book.proofs.BookLemmas.{takeable_now, none_before, steps_of_twin}
use Rattle.flow_case_book.proofs.book.CaseBookBook.steps_to_take.Goals as goal

pub returns-then-may_take-clause-steps : goal.returns-then-may_take-clause-steps
returns-then-may_take-clause-steps g c =
    takeable_now c.args.by c.args.leaf (case_of c.args.self.now) c.core.result.now c.may_take.result c.new.result.items c.may_take.ensures c.if-may_take.true
    (c.core.ensures ∙ ap run_of c.look_ahead.ensures.run) c.new.ensures.items

pub returns-then-not-waits_for_step-clause-steps : goal.returns-then-not-waits_for_step-clause-steps
returns-then-not-waits_for_step-clause-steps g c =
    none_before c.args.by c.args.leaf (case_of c.args.self.now) c.core.result.now c.core-2.result.now c.may_take.result c.waits_for_step.result
    c.new-then-not-waits_for_step.result.items c.may_take.ensures c.if-may_take.false (c.core.ensures ∙ ap run_of c.look_ahead.ensures.run) c.waits_for_step.ensures
    c.if-not-waits_for_step.true (c.core-2.ensures ∙ ap run_of c.look_ahead.ensures.run) c.new-then-not-waits_for_step.ensures.items

pub returns-clause-steps : goal.returns-clause-steps
returns-clause-steps g c =
    steps_of_twin c.steps_to_take-steps.result c.args.by c.args.leaf (case_of c.args.self.now) c.in_ok-twin.twin c.steps_to_take-steps.new.scout
    (c.in_ok-twin.ensures ∙ ap run_of c.look_ahead.ensures.run) c.steps_to_take-steps.ensures.steps
