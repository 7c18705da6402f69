use Rattle.std.proofs.Common.{ℕ, List, subst}
use Rattle.flow_form.specs.Script.{said}
use Rattle.flow_cli.specs.Finding.{Answers}
use Rattle.flow_cli.specs.Duty.{DutyText}
use Rattle.flow_cli.specs.Trace.{TracesText}
use Rattle.flow_cli.specs.Verify.{VerifiesText}
use Rattle.flow_cli.proofs.call.find.Goals as goal

pub returns-in-Verify : goal.returns-in-Verify
returns-in-Verify c = λ gives.
    rw c.in-Verify.is (subst (λ (text : List ℕ). Answers (VerifiesText (said c.args.input.now.script) text) c.verify_text.result) c.deref-in-Verify.ensures.value c.verify_text.ensures)

pub returns-in-Trace : goal.returns-in-Trace
returns-in-Trace c = λ gives.
    rw c.in-Trace.is (subst (λ (text : List ℕ). Answers (TracesText (said c.args.input.now.script) text) c.trace_text.result) c.deref-in-Trace.ensures.value c.trace_text.ensures)

pub returns-in-Duty : goal.returns-in-Duty
returns-in-Duty c = λ gives.
    rw c.in-Duty.is (subst (λ (text : List ℕ). Answers (DutyText (said c.args.input.now.script) c.args.request.steps text) c.duty_text.result) c.deref-in-Duty.ensures.value
    c.duty_text.ensures)
