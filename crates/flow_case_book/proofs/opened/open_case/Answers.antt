use Rattle.std.proofs.Common.{subst}
use Rattle.std.specs.Option.{option_map}
use Rattle.flow_form.specs.Script.{said}
use Rattle.flow_text.specs.Parser.{bytes_now}
use Rattle.flow_case_begin.proofs.BeginLemmas.{run_begun}
use Rattle.flow_text.specs.Saying.{Says}
use Rattle.flow_case.specs.CaseRun.{run_of}
use Rattle.flow_case_cli.specs.Held as cli
use Rattle.flow_case_begin.specs.Begun.{IsBegun}
use Rattle.flow_case_book.specs.Texts.{policy_in}
use Rattle.flow_case_book.proofs.BookLemmas.{begins_as}
use Rattle.flow_case_book.proofs.opened.open_case.Goals as goal

pub take_up-case-requires-clause-begun : goal.take_up-case-requires-clause-begun
take_up-case-requires-clause-begun g c = run_begun (said c.in-Ok.begun.script) (option_map bytes_now c.lent.result.policy) c.in-Ok.begun.run c.in-Ok.ensures.begun

pub with_people-requires-clause-of_texts : goal.with_people-requires-clause-of_texts
with_people-requires-clause-of_texts g c =
    let t = c.args.texts in
    let b = c.in-Ok.begun in
    let s = said b.script in
    let case = cli.case_of c.in-Ok-case.case in
    begins_as t.workflow.items (policy_in t) b.run case (run_of case).history (
      s,
      subst (λ w. Says w s) c.lent.ensures.workflow c.in-Ok.ensures.says,
      subst (λ p. IsBegun s p b.run) c.lent.ensures.policy c.in-Ok.ensures.begun,
    ) c.in-Ok-case.ensures.case
