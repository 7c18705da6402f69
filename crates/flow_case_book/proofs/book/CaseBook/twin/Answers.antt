use Rattle.std.proofs.Common.{◌≡◌, List, ap, subst, ◌∙◌}
use Rattle.std.specs.Option.{option_map}
use Rattle.flow_model.specs.declared.history.Entry.{Entry}
use Rattle.flow_text.specs.Parser.{bytes_now}
use Rattle.flow_core.specs.Run.{Run}
use Rattle.flow_case.specs.CaseRun.{run_of}
use Rattle.flow_case_begin.specs.Begun.{IsCaseOf}
use Rattle.flow_case_book.specs.Held.{case_of}
use Rattle.flow_case_book.specs.Texts.{policy_in}
use Rattle.flow_case_book.proofs.BookLemmas.{twin_run}
use Rattle.flow_case_book.proofs.book.CaseBook.twin.Goals as goal

pub returns-in-Ok : goal.returns-in-Ok
returns-in-Ok g c =
    let t = c.args.self.now in
    let (begun, of, is) = c.in-Ok.ensures in
    let there = subst (λ p. IsCaseOf t.texts.workflow.items p begun) c.lent.ensures.policy
    (subst (λ w. IsCaseOf w (option_map bytes_now c.lent.result.policy) begun) c.lent.ensures.workflow of) in
    twin_run t.texts.workflow.items (policy_in t.texts) (case_of t) begun c.in-Ok.twin c.history.result.now t.of_texts there is
    (c.history.ensures.entries ∙ ap (λ (r : Run). r.history) (c.core.ensures.run ∙ ap run_of c.run.ensures))
