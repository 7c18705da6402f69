use Rattle.std.proofs.Common.{map, ap, subst, ◌∙◌}
use Rattle.flow_case.specs.CaseRun.{run_of}
use Rattle.flow_trail.specs.Held as held
use Rattle.flow_trail.specs.Due.{entered_of, Tells, IsOther, IsMissing}
use Rattle.flow_case_book.specs.Due.{AreDueOf}
use Rattle.flow_case_book.specs.Held.{start_of, said_in, names_in}
use Rattle.flow_case_book.proofs.BookLemmas.{on_ok}
use Rattle.flow_case_book.proofs.book.CaseBook.verify.Goals as goal

pub returns-in-Ok-clause-missing : goal.returns-in-Ok-clause-missing
returns-in-Ok-clause-missing g c = λ entry is.
    let t = c.args.self.now in (
      map entered_of c.in-Ok.dues.items,
      subst (λ r. AreDueOf (names_in t) r (map entered_of c.in-Ok.dues.items)) (c.core.ensures.run ∙ ap run_of c.run.ensures) c.in-Ok.ensures,
      subst (λ l. IsMissing (said_in t) (map entered_of l) entry) c.deref.ensures.value
          (subst (λ s. IsMissing s (map entered_of c.deref.result.now) entry) c.trail.ensures.said (c.check.ensures.missing entry is)),
    )

pub returns-in-Ok-clause-other : goal.returns-in-Ok-clause-other
returns-in-Ok-clause-other g c = λ line is.
    let t = c.args.self.now in (
      map entered_of c.in-Ok.dues.items,
      subst (λ r. AreDueOf (names_in t) r (map entered_of c.in-Ok.dues.items)) (c.core.ensures.run ∙ ap run_of c.run.ensures) c.in-Ok.ensures,
      subst (λ l. IsOther (said_in t) (map entered_of l) line) c.deref.ensures.value
          (subst (λ s. IsOther s (map entered_of c.deref.result.now) line) c.trail.ensures.said (c.check.ensures.other line is)),
    )

pub returns-in-Ok-clause-whole : goal.returns-in-Ok-clause-whole
returns-in-Ok-clause-whole g c =
    let t = c.args.self.now in
    on_ok c.check.result _ _ (λ tells. (
      map entered_of c.in-Ok.dues.items,
      subst (λ r. AreDueOf (names_in t) r (map entered_of c.in-Ok.dues.items)) (c.core.ensures.run ∙ ap run_of c.run.ensures) c.in-Ok.ensures,
      subst (λ l. Tells (start_of t) (said_in t) (map entered_of l)) c.deref.ensures.value
          (subst (λ s. Tells (start_of t) s (map entered_of c.deref.result.now)) c.trail.ensures.said
          (subst (λ e. Tells e (held.said_in c.trail.result.now) (map entered_of c.deref.result.now)) c.trail.ensures.start tells)),
    )) c.check.ensures.whole
