use Rattle.std.proofs.Common.{◌≡◌, ◌⊎◌, inl, inr, List, length, ap, ◌∙◌}
use Rattle.flow_model.specs.declared.history.Entry.{Entry}
use Rattle.flow_core.specs.Run.{Run}
use Rattle.flow_form.specs.Script.{said}
use Rattle.flow_case.specs.CaseRun.{run_of}
use Rattle.flow_keep.specs.Holding as kept
use Rattle.flow_case_cli.specs.Held as cli
use Rattle.flow_case_begin.proofs.BeginLemmas.{begins_same, follows, if_ok}
use Rattle.flow_case_book.proofs.BookLemmas.{if_err, not_told}
use Rattle.flow_case_book.proofs.opened.take_up.Goals as goal

pub follow-requires-clause-begins : goal.follow-requires-clause-begins
follow-requires-clause-begins g c =
    begins_same (said c.args.script.now) (run_of c.args.run) (kept.run_of c.in-Ok.keep) c.requires.once c.requires.begun c.in-Ok.ensures.workflow c.in-Ok.ensures.limit

pub returns-in-Ok-open_trail-clause-case : goal.returns-in-Ok-open_trail-clause-case
returns-in-Ok-open_trail-clause-case g c =
    if_ok c.follow.result _ _ (λ x is. follows c.args.run (cli.case_of x) (kept.run_of c.in-Ok.keep).history c.requires.begun.empty is) c.follow.ensures.case

pub returns-in-Ok-open_trail-clause-said : goal.returns-in-Ok-open_trail-clause-said
returns-in-Ok-open_trail-clause-said g c = λ told.
    let (saying, says, which) = c.in-Ok-open_trail.ensures.said told in
    if_ok c.follow.result _ _ (λ x same. (saying, says, elim which [ inl a ↦ inl (same ∙ a) | inr b ↦ inr (same ∙ b) ])) c.follow.ensures.said

pub returns-in-Ok-open_trail-clause-refused : goal.returns-in-Ok-open_trail-clause-refused
returns-in-Ok-open_trail-clause-refused g c = λ tells told.
    if_err c.follow.result _ _ (λ stop h. inr ((kept.run_of c.in-Ok.keep).history, c.in-Ok.ensures.history tells, inr h)) c.follow.ensures.refused

pub returns-in-Err-open_trail-clause-refused : goal.returns-in-Err-open_trail-clause-refused
returns-in-Err-open_trail-clause-refused g c = λ tells told.
    let history = (kept.run_of c.in-Ok.keep).history in
    let count : length c.history.result.now ≡ length history =
    ap (λ (l : List Entry). length l) c.history.ensures.entries ∙ ap (λ (r : Run). length r.history) c.core-2.ensures.run in
    not_told (said c.args.script.now) c.args.run c.args.start (g.D.Disk.seen c.args.files.entries) (g.T.Disk.seen c.args.files.trail) c.in-Err-open_trail.stop history
    (length c.history.result.now) (c.in-Ok.ensures.history tells) count (c.in-Err-open_trail.ensures.refused told)
