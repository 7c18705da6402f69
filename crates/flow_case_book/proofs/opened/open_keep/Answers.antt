use Rattle.flow_form.specs.Script.{said}
use Rattle.flow_case_book.proofs.BookLemmas.{unkept}
use Rattle.flow_case_book.proofs.opened.open_keep.Goals as goal

pub returns-in-Err-open-clause-refused : goal.returns-in-Err-open-clause-refused
returns-in-Err-open-clause-refused g c = λ tells.
    unkept c.in-Err-open.field-0.why (said c.args.script.now) c.in-Ok.prepared.workflow (g.D.Disk.seen c.args.entries) c.from.result c.in-Ok.ensures.expanded
    (c.in-Err-open.ensures.foreign tells) c.from.ensures
