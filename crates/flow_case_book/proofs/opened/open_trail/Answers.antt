use Rattle.flow_case_book.proofs.BookLemmas.{untold}
use Rattle.flow_case_book.proofs.opened.open_trail.Goals as goal

pub returns-in-Err-clause-refused : goal.returns-in-Err-clause-refused
returns-in-Err-clause-refused g c = λ tells.
    untold c.in-Err.field-0.why c.args.start c.args.count (g.T.Disk.seen c.args.trail) c.from.result (c.in-Err.ensures.bad tells) (c.in-Err.ensures.other_count tells)
    c.from.ensures
