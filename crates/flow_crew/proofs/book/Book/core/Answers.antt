use Rattle.flow_crew.proofs.book.Book.core.Goals as goal

pub returns-clause-by_workers : goal.returns-clause-by_workers
returns-clause-by_workers g c = rw (← c.self.view_is) c.self.invariant
