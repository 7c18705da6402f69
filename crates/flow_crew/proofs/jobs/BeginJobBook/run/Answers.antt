use Rattle.flow_crew.proofs.Working.{begun_by_workers}
use Rattle.flow_crew.proofs.jobs.BeginJobBook.run.Goals as goal

pub invariant_of-book : goal.invariant_of-book
invariant_of-book g c =
    begun_by_workers g.G.Gate.gives c.book.inside.tracked c.args.by c.begin.result c.begin.new.self c.book.invariant c.begin.ensures.begun c.begin.ensures.legal

pub returns-clause-does : goal.returns-clause-does
returns-clause-does g c = rw (← c.book.view_is) c.begin.ensures.begun
