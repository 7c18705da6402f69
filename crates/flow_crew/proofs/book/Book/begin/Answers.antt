use Rattle.flow_crew.proofs.Working.{begun_by_workers}
use Rattle.flow_crew.proofs.book.Book.begin.Goals as goal

pub invariant_of-self : goal.invariant_of-self
invariant_of-self g c =
    begun_by_workers g.G.Gate.gives c.self.inside.tracked c.args.by c.begin.result c.begin.new.self c.self.invariant c.begin.ensures.begun c.begin.ensures.legal

pub returns : goal.returns
returns g c = rw (← c.self.view_is) c.begin.ensures.begun
