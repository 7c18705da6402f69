use Rattle.flow_crew.proofs.Working.{posted_by_workers}
use Rattle.flow_crew.proofs.book.Book.post.Goals as goal

pub invariant_of-self : goal.invariant_of-self
invariant_of-self g c =
    posted_by_workers g.G.Gate.gives c.self.inside.tracked c.args.call c.args.outcome c.args.by c.post.new.self c.self.invariant c.requires c.post.ensures.posted c.post.ensures.legal

pub returns : goal.returns
returns g c = rw (← c.self.view_is) c.post.ensures.posted
