use Rattle.std.proofs.Common.{◌++◌, ◌∙◌, ap}
use Rattle.flow_core.specs.Run.{Run}
use Rattle.flow_crew.proofs.Endings.{legal_within}
use Rattle.flow_crew.proofs.Continuing.{posted}
use Rattle.flow_crew.proofs.Working.{posted_by_workers}
use Rattle.flow_crew.proofs.jobs.PostJobBook.run.Goals as goal

pub invariant_of-book : goal.invariant_of-book
invariant_of-book g c =
    posted_by_workers g.G.Gate.gives c.book.inside.tracked c.args.self.call c.args.self.outcome c.args.by c.post.new.self c.book.invariant c.args.self.given c.post.ensures.posted c.post.ensures.legal

pub returns-clause-does : goal.returns-clause-does
returns-clause-does g c = rw (← c.book.view_is) c.post.ensures.posted

pub returns-clause-list : goal.returns-clause-list
returns-clause-list g c =
    let run = c.book.inside.tracked in
    let (added, is, own) =
    (posted run c.args.self.call c.args.self.outcome c.args.by c.post.new.self (legal_within run c.book.invariant.run_legal.0) c.post.ensures.posted).continued in
    (added, ap (λ (r : Run). r.history) is ∙ ap (λ (r : Run). r.history ++ added) c.book.view_is, own)
