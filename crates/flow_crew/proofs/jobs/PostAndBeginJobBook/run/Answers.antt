use Rattle.std.proofs.Common.{List, ◌++◌, ◌≡◌, ◌∙◌, ap, append_assoc}
use Rattle.flow_model.specs.declared.history.Entry.{Entry}
use Rattle.flow_model.proofs.Lists.{each-append}
use Rattle.flow_crew.proofs.jobs.PostAndBeginJobBook.run.Goals as goal

pub returns-clause-list : goal.returns-clause-list
returns-clause-list g c =
    let (first, is, own) = c.run.ensures.list in
    let (more, same, also) = c.run-2.ensures.list in (
      first ++ more,
      same ∙ ap (λ (l : List Entry). l ++ more) is ∙ append_assoc c.args.book.now.history first more,
      each-append (λ (e : Entry). e.by ≡ c.args.by) first more own also,
    )

pub returns-clause-does : goal.returns-clause-does
returns-clause-does g c = (c.run.new.book, c.run.ensures.does, c.run-2.ensures.does)
