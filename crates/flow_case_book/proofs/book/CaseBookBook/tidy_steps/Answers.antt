use Rattle.flow_case_book.specs.Held.{case_of}
use Rattle.flow_case_book.proofs.BookLemmas.{tidy_of_twin}
use Rattle.flow_case_book.proofs.book.CaseBookBook.tidy_steps.Goals as goal

pub returns-clause-steps : goal.returns-clause-steps
returns-clause-steps g c =
    tidy_of_twin c.tidy_steps-steps.result c.args.by (case_of c.args.self.now) c.in_ok-twin.twin c.tidy_steps-steps.new.scout c.in_ok-twin.ensures c.tidy_steps-steps.ensures.tidy
