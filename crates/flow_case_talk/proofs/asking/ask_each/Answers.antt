use Rattle.flow_case_talk.specs.Means.{AsksSome}
use Rattle.flow_case_talk.proofs.MeansLemmas.{next_asked, on_err}
use Rattle.flow_case_talk.proofs.asking.ask_each.Goals as goal

pub returns-in_err-asked_words-clause-begins : goal.returns-in_err-asked_words-clause-begins
returns-in_err-asked_words-clause-begins g c =
    let case = g.B.Book.kept_case in
    on_err c.from_residual-in_err-asked_words.result (AsksSome c.args.speaker.number (case c.args.book.now) (case c.ask_one.new.book))
    (next_asked c.args.speaker.number (case c.args.book.now) (case c.loop-ask.book) (case c.ask_one.new.book) _ _ _ c.loop-ask.invariant.made c.in_ok-asked.ensures.asked)

pub returns-in_err-bytes-clause-begins : goal.returns-in_err-bytes-clause-begins
returns-in_err-bytes-clause-begins g c =
    let case = g.B.Book.kept_case in
    on_err c.from_residual-in_err-bytes.result (AsksSome c.args.speaker.number (case c.args.book.now) (case c.ask_one.new.book))
    (next_asked c.args.speaker.number (case c.args.book.now) (case c.loop-ask.book) (case c.ask_one.new.book) _ _ _ c.loop-ask.invariant.made c.in_ok-asked.ensures.asked)
