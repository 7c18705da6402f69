use Rattle.flow_record.specs.Words.{words_of}
use Rattle.flow_names.specs.Grammar.{said_by}
use Rattle.flow_case_talk.specs.Means.{LineBegins}
use Rattle.flow_case_talk.proofs.MeansLemmas.{on_err}
use Rattle.flow_case_talk.proofs.PlanLemmas.{means_begins}
use Rattle.flow_case_talk.proofs.reply.respond.Goals as goal

pub returns-in_err-whole_lines-clause-begins : goal.returns-in_err-whole_lines-clause-begins
returns-in_err-whole_lines-clause-begins g c =
    let k = g.B.Book.kept_case c.args.book.now in
    let after = g.B.Book.kept_case c.reply_to.new.book in
    on_err c.from_residual-in_err-whole_lines.result (LineBegins c.args.speaker.number k (said_by (words_of c.args.line.now)) after)
    (means_begins (g.B.Book.tidied c.args.book.now) c.args.speaker.number k (said_by (words_of c.args.line.now)) c.in_ok-text.field-0.outcome after c.in_ok-text.ensures.means)
