use Rattle.flow_cli.proofs.Outcomes.{read_alone}
use Rattle.flow_cli.proofs.call.answer_alone.Goals as goal

pub answer_source-requires-clause-reads : goal.answer_source-requires-clause-reads
answer_source-requires-clause-reads g c = read_alone c.args.request.mode c.requires.alone c.in_default.not-Gen

pub returns-in_default-clause-unread : goal.returns-in_default-clause-unread
returns-in_default-clause-unread g c = λ unread. absurd (unread (read_alone c.args.request.mode c.requires.alone c.in_default.not-Gen))
