use Rattle.std.proofs.Common.{Some}
use Rattle.flow_c.proofs.AnswerLemmas.{answered}
use Rattle.flow_c.proofs.answer.answer_bytes.Goals as goal

pub returns : goal.returns
returns c = answered c.args.request c.args.input.now (Some c.answer_alone.new.source.rest.now) c.answer_alone.result c.answer_alone.ensures.outcome
