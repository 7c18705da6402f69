use Rattle.flow_text.proofs.OneAnswer.{texts_have_one_answer, queries_have_one_answer}
use Rattle.flow_text.proofs.laws.law_texts_have_one_answer.Goals as goal

pub returns : goal.returns
returns c = record { of_scripts = texts_have_one_answer; of_queries = queries_have_one_answer }
