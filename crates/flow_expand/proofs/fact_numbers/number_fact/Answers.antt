use Rattle.std.proofs.lemmas.Result.{IfOk-weaker}
use Rattle.flow_expand.proofs.LeavesLemmas.{added_with, number_at}
use Rattle.flow_expand.proofs.fact_numbers.number_fact.Goals as goal

pub returns-clause-facts : goal.returns-clause-facts
returns-clause-facts c = IfOk-weaker c.add.result _ _ (λ _ added. added_with c.args.facts.now c.args.fact.now c.add.new.self added) c.add.ensures.keys

pub returns-clause-number : goal.returns-clause-number
returns-clause-number c = IfOk-weaker c.add.result _ _ (λ n at. number_at c.add.new.self c.args.fact.now n c.add.ensures.distinct at) c.add.ensures.number
