use Rattle.flow_questions.proofs.MakeLemmas.{other_made}
use Rattle.flow_questions.proofs.run.do_other.Goals as goal

pub returns-clause-made : goal.returns-clause-made
returns-clause-made c = λ leaves to claim next is.
    other_made c.args.run.now c.recall.ensures.well_formed c.recall.ensures.legal leaves to c.args.leaf claim next is 0 c.make.new.self c.make.result c.make.ensures.allowed c.make.ensures.made
