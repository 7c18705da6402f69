use Rattle.flow_residual.proofs.TellingLemmas.{closed_of_all}
use Rattle.flow_residual.proofs.sets.closed_by.Goals as goal

pub returns : goal.returns
returns c os list ordered serving is = closed_of_all c.args.folds.now c.args.set.now c.closed_off.result c.closed_off.ensures os serving list is
