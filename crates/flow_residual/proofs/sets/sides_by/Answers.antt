use Rattle.flow_residual.proofs.TellingLemmas.{told_of_all}
use Rattle.flow_residual.proofs.sets.sides_by.Goals as goal

pub returns : goal.returns
returns c os journal bans ordered serving done out = told_of_all c.args.folds.now c.args.done.now c.args.excluded.now c.new.result c.new.ensures os ordered serving journal bans done out
