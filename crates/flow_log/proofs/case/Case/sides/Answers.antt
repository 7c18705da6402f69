use Rattle.flow_log.proofs.CaseLemmas.{sides_of}
use Rattle.flow_log.proofs.case.Case.sides.Goals as goal

pub returns : goal.returns
returns g c = sides_of c.args.self.now.plans.now c.args.self.now.folds.now c.args.done.now c.resized.result c.new.result c.new-2.result c.requires.wide c.resized.ensures
    c.requires.case.shared c.new-2.ensures
