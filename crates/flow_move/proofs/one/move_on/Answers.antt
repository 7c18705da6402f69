use Rattle.flow_move.proofs.MoveLemmas.{IsSought, unmoved_at}
use Rattle.flow_move.proofs.one.move_on.Goals as goal

pub returns-else-make_on_least-clause-unmoved : goal.returns-else-make_on_least-clause-unmoved
returns-else-make_on_least-clause-unmoved c =
    let no = c.if-make_on_least.false in
    let s : IsSought c.args.names.now c.args.old c.args.by c.args.label.now =
    record { caller = c.requires.caller; leaf = c.requires.leaf; named = c.requires.label } in
    unmoved_at c.args.names.now c.args.run.now c.make_on_least.new.run c.core.result.now c.args.old c.args.by c.args.label.now c.args.labels.now
    c.cause_on.result s c.requires.labels (c.make_on_least.ensures.kept no) c.core.ensures.run (c.make_on_least.ensures.none no) c.cause_on.ensures
