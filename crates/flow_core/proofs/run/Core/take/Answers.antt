use Rattle.std.proofs.Common.{Ok, subst}
use Rattle.flow_core.specs.Answers.{Takes}
use Rattle.flow_core.specs.Run.{Run}
use Rattle.flow_core.proofs.run.Core.take.Goals as goal

pub returns : goal.returns
returns c =
    let ((going, room, can), at) = c.in_ok-event.ensures in
    subst (λ (r : Run). Takes r c.args.leaf c.args.by (Ok c.give.result) c.give.new.self) c.prepare.ensures (going, room, can, c.give.ensures.entry, c.give.ensures.call)
