use Rattle.std.proofs.Common.{subst}
use Rattle.flow_goal.specs.Times.{IsRepeated}
use Rattle.flow_goal.proofs.Repetitions.{found_besides, found_without}
use Rattle.flow_goal.proofs.events.found_beside.Goals as goal

pub returns-else-may_repeat : goal.returns-else-may_repeat
returns-else-may_repeat c = λ leaf repeated found.
    found_besides c.args.tree.now leaf c.in-Some.again c.args.found (subst (IsRepeated c.args.tree.now leaf) c.in-Some.is repeated)
    (c.may_repeat.ensures c.args.tree.now c.requires.numbered c.requires.batches c.if-may_repeat.false) found

pub returns-in-None : goal.returns-in-None
returns-in-None c = λ leaf repeated found. found_without c.args.tree.now leaf c.args.found (subst (IsRepeated c.args.tree.now leaf) c.in-None.is repeated) found

pub returns-then-may_repeat : goal.returns-then-may_repeat
returns-then-may_repeat c = λ leaf repeated found. c.found_with.ensures leaf (subst (IsRepeated c.args.tree.now leaf) c.in-Some.is repeated) found
