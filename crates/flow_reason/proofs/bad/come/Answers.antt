use Rattle.flow_reason.proofs.BadLemmas.{nothing_then, take_nothing, perform_nothing, done_nothing}
use Rattle.flow_reason.proofs.bad.come.Goals as goal

pub returns-in-Ok : goal.returns-in-Ok
returns-in-Ok c =
    nothing_then c.args.core.now c.take.new.self c.done.new.self (take_nothing c.args.core.now c.take.new.self c.args.leaf 0 c.take.result c.take.ensures)
    (done_nothing c.take.new.self c.done.new.self c.in-Ok.call.claim 0 c.done.result c.done.ensures)

pub returns-in-Err : goal.returns-in-Err
returns-in-Err c =
    nothing_then c.args.core.now c.take.new.self c.perform.new.self (take_nothing c.args.core.now c.take.new.self c.args.leaf 0 c.take.result c.take.ensures)
    (perform_nothing c.take.new.self c.perform.new.self c.args.leaf 0 c.perform.result c.perform.ensures)
