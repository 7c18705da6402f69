use Rattle.std.proofs.Common.{◌+◌, Option, sym, subst}
use Rattle.flow_goal.specs.Repeats.{IsFoundBefore}
use Rattle.flow_goal.specs.Times.{IsRepeated}
use Rattle.flow_goal.specs.declared.repeats.Twice.{Twice}
use Rattle.flow_goal.proofs.Repetitions.{found_with, found_without}
use Rattle.flow_goal.proofs.events.found_with.Goals as goal

pub returns-in-Some : goal.returns-in-Some
returns-in-Some c = λ leaf repeated found.
    subst (λ (o : Option Twice). IsFoundBefore c.args.tree.now (leaf + 1) o) (sym c.sooner.ensures)
    (found_with c.args.tree.now leaf c.in-Some.event c.args.found c.twice_of.result (subst (IsRepeated c.args.tree.now leaf) c.in-Some.is repeated) found c.twice_of.ensures)

pub returns-in-None : goal.returns-in-None
returns-in-None c = λ leaf repeated found. found_without c.args.tree.now leaf c.args.found (subst (IsRepeated c.args.tree.now leaf) c.in-None.is repeated) found
