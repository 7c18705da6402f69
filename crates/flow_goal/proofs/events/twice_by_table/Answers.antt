use Rattle.std.proofs.Common.{◌≡◌, rules, arith, length, subst}
use Rattle.flow_goal.specs.Repeats.{IsFoundBefore}
use Rattle.flow_goal.proofs.Repetitions.{found_none, found_some}
use Rattle.flow_goal.proofs.events.twice_by_table.Goals as goal

pub returns-clause-none : goal.returns-clause-none
returns-clause-none c =
    let all : c.loop-next.next ≡ length c.args.tree.now.labels = omega arith in
    found_none c.args.tree.now (search rules) c.loop-next.found (subst (λ n. IsFoundBefore c.args.tree.now n c.loop-next.found) all c.loop-next.invariant.found)

pub returns-clause-some : goal.returns-clause-some
returns-clause-some c =
    let all : c.loop-next.next ≡ length c.args.tree.now.labels = omega arith in
    found_some c.args.tree.now c.loop-next.found (subst (λ n. IsFoundBefore c.args.tree.now n c.loop-next.found) all c.loop-next.invariant.found)
