use Rattle.flow_core.proofs.Tests.{none_among, cannot_take}
use Rattle.flow_core.proofs.run.Core.can_take.Goals as goal

pub returns-then-not-has_leaf : goal.returns-then-not-has_leaf
returns-then-not-has_leaf c =
    let i = c.self.inside in
    let free = none_among i.workflow _ i.claims c.self.invariant.kept.claims c.args.leaf c.has_leaf.result c.has_leaf.ensures c.if-not-has_leaf.true in
    (λ yes. (c.requires, rw (← c.self.view_is) free, c.may_all_follow.ensures.0 yes), λ can. c.may_all_follow.ensures.1 can.2)

pub returns-else-not-has_leaf : goal.returns-else-not-has_leaf
returns-else-not-has_leaf c =
    let i = c.self.inside in
    rw (← c.self.view_is) (cannot_take i.workflow _ i.claims c.self.invariant.kept.claims c.args.leaf c.has_leaf.result c.has_leaf.ensures c.if-not-has_leaf.false)
