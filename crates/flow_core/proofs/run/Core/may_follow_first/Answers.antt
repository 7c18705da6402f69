use Rattle.flow_core.proofs.Tests.{told_first}
use Rattle.flow_core.proofs.run.Core.may_follow_first.Goals as goal

pub returns-then-leaf-lt-MOST_LEAVES : goal.returns-then-leaf-lt-MOST_LEAVES
returns-then-leaf-lt-MOST_LEAVES c = rw (← c.self.view_is, c.has.ensures) ((c.self.invariant.ahead c.if-self.true).one c.args.leaf)

pub returns-else-self : goal.returns-else-self
returns-else-self c =
    let i = c.self.inside in
    let k = c.self.invariant.kept in
    rw (← c.self.view_is) (told_first i.workflow _ i.claims k.claims i.residual k.remains c.args.leaf c.legal_do.result c.leaves.result.now c.leaves.ensures c.legal_do.ensures.first)
