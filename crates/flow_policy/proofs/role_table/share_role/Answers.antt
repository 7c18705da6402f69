use Rattle.std.proofs.Common.{refl}
use Rattle.flow_policy.proofs.TableLemmas.{sharing_left, sharing_right, sharing_here}
use Rattle.flow_policy.proofs.role_table.share_role.Goals as goal

pub returns-then-one-other : goal.returns-then-one-other
returns-then-one-other c = (
  (λ _. sharing_here c.args.mine.now c.args.theirs.now c.loop-one.mine.now c.loop-one.theirs.now c.in-Some.one.now c.in-Some.more.now c.in-Some-split_first.other.now c.in-Some-split_first.others.now
      c.in-Some.ensures.cases.0 c.in-Some-split_first.ensures.cases.0 c.if-one-other.true c.loop-one.invariant),
  (λ _. refl),
)

pub loop-one-preserved-then-one-other-2 : goal.loop-one-preserved-then-one-other-2
loop-one-preserved-then-one-other-2 c =
    sharing_left c.args.mine.now c.args.theirs.now c.loop-one.mine.now c.loop-one.theirs.now c.in-Some.one.now c.in-Some.more.now c.in-Some-split_first.other.now c.in-Some-split_first.others.now
    c.in-Some.ensures.cases.0 c.in-Some-split_first.ensures.cases.0 c.if-one-other-2.true c.loop-one.invariant

pub loop-one-preserved : goal.loop-one-preserved
loop-one-preserved c =
    sharing_right c.args.mine.now c.args.theirs.now c.loop-one.mine.now c.loop-one.theirs.now c.in-Some.one.now c.in-Some.more.now c.in-Some-split_first.other.now c.in-Some-split_first.others.now
    c.in-Some.ensures.cases.0 c.in-Some-split_first.ensures.cases.0 c.if-one-other-2.false c.if-one-other.false c.loop-one.invariant
