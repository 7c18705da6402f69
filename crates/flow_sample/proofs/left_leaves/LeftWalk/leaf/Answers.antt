use Rattle.std.proofs.Common.{◌+◌, refl, sym}
use Rattle.flow_sample.proofs.LeftLemmas.{leaf_over, leaf_past, leaf_takes}
use Rattle.flow_sample.proofs.left_leaves.LeftWalk.leaf.Goals as goal

pub returns-in_default-clause-walks : goal.returns-in_default-clause-walks
returns-in_default-clause-walks c = leaf_past c.args.self.now c.args.plan.now.leaves (sym c.in_default.ensures.leaf)

pub returns-then-self-ne0-clause-walks : goal.returns-then-self-ne0-clause-walks
returns-then-self-ne0-clause-walks c =
    let old = c.args.self.now in
    leaf_over old (record { place = old.place + 1; passed = old.passed; taken = old.taken }) c.args.plan.now.leaves c.in-Some.leaf (sym c.in-Some.ensures.leaf) c.if-self-ne0.true refl refl refl

pub returns-clause-walks : goal.returns-clause-walks
returns-clause-walks c =
    let old = c.args.self.now in
    leaf_takes old (record { place = old.place + 1; passed = old.passed; taken = c.push.new.self }) c.args.plan.now.leaves c.in-Some.leaf (sym c.in-Some.ensures.leaf) c.if-self-ne0.false refl refl
    c.in_ok-push.ensures.items
