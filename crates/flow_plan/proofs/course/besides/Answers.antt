use Rattle.flow_plan.proofs.CourseLemmas.{fewer_members, one_listed}
use Rattle.flow_plan.proofs.course.besides.Goals as goal

pub loop-leaf-smaller : goal.loop-leaf-smaller
loop-leaf-smaller c = fewer_members c.loop-leaf.rest c.remove.new.self c.in-Some.leaf c.in-Some.ensures.member c.in-Some.ensures.within c.remove.ensures

pub loop-leaf-preserved : goal.loop-leaf-preserved
loop-leaf-preserved c = one_listed c.remove_all.new.self c.loop-leaf.rest c.remove.new.self c.loop-leaf.list.items c.push.new.self.items c.in-Some.leaf c.in-Some.ensures.member c.remove.ensures
    c.in_ok-push.ensures.items c.loop-leaf.invariant
