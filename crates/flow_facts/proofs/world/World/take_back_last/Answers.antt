use Rattle.std.proofs.Common.{arith}
use Rattle.flow_facts.proofs.Trails.{course_taken_back, last_below, kept_taken_back}
use Rattle.flow_facts.proofs.world.World.take_back_last.Goals as goal

pub take_back-requires : goal.take_back-requires
take_back-requires c =
    last_below c.self.inside.held.items c.self.inside.database c.self.inside.trail.items c.pop.new.self.items c.in-Some.update
    c.self.invariant.kept c.in-Some.ensures.items

pub invariant_of-self : goal.invariant_of-self
invariant_of-self c = record {
  kept = kept_taken_back c.self.inside.held.items c.self.inside.database c.take_back.new.database c.self.inside.trail.items c.pop.new.self.items c.in-Some.update
      c.self.invariant.kept c.in-Some.ensures.items c.take_back.ensures.count c.take_back.ensures.held;
  room = omega (arith, c.self.invariant.room, c.pop.ensures.capacity);
}

pub returns-in-Some : goal.returns-in-Some
returns-in-Some c =
    course_taken_back c.self.inside.held.items c.self.inside.database c.take_back.new.database c.self.inside.trail.items c.pop.new.self.items c.in-Some.update
    c.self.inside.room c.args.self.now c.self.view_is c.in-Some.ensures.items c.take_back.ensures.count
