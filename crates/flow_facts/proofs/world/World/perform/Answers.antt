use Rattle.std.proofs.Common.{ap, sym, subst, arith}
use Rattle.flow_facts.specs.Changes.{HasFactBelow}
use Rattle.flow_facts.specs.Course.{Course}
use Rattle.flow_facts.proofs.Trails.{course_performed, kept_performed, room_left}
use Rattle.flow_facts.proofs.world.World.perform.Goals as goal

pub invariant_of-self : goal.invariant_of-self
invariant_of-self c = record {
  kept = kept_performed c.self.inside.held.items c.self.inside.database c.make-update.new.database c.self.inside.trail.items c.push.new.self.items
      c.make-update.result c.args.label c.self.invariant.kept (rw c.unwrap.ensures at c.push.ensures.items)
      c.make-update.ensures.label c.make-update.ensures.count
      (subst (λ count. HasFactBelow count c.args.label) (sym (ap (λ (w : Course). w.count) c.self.view_is)) c.requires.known)
      c.make-update.ensures.changed c.make-update.ensures.held;
  room = omega (arith, c.self.invariant.room, c.push.ensures.capacity);
}

pub returns : goal.returns
returns c =
    course_performed c.self.inside.held.items c.self.inside.database c.make-update.new.database c.self.inside.trail.items c.push.new.self.items
    c.make-update.result c.args.label c.self.inside.room c.args.self.now c.self.view_is (rw c.unwrap.ensures at c.push.ensures.items)
    c.make-update.ensures.label c.make-update.ensures.count

pub unwrap-requires : goal.unwrap-requires
unwrap-requires c =
    c.push.ensures.succeeds (room_left c.self.inside.held.items c.self.inside.database c.self.inside.trail.items c.self.inside.room c.args.self.now c.self.view_is
    c.requires.room c.self.inside.trail.ok.0 c.self.invariant.room)
