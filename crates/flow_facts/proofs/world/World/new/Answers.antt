use Rattle.std.proofs.Common.{◌<◌}
use Rattle.flow_facts.proofs.Members.{All-from-Each}
use Rattle.flow_facts.proofs.Trails.{kept_started}
use Rattle.flow_facts.proofs.world.World.new.Goals as goal

pub new-requires : goal.new-requires
new-requires c = All-from-Each (λ fact. fact < c.args.count) c.args.held.now c.requires

pub invariant_of-result : goal.invariant_of-result
invariant_of-result c = record {
  kept = kept_started c.in_ok-from_slice.field-0.items c.args.held.now c.in_ok-new.field-0 c.in_ok-with_capacity.field-0.items c.in_ok-from_slice.ensures.items
      c.in_ok-with_capacity.ensures.items c.in_ok-new.ensures.held;
  room = c.in_ok-with_capacity.ensures.capacity;
}
