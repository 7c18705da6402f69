use Rattle.std.proofs.Common.{refl}
use Rattle.leaf_rows.specs.Leaves.{has_leaf}
use Rattle.flow_model.specs.Lists.{◌∈◌}
use Rattle.flow_plan.specs.Ahead.{IsInSome}
use Rattle.flow_plan.specs.Span.{at_span}
use Rattle.flow_plan.proofs.PartLemmas.{left_over}
use Rattle.flow_plan.proofs.part_row.Reach.row.Goals as goal

pub returns : goal.returns
returns g c = λ ns rows reaches.
    let reach = c.args.self.now in
    record {
      span = refl;
      inside = reaches.0;
      outside = λ x.
          left_over (x ∈ at_span reach.span ns) (IsInSome (at_span reach.span rows) x) (has_leaf reach.inside x) (has_leaf reach.before x) (has_leaf c.remove_all.new.self x)
          (c.remove_all.ensures x) (reaches.0 x) (reaches.1 x);
    }
