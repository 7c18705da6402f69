use Rattle.std.proofs.Common.{Bool, ◌&&◌, ap, not, sym, ◌∙◌}
use Rattle.leaf_rows.specs.Leaves.{has_leaf}
use Rattle.flow_sample.specs.Rows.{has_inside}
use Rattle.flow_sample.proofs.OrderLemmas.{row_at}
use Rattle.flow_sample.proofs.order.take_out.Goals as goal

pub returns : goal.returns
returns g c x =
    c.remove_all.ensures x
    ∙ ap (λ (b : Bool). not b && has_leaf c.args.set.now x) (sym (row_at has_inside c.args.items.now c.args.number c.index-items-number.result c.requires x))
