use Rattle.std.proofs.Common.{Bool, ◌||◌, ap, sym, ◌∙◌}
use Rattle.leaf_rows.specs.Leaves.{has_leaf}
use Rattle.flow_sample.specs.Rows.{has_inside}
use Rattle.flow_sample.proofs.OrderLemmas.{row_at}
use Rattle.flow_sample.proofs.order.put_in.Goals as goal

pub returns : goal.returns
returns g c x =
    c.union_with.ensures x
    ∙ ap (λ (b : Bool). has_leaf c.args.set.now x || b) (sym (row_at has_inside c.args.items.now c.args.number c.index-items-number.result c.requires x))
