use Rattle.flow_sample.specs.Rows.{has_inside}
use Rattle.flow_sample.proofs.OrderLemmas.{is_within, union_more, union_of_all}
use Rattle.flow_sample.proofs.item.all_inside.Goals as goal

pub loop-item-preserved : goal.loop-item-preserved
loop-item-preserved g c =
    union_more has_inside c.args.items.now c.loop-item.item-index c.item-item.result c.loop-item.all c.union_with.new.self
    c.loop-item-test.true c.item-item.is c.union_with.ensures c.loop-item.invariant

pub returns : goal.returns
returns g c =
    union_of_all has_inside c.args.items.now c.loop-item.item-index c.loop-item.all (is_within c.args.items.now) c.loop-item-test.false c.loop-item.invariant
