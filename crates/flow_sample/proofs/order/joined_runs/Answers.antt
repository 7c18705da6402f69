use Rattle.std.proofs.Common.{◌++◌, ◌∙◌, ◌<◌, ap, arith, get_or, length, sym}
use Rattle.std.proofs.lemmas.List.{take_all}
use Rattle.flow_model.proofs.Lists.{each_member}
use Rattle.flow_plan.proofs.PlaceLemmas.{read_member}
use Rattle.flow_sample.specs.Rows.{runs}
use Rattle.flow_sample.proofs.OrderLemmas.{runs_more}
use Rattle.flow_sample.proofs.order.joined_runs.Goals as goal

pub loop-number-preserved : goal.loop-number-preserved
loop-number-preserved g c =
    let k = c.loop-number.number-index in
    c.in_ok-extend_from_slice.ensures.items
    ∙ (λ i. c.loop-number.invariant i ++ c.deref.ensures.value i)
    ∙ sym (runs_more c.args.items.now c.args.order.now k c.index-items-number.result c.loop-number-test.true c.requires)

pub returns : goal.returns
returns g c = c.loop-number.invariant ∙ ap (runs c.args.items.now) (take_all c.loop-number.number-index c.args.order.now c.loop-number-test.false)

pub bounds-items-number : goal.bounds-items-number
bounds-items-number g c =
    each_member (λ n. n < length c.args.items.now) c.args.order.now c.requires (get_or c.args.order.now c.loop-number.number-index 0)
    (read_member c.args.order.now c.loop-number.number-index c.loop-number-test.true)

pub offset_bounds-items-number : goal.offset_bounds-items-number
offset_bounds-items-number g c =
    let within : get_or c.args.order.now c.loop-number.number-index 0 < length c.args.items.now =
    each_member (λ n. n < length c.args.items.now) c.args.order.now c.requires (get_or c.args.order.now c.loop-number.number-index 0)
    (read_member c.args.order.now c.loop-number.number-index c.loop-number-test.true) in
    omega arith
