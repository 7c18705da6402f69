use Rattle.std.proofs.Common.{sym, subst, ap, ◌∙◌, get_or, ◌-◌, arith}
use Rattle.std.specs.List.{flat_map}
use Rattle.flow_model.specs.Lists.{each_with_each}
use Rattle.flow_view.specs.Arrows.{arrow, arrows_between, leaves_of}
use Rattle.flow_view.specs.Told.{Adds}
use Rattle.flow_view.proofs.ToldLemmas.{adds_none, no_followers, order_more}
use Rattle.flow_view.proofs.arrows.Arrows.put_order.Goals as goal

pub loop-place-init : goal.loop-place-init
loop-place-init c =
    subst (λ l. Adds l c.args.self.now c.args.self.now) (sym (ap (flat_map (arrows_between c.args.tree.now.labels c.args.rule)) (no_followers c.args.events.now))) (adds_none c.args.self.now)

pub loop-place-preserved : goal.loop-place-preserved
loop-place-preserved c =
    let labels = c.args.tree.now.labels in
    let one = c.deref.ensures.value ∙ c.in_ok-from.ensures in
    let other = c.deref-in-loop-place.ensures.value ∙ c.in_ok-to.ensures in
    order_more (arrows_between labels c.args.rule) c.args.events.now c.loop-place.place c.args.self.now c.loop-place.self c.put_between.new.self (omega arith) c.loop-place-test.true
    c.loop-place.invariant
    (subst (λ ys. Adds (each_with_each (arrow c.args.rule) (leaves_of labels (get_or c.args.events.now (c.loop-place.place - 1) 0)) ys) c.loop-place.self c.put_between.new.self) other
    (subst (λ xs. Adds (each_with_each (arrow c.args.rule) xs c.deref-in-loop-place.result.now) c.loop-place.self c.put_between.new.self) one c.in_ok-put_between.ensures))
