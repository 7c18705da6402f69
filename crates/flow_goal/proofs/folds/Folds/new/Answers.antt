use Rattle.std.proofs.Common.{◌≡◌, length, ap, ◌∙◌, refl, subst₂, List, Bool, false, arith}
use Rattle.flow_model.specs.Process.{Process, leaves}
use Rattle.flow_goal.specs.Goal.{process_of}
use Rattle.flow_goal.specs.Measure.{by_flags, measure_of, Walks}
use Rattle.flow_goal.proofs.FoldsLemmas.{folds_made, leaves_numbered}
use Rattle.flow_goal.proofs.folds.Folds.new.Goals as goal

pub walk_goal-requires : goal.walk_goal-requires
walk_goal-requires c =
    let size : length (leaves (process_of c.goal.result.now)) ≡ c.leaves-leaves.result =
    ap (λ (g : Process). length (leaves g)) c.goal.ensures ∙ leaves_numbered c.args.tree.now.process c.leaves-leaves.result c.leaves-leaves.ensures.numbered in
    omega (arith, c.new-walk.ensures.next)

pub returns : goal.returns
returns c =
    folds_made c.args.tree.now c.args.named.now c.leaves-leaves.result c.leaves-leaves.ensures.numbered _ c.new-walk.result c.walk_goal.new.walk c.in_ok-measure.measure
    c.in_ok-named.ensures c.new-walk.ensures.next c.new-walk.ensures.flags c.new-walk.ensures.spans
    (subst₂ (λ (flags : List Bool) (g : Process). Walks (by_flags flags) false g c.new-walk.result c.walk_goal.new.walk) c.deref.ensures.value c.goal.ensures
    c.in_ok-measure.ensures.walked)
    (c.in_ok-measure.ensures.measure ∙ (λ i. measure_of (by_flags (c.deref.ensures.value i)) (c.goal.ensures i)))
    refl refl refl
