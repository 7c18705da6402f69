use Rattle.std.proofs.Common.{◌∙◌, List, [], refl, subst, sym}
use Rattle.flow_model.specs.Lists.{Each}
use Rattle.flow_plan.specs.Options.{HasSmallLeaves, options_of}
use Rattle.flow_plan.specs.Sampled.{Sampled}
use Rattle.flow_plan.specs.declared.fold_row.FoldRow.{FoldRow}
use Rattle.flow_residual.specs.Telling.{AreServing, IsOrderedOption}
use Rattle.flow_residual.proofs.SetLemmas.{none_in}
use Rattle.flow_residual.proofs.Starting.{roomy_first, serving_of}
use Rattle.flow_residual.proofs.residual.Residual.new.Goals as goal

pub invariant_of-result : goal.invariant_of-result
invariant_of-result c =
    let room = c.in_ok-fronts.ensures in
    let plans = c.into_parts-plans.result.0.items in
    let folds = c.into_parts-plans.result.1.items in
    let ordered = subst (λ (l : List Sampled). Each IsOrderedOption (options_of l)) c.deref.ensures.value c.all_ordered.ensures in
    let serving = serving_of folds plans c.into_parts-plans.ensures.shared in
    let none = none_in c.new-none.result c.new-none.ensures in
    roomy_first _ c.plans.result.now (c.plans.ensures.plans ∙ sym c.into_parts-plans.ensures.plans)
    (subst (λ (plans : List Sampled). Each HasSmallLeaves (options_of plans)) (sym c.into_parts-plans.ensures.plans) c.plans.ensures.small)
    ordered serving room.fronts room.leaves room.journal room.bans refl none none
    (c.sides_by-sides.ensures (options_of plans) [] [] ordered (subst (λ (l : List FoldRow). Each (AreServing l) (options_of plans)) (sym c.deref-2.ensures.value) serving) none none)
    room.journal_room room.bans_room room.opens room.opens_room
