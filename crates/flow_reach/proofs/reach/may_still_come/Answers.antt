use Rattle.std.proofs.Common.{List, sym, subst}
use Rattle.leaf_rows.specs.Leaves.{has_leaf}
use Rattle.flow_model.specs.Lists.{Each}
use Rattle.flow_model.specs.Folding.{folded_options}
use Rattle.flow_plan.specs.Compilation.{AreShared}
use Rattle.flow_plan.specs.declared.fold_row.FoldRow.{FoldRow}
use Rattle.flow_plan.specs.Options.{HasExecution, HasSmallLeaves, AreJustThose, options_of}
use Rattle.flow_plan.specs.Sampled.{Sampled}
use Rattle.flow_reach.specs.Reach.{TellsOfEach}
use Rattle.flow_reach.proofs.ReachLemmas.{served, small_each, still_comes, with_room}
use Rattle.flow_reach.proofs.reach.may_still_come.Goals as goal

pub some_ahead-requires : goal.some_ahead-requires
some_ahead-requires c = λ s there ordered.
    let plans = c.plans.result.now in
    c.in_ok-course.ensures s.plan (record {
      rows = served c.folds.result.now plans (subst (λ (l : List Sampled). AreShared c.folds.result.now l) (sym c.plans.ensures.plans)
          (subst (λ (l : List FoldRow). AreShared l c.args.compiled.now.plans) (sym c.folds.ensures.folds) c.folds.ensures.shared)) s there;
      folded = ordered.folded;
      distinct = ordered.distinct;
      small = small_each plans (subst (λ (l : List Sampled). Each HasSmallLeaves (options_of l)) (sym c.plans.ensures.plans) c.plans.ensures.small) s there;
    })

pub returns : goal.returns
returns c = λ w f k.
    let plans = c.plans.result.now in
    let folds = c.folds-2.result.now in
    let done = has_leaf c.with_leaf-done.result in
    let out = has_leaf c.set_of-2.result in
    let shared = subst (λ (l : List Sampled). AreShared folds l) (sym c.plans.ensures.plans)
    (subst (λ (l : List FoldRow). AreShared l c.args.compiled.now.plans) (sym c.folds-2.ensures.folds) c.folds-2.ensures.shared) in
    let tells : TellsOfEach plans done out c.new-sides.result = λ s there ordered. c.new-sides.ensures s.plan.process (served folds plans shared s there) ordered.folded ordered.distinct in
    let some = c.some_ahead.ensures done out tells in
    let comes = still_comes w f (options_of plans) (subst (λ (l : List Sampled). AreJustThose HasExecution (folded_options w) (options_of l)) (sym c.plans.ensures.plans) k.plans)
    (subst (λ (l : List Sampled). Each HasSmallLeaves (options_of l)) (sym c.plans.ensures.plans) c.plans.ensures.small)
    c.args.journal.now c.args.without.now c.args.leaf done out (with_room (has_leaf c.set_of.result) done c.args.journal.now c.args.leaf c.set_of.ensures c.with_leaf-done.ensures) c.set_of-2.ensures in
    (λ yes. comes.0 (some.0 yes), λ may. some.1 (comes.1 may))
