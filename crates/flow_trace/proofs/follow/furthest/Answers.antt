use Rattle.flow_model.proofs.Lists.{each_member}
use Rattle.flow_model.proofs.MadeLists.{mem-map}
use Rattle.flow_plan.specs.Options.{HasSmallLeaves, option_of, options_of}
use Rattle.flow_plan.specs.Sampled.{Sampled}
use Rattle.flow_residual.specs.Telling.{AreServing}
use Rattle.flow_residual.proofs.Starting.{serving_of}
use Rattle.flow_trace.proofs.follow.furthest.Goals as goal

pub follow_each-requires : goal.follow_each-requires
follow_each-requires c s there ordered =
    let os = options_of c.args.plans.now in
    let o = option_of s.plan in
    let member = mem-map (λ (t : Sampled). option_of t.plan) s c.args.plans.now there in
    c.in_ok-course.ensures s.plan (record {
      rows = each_member (AreServing c.args.folds.now) os (serving_of c.args.folds.now c.args.plans.now c.requires.shared) o member;
      folded = ordered.folded;
      distinct = ordered.distinct;
      small = each_member HasSmallLeaves os c.requires.small o member;
    })
