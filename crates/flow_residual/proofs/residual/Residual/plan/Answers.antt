use Rattle.std.proofs.Common.{◌≡◌, ◌<◌, ◌∙◌, length, Some, slice_get, sym, ap, subst}
use Rattle.flow_model.proofs.Lists.{each_member}
use Rattle.flow_plan.specs.Planned.{Planned}
use Rattle.flow_plan.specs.Options.{options_of, option_of}
use Rattle.flow_residual.specs.Remaining.{Remaining}
use Rattle.flow_residual.specs.Telling.{IsOrderedOption}
use Rattle.flow_residual.proofs.OptionLemmas.{option_member, plan_at, length-options}
use Rattle.flow_residual.proofs.residual.Residual.plan.Goals as goal

pub returns-clause-ordered : goal.returns-clause-ordered
returns-clause-ordered c =
    let plans = c.self.inside.plans.items in
    let below : c.args.place < length (options_of plans) = subst (λ (r : Remaining). c.args.place < length r.options) (sym c.self.view_is) c.requires in
    let there = option_member plans c.args.place c.index.result.now (subst (λ n. c.args.place < n) (length-options plans) below) c.index.ensures in
    subst (λ (p : Planned). IsOrderedOption (option_of p)) (sym c.plan.ensures)
    (each_member IsOrderedOption (options_of plans) c.self.invariant.kept.ordered (option_of c.index.result.now.plan) there)

pub returns-clause-at : goal.returns-clause-at
returns-clause-at c =
    let plans = c.self.inside.plans.items in
    let below : c.args.place < length (options_of plans) = subst (λ (r : Remaining). c.args.place < length r.options) (sym c.self.view_is) c.requires in
    let at = plan_at plans c.args.place c.index.result.now (subst (λ n. c.args.place < n) (length-options plans) below) c.index.ensures in
    subst (λ (r : Remaining). slice_get r.options c.args.place ≡ Some (option_of c.plan.result.now)) c.self.view_is
    (at ∙ ap (λ (p : Planned). Some (option_of p)) (sym c.plan.ensures))
