use Rattle.std.proofs.Common.{◌≡◌, subst, sym}
use Rattle.flow_model.specs.Process.{IsChoiceFree}
use Rattle.flow_model.specs.Folding.{outside_choices}
use Rattle.flow_model.specs.Resolution.{ChoiceOption}
use Rattle.flow_fold_laws.proofs.OutsideChoices.{outside_choice_free}
use Rattle.flow_plan.specs.Options.{HasExecution, option_of}
use Rattle.flow_plan.specs.Planned.{pairs_of}
use Rattle.flow_sample.proofs.SideLemmas.{none_outside}
use Rattle.flow_sample.proofs.sample.circle_outside.Goals as goal

pub run_without_choices-requires : goal.run_without_choices-requires
run_without_choices-requires c = subst IsChoiceFree (sym c.in-Ok.ensures.process) (outside_choice_free c.args.plan.now.process)

pub unreachable-requires : goal.unreachable-requires
unreachable-requires c =
    let q = c.args.plan.now.process in
    let pairs = pairs_of c.args.plan.now.tokens in
    let outside : ChoiceOption = record { resolution = outside_choices q; order = pairs } in
    let same : option_of c.in-Ok.outside ≡ outside = λ i. record { resolution = c.in-Ok.ensures.process i; order = pairs_of (c.in-Ok.ensures.tokens i) } in
    none_outside q pairs c.tokens-tokens.ensures.ordered c.requires
    (subst HasExecution same (c.in-Ok-run_without_choices.field-0.items, c.in-Ok-run_without_choices.ensures.ok))
