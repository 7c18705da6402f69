use Rattle.std.proofs.Common.{◌↔◌, subst, sym}
use Rattle.std.proofs.lemmas.Result.{IfOk-weaker}
use Rattle.flow_model.specs.Constraint.{all_of}
use Rattle.flow_model.specs.Folding.{named_events}
use Rattle.flow_model.specs.Lists.{◌∈◌}
use Rattle.flow_goal.proofs.FoldsLemmas.{folds_by_members}
use Rattle.flow_workflow.specs.Rule.{rules_of}
use Rattle.flow_excise.proofs.folded_choices.folds_by.Goals as goal

pub returns : goal.returns
returns c =
    let named = named_events (all_of (rules_of c.args.rules.now)) in
    IfOk-weaker c.new.result _ _
    (λ folds h. folds_by_members c.args.tree.now c.deref.result.now named folds
    (λ e. subst (λ l. (e ∈ l) ↔ (e ∈ named)) (sym c.deref.ensures.value) (c.in_ok-events.ensures.named e)) h)
    c.new.ensures
