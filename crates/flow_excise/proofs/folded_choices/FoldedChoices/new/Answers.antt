use Rattle.std.proofs.Common.{◌≡◌, ◌≤◌, ◌∙◌, ℕ, Bool, false, ap, get_or, subst, sym}
use Rattle.flow_model.specs.declared.limits.TheConstants.{MOST_RESOLUTIONS}
use Rattle.flow_model.specs.Constraint.{all_of}
use Rattle.flow_model.specs.Folding.{folded_count, named_events}
use Rattle.flow_goal.specs.Choices.{AreChoicesOf}
use Rattle.flow_goal.specs.Folds.{named_by}
use Rattle.flow_workflow.specs.Rule.{rules_of}
use Rattle.flow_excise.proofs.folded_choices.FoldedChoices.new.Goals as goal

pub returns-clause-prepared : goal.returns-clause-prepared
returns-clause-prepared c =
    let tree = c.args.tree.now in
    let named = named_events (all_of (rules_of c.args.rules.now)) in
    let folds = c.in_ok-folds.folds in
    let so : named_by tree.labels named ≡ (λ (leaf : ℕ). get_or folds.named.items leaf false) = λ i leaf. sym (c.in_ok-folds.ensures.folds.named leaf) i in
    let (few, counted) = c.in_ok-count.ensures named c.in_ok-folds.ensures.folds in
    record {
      prepared = subst (λ (apart : ℕ → Bool). AreChoicesOf apart tree.process c.in_ok-prepared.prepared) so (c.in_ok-prepared.ensures named c.in_ok-folds.ensures.folds);
      few = subst (λ (apart : ℕ → Bool). folded_count apart tree.process ≤ MOST_RESOLUTIONS) so few;
      counted = counted ∙ ap (λ (apart : ℕ → Bool). folded_count apart tree.process) so;
    }
