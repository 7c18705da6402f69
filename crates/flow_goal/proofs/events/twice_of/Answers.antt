use Rattle.std.proofs.Common.{inl, inr, sym, ap, ◌∙◌}
use Rattle.flow_model.specs.Process.{Process}
use Rattle.flow_goal.specs.Occurrences.{occurrence_in}
use Rattle.flow_goal.proofs.Repetitions.{first_again, none_never, none_once, passes}
use Rattle.flow_goal.proofs.events.twice_of.Goals as goal

pub returns-in-Never : goal.returns-in-Never
returns-in-Never c =
    let whole = c.occurrence_of.ensures ∙ ap (λ (g : Process). occurrence_in (passes c.args.tree.now c.args.event) g) c.goal.ensures in
    elim c.in-Never.is [
      | inl e ↦ none_never c.args.tree.now c.requires c.args.event (sym e ∙ whole)
      | inr (n, e) ↦ none_once c.args.tree.now c.requires c.args.event n (sym e ∙ whole)
    ]

pub returns-in-Again : goal.returns-in-Again
returns-in-Again c =
    let whole = c.occurrence_of.ensures ∙ ap (λ (g : Process). occurrence_in (passes c.args.tree.now c.args.event) g) c.goal.ensures in
    first_again c.args.tree.now c.requires c.args.event c.in-Again.field-0 c.in-Again.first c.in-Again.second (sym c.in-Again.is ∙ whole)
