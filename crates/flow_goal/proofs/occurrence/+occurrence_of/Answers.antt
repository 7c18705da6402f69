use Rattle.std.proofs.Common.{inl, inr, sym, ap, ◌∙◌}
use Rattle.flow_goal.specs.declared.goal.Goal.{Goal}
use Rattle.flow_goal.specs.Goal.{process_of}
use Rattle.flow_goal.specs.Occurrences.{in_both, in_choice, occurrence_in}
use Rattle.flow_goal.proofs.Repetitions.{passes}
use Rattle.flow_goal.proofs.occurrence.+occurrence_of.Goals as goal

pub returns-in-Either : goal.returns-in-Either
returns-in-Either t c =
    let part = λ (g : Goal). occurrence_in (passes c.args.tree.now c.args.event) (process_of g) in
    c.in_choice.ensures
    ∙ (λ i. in_choice ((c.occurrence_of-one.ensures ∙ ap part c.deref.ensures) i) ((c.occurrence_of.ensures ∙ ap part c.deref-in-Either.ensures) i))
    ∙ ap part (sym c.in-Either.is)

pub returns-in-Serial : goal.returns-in-Serial
returns-in-Serial t c =
    let part = λ (g : Goal). occurrence_in (passes c.args.tree.now c.args.event) (process_of g) in
    let both = c.in_both.ensures
    ∙ (λ i. in_both ((c.occurrence_of-one-in-Serial.ensures ∙ ap part c.deref-in-Serial.ensures) i) ((c.occurrence_of-in-Serial.ensures ∙ ap part c.deref-in-Serial-2.ensures) i)) in
    elim c.in-Serial.is [ inl e ↦ both ∙ ap part (sym e) | inr e ↦ both ∙ ap part (sym e) ]
