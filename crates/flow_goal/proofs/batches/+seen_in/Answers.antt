use Rattle.std.proofs.Common.{inl, inr, sym, ap, ◌∙◌}
use Rattle.flow_model.specs.Facts.{event_at}
use Rattle.flow_goal.specs.Batches.{bit_of, in_both, in_choice, place_of, seen_in}
use Rattle.flow_goal.specs.declared.goal.Goal.{Goal}
use Rattle.flow_goal.specs.Goal.{process_of}
use Rattle.flow_goal.proofs.batches.+seen_in.Goals as goal

pub returns-in-Either : goal.returns-in-Either
returns-in-Either t c =
    let part = λ (g : Goal). seen_in (λ n. bit_of (place_of c.args.places.now (event_at c.args.tree.now.labels n)) c.args.batch) (process_of g) in
    c.in_choice.ensures
    ∙ (λ i. in_choice ((c.seen_in-one.ensures ∙ ap part c.deref.ensures) i) ((c.seen_in.ensures ∙ ap part c.deref-in-Either.ensures) i))
    ∙ ap part (sym c.in-Either.is)

pub returns-in-Serial : goal.returns-in-Serial
returns-in-Serial t c =
    let part = λ (g : Goal). seen_in (λ n. bit_of (place_of c.args.places.now (event_at c.args.tree.now.labels n)) c.args.batch) (process_of g) in
    let both = c.in_both.ensures
    ∙ (λ i. in_both ((c.seen_in-one-in-Serial.ensures ∙ ap part c.deref-in-Serial.ensures) i) ((c.seen_in-in-Serial.ensures ∙ ap part c.deref-in-Serial-2.ensures) i)) in
    elim c.in-Serial.is [ inl e ↦ both ∙ ap part (sym e) | inr e ↦ both ∙ ap part (sym e) ]
