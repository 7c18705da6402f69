use Rattle.std.proofs.Common.{◌∙◌, inl, inr, sym, true≢false}
use Rattle.flow_core.specs.Run.{schema, now}
use Rattle.flow_core.proofs.Labels.{other_leaf, event_leaf, not_both, none_steps, other_steps, other_not}
use Rattle.flow_core.proofs.run.Core.can_step.Goals as goal

pub returns-in_default : goal.returns-in_default
returns-in_default c =
    let r = c.args.self.now in
    (λ yes. absurd (true≢false (sym yes)), λ can. absurd (none_steps (schema r) (now r) c.args.leaf c.in_default.ensures can))

pub may_be_done-requires : goal.may_be_done-requires
may_be_done-requires c = other_leaf (schema c.args.self.now) c.args.leaf c.in-Some.label c.in-Some.ensures c.in_default-label.not-Event

pub returns-in-Event : goal.returns-in-Event
returns-in-Event c =
    let r = c.args.self.now in
    let event = event_leaf (schema r) c.args.leaf c.in-Some.label c.in-Event.field-0 c.in-Some.ensures c.in-Event.is in
    (λ yes. inl (c.can_take.ensures.0 yes), λ can. elim can [ inl take ↦ c.can_take.ensures.1 take | inr done ↦ absurd (not_both (schema r) c.args.leaf event done.0.0) ])

pub returns-then-label_holds : goal.returns-then-label_holds
returns-then-label_holds c =
    let r = c.args.self.now in
    let other = other_leaf (schema r) c.args.leaf c.in-Some.label c.in-Some.ensures c.in_default-label.not-Event in
    other_steps (schema r) (now r) c.args.leaf c.in-Some.label c.may_be_done.result c.in-Some.ensures other (c.label_holds.ensures.0 c.if-label_holds.true) c.may_be_done.ensures

pub returns-else-label_holds : goal.returns-else-label_holds
returns-else-label_holds c =
    let r = c.args.self.now in
    let other = other_leaf (schema r) c.args.leaf c.in-Some.label c.in-Some.ensures c.in_default-label.not-Event in (
      λ yes. absurd (true≢false (sym yes ∙ c.if-label_holds.false)),
      λ can. absurd (other_not (schema r) (now r) c.args.leaf c.in-Some.label c.in-Some.ensures other (λ holds. true≢false (sym (c.label_holds.ensures.1 holds) ∙ c.if-label_holds.false)) can),
    )
