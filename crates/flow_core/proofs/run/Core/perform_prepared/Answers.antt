use Rattle.std.proofs.Common.{rules, false, refl, sym, ap, true≢false}
use Rattle.flow_model.specs.Facts.{HoldsAt}
use Rattle.flow_model.specs.Run.{database, CanDoAside}
use Rattle.flow_core.specs.Run.{Run, schema, now}
use Rattle.flow_core.proofs.Entries.{ended_inside}
use Rattle.flow_core.proofs.Labels.{past, other_leaf, event_leaf, holds_at, label_at}
use Rattle.flow_core.proofs.run.Core.perform_prepared.Goals as goal

pub returns-in_default : goal.returns-in_default
returns-in_default c =
    let going = ended_inside c.self.inside c.self.invariant c.args.self.now c.self.view_is false c.if-self.false in
    (going, past (schema c.args.self.now).labels c.args.leaf c.in_default.ensures, refl)

pub returns-in-Event : goal.returns-in-Event
returns-in-Event c =
    let going = ended_inside c.self.inside c.self.invariant c.args.self.now c.self.view_is false c.if-self.false in
    (going, event_leaf (schema c.args.self.now) c.args.leaf c.in-Some.label c.in-Event.field-0 c.in-Some.ensures c.in-Event.is, refl)

pub returns-then-not-has_steps : goal.returns-then-not-has_steps
returns-then-not-has_steps c =
    let going = ended_inside c.self.inside c.self.invariant c.args.self.now c.self.view_is false c.if-self.false in
    let other = other_leaf (schema c.args.self.now) c.args.leaf c.in-Some.label c.in-Some.ensures c.in_default-label.not-Event in
    (going, other, (λ left. true≢false (sym (c.if-not-has_steps.ensures.1 left)), ap (λ (r : Run). r.limit) c.self.view_is), refl)

pub may_be_done-requires : goal.may_be_done-requires
may_be_done-requires c = other_leaf (schema c.args.self.now) c.args.leaf c.in-Some.label c.in-Some.ensures c.in_default-label.not-Event

pub record_did-requires-clause-label : goal.record_did-requires-clause-label
record_did-requires-clause-label c = sym c.in-Some.ensures

pub record_did-requires-clause-holds : goal.record_did-requires-clause-holds
record_did-requires-clause-holds c = c.if-not-label_holds.ensures.0 refl

pub record_did-requires-clause-open : goal.record_did-requires-clause-open
record_did-requires-clause-open c = ended_inside c.self.inside c.self.invariant c.args.self.now c.self.view_is false c.if-self.false

pub record_did-requires-clause-steps : goal.record_did-requires-clause-steps
record_did-requires-clause-steps c = c.if-not-has_steps.ensures.0 refl

pub record_did-requires-clause-enabled : goal.record_did-requires-clause-enabled
record_did-requires-clause-enabled c =
    let can : CanDoAside (schema c.args.self.now) (now c.args.self.now) c.args.leaf = search rules depth 2 parts 0 fits 100 in can

pub returns : goal.returns
returns c =
    let r = c.args.self.now in
    let going = ended_inside c.self.inside c.self.invariant r c.self.view_is false c.if-self.false in
    let can : CanDoAside (schema r) (now r) c.args.leaf = search rules depth 2 parts 0 fits 100 in
    let holds = holds_at (schema r).labels (database (schema r) (now r)) c.args.leaf c.in-Some.label c.in-Some.ensures (c.if-not-label_holds.ensures.0 refl) in
    (going, c.if-not-has_steps.ensures.0 refl, can, holds, c.record_did.ensures)

pub returns-then-not-label_holds : goal.returns-then-not-label_holds
returns-then-not-label_holds c =
    let r = c.args.self.now in
    let going = ended_inside c.self.inside c.self.invariant r c.self.view_is false c.if-self.false in
    let can : CanDoAside (schema r) (now r) c.args.leaf = search rules depth 2 parts 0 fits 100 in
    let lacks = λ (there : HoldsAt (schema r).labels (database (schema r) (now r)) c.args.leaf).
    true≢false (sym (c.if-not-label_holds.ensures.1 (label_at (schema r).labels (database (schema r) (now r)) c.args.leaf c.in-Some.label c.in-Some.ensures there))) in
    (going, c.if-not-has_steps.ensures.0 refl, can, lacks, refl)

pub returns-then-not-may_be_done : goal.returns-then-not-may_be_done
returns-then-not-may_be_done c =
    let r = c.args.self.now in
    let going = ended_inside c.self.inside c.self.invariant r c.self.view_is false c.if-self.false in
    let other = other_leaf (schema r) c.args.leaf c.in-Some.label c.in-Some.ensures c.in_default-label.not-Event in
    let cannot : ¬ (CanDoAside (schema r) (now r) c.args.leaf) = search rules depth 2 parts 0 fits 100 in
    (going, other, c.if-not-has_steps.ensures.0 refl, cannot, refl)
