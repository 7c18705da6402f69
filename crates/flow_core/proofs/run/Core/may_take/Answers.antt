use Rattle.std.proofs.Common.{rules, ◌<◌, length, refl, sym, ap, true≢false}
use Rattle.flow_model.specs.Run.{CanTake}
use Rattle.flow_core.specs.Run.{Run, schema, now, IsUncommitted}
use Rattle.flow_core.proofs.Labels.{leaf_of_event}
use Rattle.flow_core.proofs.run.Core.may_take.Goals as goal

pub returns-in_default : goal.returns-in_default
returns-in_default c =
    let going : IsUncommitted c.args.self.now = search rules depth 2 parts 0 fits 100 in
    let within : c.args.leaf < length (schema c.args.self.now).labels = search rules depth 2 parts 0 fits 100 in
    (going, (within, sym c.in_default.ensures))

pub returns-then-not-has_steps : goal.returns-then-not-has_steps
returns-then-not-has_steps c =
    let going : IsUncommitted c.args.self.now = search rules depth 2 parts 0 fits 100 in
    let event = leaf_of_event (schema c.args.self.now) c.args.leaf c.in-Some.event c.in-Some.ensures in
    (going, event, (λ left. true≢false (sym (c.if-not-has_steps.ensures.1 left)), ap (λ (r : Run). r.limit) c.self.view_is))

pub can_take-requires : goal.can_take-requires
can_take-requires c =
    leaf_of_event (schema c.args.self.now) c.args.leaf c.in-Some.event c.in-Some.ensures

pub returns : goal.returns
returns c =
    let r = c.args.self.now in
    let going : IsUncommitted r = search rules depth 2 parts 0 fits 100 in
    let can : CanTake (schema r) (now r) c.args.leaf = search rules depth 2 parts 0 fits 100 in
    ((going, c.if-not-has_steps.ensures.0 refl, can), sym c.in-Some.ensures)
