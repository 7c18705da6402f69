use Rattle.std.proofs.Common.{sym, true≢false}
use Rattle.flow_core.specs.Run.{schema, now}
use Rattle.flow_core.proofs.Labels.{other_leaf, event_leaf, not_both, none_left}
use Rattle.flow_core.proofs.run.Core.can_do_aside.Goals as goal

pub returns-in_default : goal.returns-in_default
returns-in_default c =
    let r = c.args.self.now in
    (λ yes. absurd (true≢false (sym yes)), λ can. absurd (none_left (schema r) (now r) c.args.leaf c.in_default.ensures can))

pub may_be_done-requires : goal.may_be_done-requires
may_be_done-requires c = other_leaf (schema c.args.self.now) c.args.leaf c.in-Some.label c.in-Some.ensures c.in_default-label.not-Event

pub returns-in-Event : goal.returns-in-Event
returns-in-Event c =
    let r = c.args.self.now in
    let event = event_leaf (schema r) c.args.leaf c.in-Some.label c.in-Event.field-0 c.in-Some.ensures c.in-Event.is in
    (λ yes. absurd (true≢false (sym yes)), λ can. absurd (not_both (schema r) c.args.leaf event can.0))
