use Rattle.std.proofs.Common.{sym, ◌∙◌}
use Rattle.flow_goal.proofs.Writing.{ok_taken}
use Rattle.flow_workflow.proofs.NamedLemmas.{noted_new}
use Rattle.flow_workflow.proofs.named_events.NamedEvents.note.Goals as goal

pub returns : goal.returns
returns c =
    ok_taken c.add.result _ _ c.add.ensures.added
    (λ added. noted_new c.args.event c.args.self.now (record { set = c.add.new.self; events = c.push.new.self }) (sym c.has.ensures ∙ c.if-has.false) c.in_ok-push.ensures.items added)
