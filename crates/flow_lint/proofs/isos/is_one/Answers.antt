use Rattle.std.proofs.Common.{ap, sym, ◌∙◌}
use Rattle.flow_lint.specs.Goals.{is_one}
use Rattle.flow_lint.proofs.Named.{shape_of-Name, told_event}
use Rattle.flow_lint.proofs.isos.is_one.Goals as goal

pub returns-in-Name : goal.returns-in-Name
returns-in-Name c =
    let events = c.args.workflow.now.events in
    c.is_some.ensures ∙ told_event events c.in-Name.name c.event_number.result c.event_number.ensures.none c.event_number.ensures.place
    ∙ ap (is_one events) (sym (shape_of-Name c.args.form.now c.in-Name.name c.in-Name.is))
