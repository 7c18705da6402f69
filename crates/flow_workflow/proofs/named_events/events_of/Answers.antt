use Rattle.flow_workflow.proofs.NamedLemmas.{all_found}
use Rattle.flow_workflow.proofs.named_events.events_of.Goals as goal

pub returns-clause-named : goal.returns-clause-named
returns-clause-named c =
    all_found c.args.rules.now c.new-named.result c.note_each.new.named c.new-named.ensures.named c.new-named.ensures.none c.in_ok-note_each.ensures
