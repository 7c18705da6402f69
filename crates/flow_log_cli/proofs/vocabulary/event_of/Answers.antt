use Rattle.flow_log_cli.proofs.StandLemmas.{by_name}
use Rattle.flow_log_cli.proofs.vocabulary.event_of.Goals as goal

pub returns-in-None : goal.returns-in-None
returns-in-None c =
    let events = c.args.vocabulary.now.events.now in
    λ rows are. by_name events rows c.args.place c.args.activity.now _ c.event_by_name.result c.event_by_name.ensures (c.in-None.ensures events rows are)
