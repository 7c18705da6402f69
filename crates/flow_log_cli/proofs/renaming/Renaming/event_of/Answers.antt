use Rattle.flow_log_cli.proofs.NotedLemmas.{maps_told}
use Rattle.flow_log_cli.proofs.renaming.Renaming.event_of.Goals as goal

pub returns : goal.returns
returns c = λ events rows are. maps_told events rows _ _ c.args.activity.now c.get.result c.get.ensures.found c.get.ensures.absent are
