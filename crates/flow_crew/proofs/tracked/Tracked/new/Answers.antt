use Rattle.flow_core.specs.Run.{schema}
use Rattle.flow_crew.proofs.Endings.{not_yet_kept}
use Rattle.flow_crew.proofs.tracked.Tracked.new.Goals as goal

pub stand-next-requires : goal.stand-next-requires
stand-next-requires c = λ leaf. not_yet_kept (schema c.args.core) _ leaf c.requires
