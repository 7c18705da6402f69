use Rattle.flow_core.specs.Run.{schema}
use Rattle.flow_export.proofs.JournalLemmas.{journal_is}
use Rattle.flow_export.proofs.events.events_of.Goals as goal

pub returns-clause-journal : goal.returns-clause-journal
returns-clause-journal c = let r = c.args.core.now in journal_is (schema r) r.history c.in_ok-events.events.items c.in_ok-events.ensures
