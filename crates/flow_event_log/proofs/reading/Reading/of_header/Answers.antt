use Rattle.flow_event_log.proofs.TakenLemmas.{no_names}
use Rattle.flow_event_log.proofs.reading.Reading.of_header.Goals as goal

pub returns-in_ok-with_key-in-Ok-clause-names : goal.returns-in_ok-with_key-in-Ok-clause-names
returns-in_ok-with_key-in-Ok-clause-names c = (no_names _ c.in_ok-with_key-in-Ok.ensures.cases, no_names _ c.in_ok-with_key-in-Ok.ensures.activities)
