use Rattle.flow_keep.proofs.ToldLemmas.{kept_once}
use Rattle.flow_keep.proofs.told.law_records_tell_entries.Goals as goal

pub returns-clause-histories : goal.returns-clause-histories
returns-clause-histories c = kept_once
