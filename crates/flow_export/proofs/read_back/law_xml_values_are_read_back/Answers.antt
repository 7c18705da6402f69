use Rattle.flow_export.proofs.ValueLemmas.{values_read}
use Rattle.flow_export.proofs.read_back.law_xml_values_are_read_back.Goals as goal

pub returns : goal.returns
returns c = values_read
