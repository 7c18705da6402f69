use Rattle.flow_export.proofs.ReadBackLemmas.{all_read}
use Rattle.flow_export.proofs.read_back.law_csv_is_read_back.Goals as goal

pub returns : goal.returns
returns c = all_read
