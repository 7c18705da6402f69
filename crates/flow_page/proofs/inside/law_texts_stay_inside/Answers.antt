use Rattle.flow_page.proofs.ReadLemmas.{read_back}
use Rattle.flow_page.proofs.inside.law_texts_stay_inside.Goals as goal

pub returns : goal.returns
returns c = read_back
