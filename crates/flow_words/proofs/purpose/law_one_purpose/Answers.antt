use Rattle.flow_words.proofs.Purposes.{one_purpose}
use Rattle.flow_words.proofs.purpose.law_one_purpose.Goals as goal

pub returns : goal.returns
returns c = one_purpose
