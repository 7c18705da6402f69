use Rattle.std.proofs.Common.{[]}
use Rattle.flow_laws.proofs.ClaimLemmas.{spared_are_current, spared-append, spare_of_none}
use Rattle.flow_laws.proofs.histories.law_new_epochs_spare.Goals as goal

pub returns-clause-current : goal.returns-clause-current
returns-clause-current c = λ w s epochs. spared_are_current w s [] s.claims epochs

pub returns-clause-others : goal.returns-clause-others
returns-clause-others c = spare_of_none

pub returns-clause-pieces : goal.returns-clause-pieces
returns-clause-pieces c = spared-append
