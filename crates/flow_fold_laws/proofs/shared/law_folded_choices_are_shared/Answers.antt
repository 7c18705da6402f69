use Rattle.std.proofs.Common.{IsTrue}
use Rattle.flow_laws.proofs.FoldingLemmas.{folds_to}
use Rattle.flow_fold_laws.proofs.SharedFolds.{shared}
use Rattle.flow_fold_laws.proofs.StayingChoices.{staying_choices_serve_each}
use Rattle.flow_fold_laws.proofs.shared.law_folded_choices_are_shared.Goals as goal

pub returns-clause-said : goal.returns-clause-said
returns-clause-said c = λ apart says only g q d m. shared apart (λ a b n. IsTrue (says a b n)) only g q (folds_to apart g q m) d

pub returns-clause-listed : goal.returns-clause-listed
returns-clause-listed c = staying_choices_serve_each
