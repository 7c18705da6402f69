use Rattle.flow_facts.proofs.JournalLabels.{replay-labels_at, labels_at-take}
use Rattle.flow_facts.proofs.journals.law_replaying_is_performing.Goals as goal

pub returns : goal.returns
returns c = record { replaying = replay-labels_at; fronts = labels_at-take }
