use Rattle.flow_fold_laws.proofs.OutsideChoices.{outside_keeps_sequence, folded_circles_exclude_traces}
use Rattle.flow_fold_laws.proofs.circles.law_folded_circle_exactly_without_trace.Goals as goal

pub returns-clause-sequence : goal.returns-clause-sequence
returns-clause-sequence c = outside_keeps_sequence

pub returns-clause-excludes : goal.returns-clause-excludes
returns-clause-excludes c = folded_circles_exclude_traces
