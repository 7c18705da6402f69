use Rattle.flow_laws.proofs.CircleOrTrace.{circles_exclude_traces}
use Rattle.flow_laws.proofs.circles.law_circle_exactly_without_trace.Goals as goal

pub returns-clause-excludes : goal.returns-clause-excludes
returns-clause-excludes c = circles_exclude_traces
