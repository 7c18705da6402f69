use Rattle.flow_svg.proofs.LaneLemmas.{arrows_apart, takes_ends}
use Rattle.flow_svg.proofs.apart.law_arrows_stay_apart.Goals as goal

pub returns-clause-apart : goal.returns-clause-apart
returns-clause-apart c = arrows_apart

pub returns-clause-ends : goal.returns-clause-ends
returns-clause-ends c = takes_ends
