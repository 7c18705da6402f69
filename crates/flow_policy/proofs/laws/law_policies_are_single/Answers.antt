use Rattle.flow_policy.proofs.Single.{policies_are_single}
use Rattle.flow_policy.proofs.laws.law_policies_are_single.Goals as goal

pub returns : goal.returns
returns c = policies_are_single
