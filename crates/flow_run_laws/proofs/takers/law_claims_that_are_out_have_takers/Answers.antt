use Rattle.flow_run_laws.proofs.ClaimTakersLemmas.{claims_out_have_takers, leaves_have_one_taker, takers_have_roles}
use Rattle.flow_run_laws.proofs.takers.law_claims_that_are_out_have_takers.Goals as goal

pub returns-clause-claims : goal.returns-clause-claims
returns-clause-claims c = claims_out_have_takers

pub returns-clause-leaves : goal.returns-clause-leaves
returns-clause-leaves c = leaves_have_one_taker

pub returns-clause-roles : goal.returns-clause-roles
returns-clause-roles c = takers_have_roles
