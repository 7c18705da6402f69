use Rattle.flow_cli_laws.proofs.Whole.{outputs_are_single}
use Rattle.flow_cli_laws.proofs.Faults.{faults_are_told}
use Rattle.flow_cli_laws.proofs.Once.{checks_once, traces_once, audits_once, sessions_once, duty_sessions_once}
use Rattle.flow_cli_laws.proofs.laws.law_outputs_are_single.Goals as goal

pub returns-clause-outputs : goal.returns-clause-outputs
returns-clause-outputs c = outputs_are_single c.law_one_purpose.ensures c.law_policies_are_single.ensures c.law_user_sessions_are_single.ensures

pub returns-clause-faults : goal.returns-clause-faults
returns-clause-faults c = faults_are_told

pub returns-clause-checks : goal.returns-clause-checks
returns-clause-checks c = checks_once

pub returns-clause-traces : goal.returns-clause-traces
returns-clause-traces c = traces_once

pub returns-clause-audits : goal.returns-clause-audits
returns-clause-audits c = audits_once

pub returns-clause-sessions : goal.returns-clause-sessions
returns-clause-sessions c = sessions_once

pub returns-clause-duties : goal.returns-clause-duties
returns-clause-duties c = duty_sessions_once c.law_user_sessions_are_single.ensures
