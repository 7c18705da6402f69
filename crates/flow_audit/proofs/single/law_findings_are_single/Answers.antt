use Rattle.flow_audit.proofs.FindingLemmas.{finding_single, findings_single}
use Rattle.flow_audit.proofs.single.law_findings_are_single.Goals as goal

pub returns-clause-each : goal.returns-clause-each
returns-clause-each c = finding_single

pub returns-clause-all : goal.returns-clause-all
returns-clause-all c = findings_single
