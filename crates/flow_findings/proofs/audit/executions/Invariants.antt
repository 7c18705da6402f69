use Rattle.std.proofs.Common.{◌≡◌, ◌≤◌, ◌+◌, drop}
use Rattle.flow_findings.specs.Auditing.{executions}
use Rattle.flow_findings.proofs.audit.executions.Given as goal

abbrev pub invariant-loop-finding : goal.invariant-loop-finding
invariant-loop-finding l = (l.count ≤ l.finding-index) × (l.count + executions (drop l.finding-index l.found) ≡ executions l.found)
