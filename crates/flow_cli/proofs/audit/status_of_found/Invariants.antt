use Rattle.std.proofs.Common.{◌≡◌, drop}
use Rattle.flow_cli.specs.Finding.{status_of_found}
use Rattle.flow_cli.proofs.audit.status_of_found.Given as goal

abbrev pub invariant-loop-finding : goal.invariant-loop-finding
invariant-loop-finding l = status_of_found l.found ≡ status_of_found (drop l.finding-index l.found)
