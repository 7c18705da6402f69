use Rattle.std.proofs.Common.{◌≡◌, drop}
use Rattle.flow_view.specs.Drawn.{number_of, number_from}
use Rattle.flow_view.specs.Flows.{names_in}
use Rattle.flow_view.proofs.flows.Flows.number_of.Given as goal

abbrev pub invariant-loop-number : goal.invariant-loop-number
invariant-loop-number l = number_of (names_in l.self) l.name ≡ number_from l.number (drop l.number (names_in l.self)) l.name
