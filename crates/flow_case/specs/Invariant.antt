-- What the run of a case keeps: its rules let each of its entries.
use Rattle.flow_core.specs.Run.{schema}
use Rattle.flow_case.specs.declared.ruled.RuledRun.TheInside.{Inside}
use Rattle.flow_case.specs.Rules.{KeepsRules}
use Rattle.flow_case.specs.Ruled.{Ruled}

abbrev pub ruled_by : Inside → Ruled
ruled_by c = record { desk = c.desk; rules = c.rules }

abbrev pub IsGoverned : Inside → Type 0
IsGoverned c = KeepsRules (schema c.desk.run) c.rules c.desk.run.history
