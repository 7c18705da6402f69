-- What is told of a log: each case has the sequence of events that its rows stand for, and each sequence its verdict.
use Rattle.std.specs.Prelude.{◌≡◌, ◌++◌, ℕ, List, Option, length, map, count_by}
use Rattle.std.proofs.Common.{Vec, Global}
use Rattle.flow_workflow.specs.Definition.{Definition}
use Rattle.flow_event_log.specs.Logs.{activities_in, cases_in, events_in}
use Rattle.flow_event_log.specs.Grouped.{entry_of, AreCases}
use Rattle.flow_conformance.specs.declared.sums.Standing.{Standing}
use Rattle.flow_conformance.specs.Judged.{stands, AreFindings}
use Rattle.flow_log_cli.specs.Activities.{StandFor}
use Rattle.flow_log_cli.specs.Judging.{IsVerdict}
use Rattle.flow_log_cli.specs.Maps.{AreGoodRows, AreMapRows}
use Rattle.flow_log_cli.specs.declared.telling.Told.{Told}

-- what texts say
abbrev pub texts_of : List (Vec ℕ Global) → List (List ℕ)
texts_of texts = map (λ (text : Vec ℕ Global). text.items) texts

pub record IsTold (d : Definition) (map_text : Option (List ℕ)) (told : Told) : Type 0 where
  pub rows : List (List (List ℕ))
  pub of_map : AreMapRows map_text rows
  pub good : AreGoodRows d.events rows
  -- what each activity stands for, by its number
  pub events_of : List ℕ
  pub stand : StandFor d.events rows (activities_in told.reading.log) events_of
  pub cases : AreCases (length (cases_in told.reading.log)) (map (entry_of events_of) (events_in told.reading.log)) told.found.cases.of_cases.items
      told.found.cases.sequences.items
  pub verdicts : AreFindings (IsVerdict d) told.found.cases.sequences.items told.found.of_sequences.items
  -- what events are called, by their numbers
  pub labels : texts_of told.labels.names.items ≡ d.events ++ activities_in told.reading.log

-- how many cases have that standing
abbrev pub cases_of : Told → Standing → ℕ
cases_of told standing = count_by (stands told.found.of_sequences.items standing) told.found.cases.of_cases.items
