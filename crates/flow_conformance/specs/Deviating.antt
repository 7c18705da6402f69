-- What is found of a case, and the event at which it deviates.
use Rattle.std.specs.Prelude.{ℕ, List, Option, Some, None, slice_get}
use Rattle.std.proofs.Common.{Vec, Global}
use Rattle.flow_conformance.specs.declared.judge.Verdict.{Verdict}
use Rattle.flow_conformance.specs.declared.judge.Verdict.TheVariants.{Execution, Front, Deviates, Unknown, Undecided}
use Rattle.flow_conformance.specs.declared.cause.Finding.{Finding}
use Rattle.flow_conformance.specs.declared.findings.Findings.{Findings}

-- what stands at a place, if there is a place
abbrev pub at_place : {A : Type 0} → List A → Option ℕ → Option A
at_place xs None = None
at_place xs (Some place) = slice_get xs place

-- what is found of the sequence of a case
abbrev pub finding_of : Findings → ℕ → Option Finding
finding_of found case = at_place found.of_sequences.items (slice_get found.cases.of_cases.items case)

-- the events of a case
abbrev pub events_of : Findings → ℕ → Option (Vec ℕ Global)
events_of found case = at_place found.cases.sequences.items (slice_get found.cases.of_cases.items case)

-- the place at which events deviate
abbrev pub place_in : Verdict → Option ℕ
place_in Execution = None
place_in Front = None
place_in (Deviates at) = Some at
place_in (Unknown at) = Some at
place_in Undecided = None

abbrev pub found_place : Option Finding → Option ℕ
found_place None = None
found_place (Some finding) = place_in finding.verdict

abbrev pub event_in : Option ℕ → Option (Vec ℕ Global) → Option ℕ
event_in None events = None
event_in (Some place) None = None
event_in (Some place) (Some events) = slice_get events.items place

-- the event of the case at that place
abbrev pub deviating_event : Findings → ℕ → Option ℕ
deviating_event found case = event_in (found_place (finding_of found case)) (events_of found case)
