-- What the verdict on a sequence of events says of a workflow.
use Rattle.std.specs.Prelude.{◌<◌, ◌≤◌, ℕ, List, length, slice_index}
use Rattle.flow_workflow.specs.Definition.{Definition, schema_of}
use Rattle.flow_log.specs.Fits.{FitsWhole, FitsFront, FitsUpTo}
use Rattle.flow_log.specs.declared.verdict.Fit.{Fit}
use Rattle.flow_log.specs.declared.verdict.Fit.TheVariants as fit
use Rattle.flow_conformance.specs.declared.judge.Verdict.{Verdict}
use Rattle.flow_conformance.specs.declared.judge.Verdict.TheVariants as verdict

-- some execution has just these events; none has, and some possible list has; or the first events that no possible list has, and
-- whether the last of them is an event of the workflow
abbrev pub IsVerdict : Definition → List ℕ → Verdict → Type 0
IsVerdict d events verdict.Execution = FitsWhole (schema_of d) events
IsVerdict d events verdict.Front = FitsFront (schema_of d) events × ¬ (FitsWhole (schema_of d) events)
IsVerdict d events (verdict.Deviates at) = FitsUpTo (schema_of d) events at × (slice_index events at < length d.events)
IsVerdict d events (verdict.Unknown at) = FitsUpTo (schema_of d) events at × (length d.events ≤ slice_index events at)
IsVerdict d events verdict.Undecided = Unit {0}

-- a fit without its list
abbrev pub verdict_of_fit : Fit → Verdict
verdict_of_fit (fit.Execution list) = verdict.Execution
verdict_of_fit (fit.Front list) = verdict.Front
verdict_of_fit (fit.Deviates at) = verdict.Deviates at
verdict_of_fit (fit.Unknown at) = verdict.Unknown at
verdict_of_fit fit.Undecided = verdict.Undecided
