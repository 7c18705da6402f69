-- What a mode finds, with its status and its text.
use Rattle.std.specs.Prelude.{◌≡◌, ℕ, List, [], ◌∷◌, ◌++◌, Result, Ok, Err, codes}
use Rattle.serde_json.specs.Written.{compact_text}
use Rattle.flow_model.specs.Verdict as model
use Rattle.flow_text.specs.Printed.{printed}
use Rattle.flow_workflow.specs.Definition.{Definition}
use Rattle.flow_plan.specs.declared.counts.Counts.{Counts}
use Rattle.flow_core.specs.Run.{Run}
use Rattle.flow_trace.specs.declared.checked.Checked.{Checked}
use Rattle.flow_trace.specs.declared.checked.Checked.TheVariants.{Execution}
use Rattle.flow_verify.specs.declared.answers.Verified.{Verified}
use Rattle.flow_verify.specs.declared.answers.Verified.TheVariants.{Holds, Fails}
use Rattle.flow_verify.specs.declared.answers.Redundancy.{Redundancy}
use Rattle.flow_verify.specs.declared.answers.Redundancy.TheVariants.{Redundant, Needed}
use Rattle.flow_audit.specs.declared.finding.Finding as audit
use Rattle.flow_audit.specs.declared.finding.Finding.TheVariants as found_as
use Rattle.flow_gen.specs.Generated as gen
use Rattle.flow_findings.specs.declared.refused.Refused.{Refused}
use Rattle.flow_findings.specs.Refusing.{refused_text}
use Rattle.flow_findings.specs.Checking.{check_text}
use Rattle.flow_findings.specs.Judging.{checked_text, verified_text, redundancy_text}
use Rattle.flow_findings.specs.Auditing.{audit_text}
use Rattle.flow_reply.specs.declared.summary.Summary.{Summary}
use Rattle.flow_reply.specs.Conclusion.{verdict_text}
use Rattle.flow_reply.specs.Summary.{summary_object}
use Rattle.flow_front.specs.declared.status.Status.{Status}
use Rattle.flow_front.specs.declared.status.Status.TheVariants.{Fine, No}
use Rattle.flow_front.specs.declared.output.Output.{Output}
use Rattle.flow_front.specs.declared.stop.Stop.{Stop}
use Rattle.flow_front.specs.Status.{status_of}
use Rattle.flow_front.specs.Stages.{Comes}
use Rattle.flow_reply.specs.Verdict.{ended, report_of}
use Rattle.flow_reply.specs.Session.{Driven, driven_text}

pub data Finding : Type 0 where
  -- some execution of the workflow meets every constraint
  consistent : Definition → Counts → Finding
  -- a session was driven, of a caller or of users
  driven : Driven → Finding
  -- workers made a run, which came to a verdict
  ran : Run → model.Verdict → Finding
  -- what a list of leaves is
  traced : Checked → Finding
  -- what each of many journals is
  audited : List audit.Finding → Finding
  -- whether a property of the workflow holds, and whether one of its constraints follows from the others
  verified : Definition → Verified → Finding
  tried : Definition → Redundancy → Finding
  -- the workflow of a seed and a size
  generated : ℕ → ℕ → Finding
  -- the numbers of a run of it, which came to a verdict
  summarized : Summary → model.Verdict → Finding

-- ---- statuses

abbrev pub status_of_checked : Checked → Status
status_of_checked Execution = Fine
status_of_checked other = No

-- fine where each journal is an execution
abbrev pub status_of_found : List audit.Finding → Status
status_of_found [] = Fine
status_of_found (found_as.Checked Execution ∷ found) = status_of_found found
status_of_found (other ∷ found) = No

abbrev pub status_of_verified : Verified → Status
status_of_verified Holds = Fine
status_of_verified (Fails t) = No

abbrev pub status_of_redundancy : Redundancy → Status
status_of_redundancy Redundant = Fine
status_of_redundancy (Needed t) = No

abbrev pub finding_status : Finding → Status
finding_status (consistent w counts) = Fine
finding_status (driven d) = ended d.verdict
finding_status (ran last verdict) = ended verdict
finding_status (traced checked) = status_of_checked checked
finding_status (audited found) = status_of_found found
finding_status (verified w told) = status_of_verified told
finding_status (tried w told) = status_of_redundancy told
finding_status (generated seed size) = Fine
finding_status (summarized summary verdict) = ended verdict

-- ---- texts

-- the line of a run of a generated workflow
abbrev pub summary_line : Summary → model.Verdict → List ℕ
summary_line summary verdict = compact_text (summary_object summary (verdict_text verdict)) ++ codes "\n"

abbrev pub finding_text : Finding → List ℕ
finding_text (consistent w counts) = check_text w counts
finding_text (driven d) = driven_text d
finding_text (ran last verdict) = report_of last verdict
finding_text (traced checked) = checked_text checked
finding_text (audited found) = audit_text found
finding_text (verified w told) = verified_text w told
finding_text (tried w told) = redundancy_text w told
finding_text (generated seed size) = printed (gen.generated seed size)
finding_text (summarized summary verdict) = summary_line summary verdict

-- ---- what comes of a call: something is found, or it is refused

abbrev pub came_status : Result Finding Refused → Status
came_status (Ok found) = finding_status found
came_status (Err why) = status_of why

-- events in a refusal go by these names
abbrev pub came_text : List (List ℕ) → Result Finding Refused → List ℕ
came_text events (Ok found) = finding_text found
came_text events (Err why) = refused_text events why

pub record IsWritten (events : List (List ℕ)) (came : Result Finding Refused) (status : Status) (output : List ℕ) : Type 0 where
  pub status_is : status ≡ came_status came
  pub output_is : output ≡ came_text events came

-- the output is that of what is found
pub record IsOutputOf (output : Output) (found : Finding) : Type 0 where
  pub status_is : output.status ≡ finding_status found
  pub output_is : output.text.items ≡ finding_text found

-- the output is that of something that may be found
abbrev pub IsFound : (Result Finding Refused → Type 0) → Output → Type 0
IsFound P output = (found : Finding) × P (Ok found) × IsOutputOf output found

-- the call answers by what may come
abbrev pub Answers : (Result Finding Refused → Type 0) → Result Output Stop → Type 0
Answers P result = Comes IsOutputOf P result
