-- Refusals of what is said: each can be told, and none is of the source or of the words.
use Rattle.std.proofs.Common.{◌≡◌, ◌≤◌, ℕ, Bool, List, Some, Result, Ok, Err, slice_get, subst}
use Rattle.flow_model.specs.declared.history.Call.{Call}
use Rattle.flow_model.specs.declared.history.Outcome.{Outcome}
use Rattle.flow_model.specs.declared.limits.TheConstants.{GREATEST_SIZE}
use Rattle.flow_model.specs.Constraint.{Constraint}
use Rattle.flow_model.specs.Schema.{Schema}
use Rattle.flow_form.specs.Script.{Said, Asked, holds, redundant}
use Rattle.flow_form.specs.Names.{event_names}
use Rattle.flow_workflow.specs.Definition.{Definition, schema_of}
use Rattle.flow_expand.specs.Constraints.{constraint_of}
use Rattle.flow_expand.specs.Workflows.{IsExpanded}
use Rattle.flow_excise.specs.declared.refusal.CompileRefusal.{CompileRefusal}
use Rattle.flow_excise.specs.declared.refusal.CompileRefusal.TheVariants as compilation
use Rattle.flow_plan.specs.Compilation.{Compilation, IsCompiled, IsWithinLimits}
use Rattle.flow_verify.specs.declared.answers.Verified.{Verified}
use Rattle.flow_verify.specs.declared.answers.Redundancy.{Redundancy}
use Rattle.flow_verify.specs.Verification.{against, without, TellsOfProperty, TellsOfConstraint}
use Rattle.flow_text.specs.Saying.{Asks}
use Rattle.flow_record.specs.Session.{session_of, commands}
use Rattle.flow_record.specs.Journal.{journal_of, journal}
use Rattle.flow_record.specs.declared.refusal.RecordRefusal.TheVariants.{BadLine, Label, NoMemory}
use Rattle.flow_policy.specs.Assigned.{Assigned}
use Rattle.flow_policy.specs.Policy.{IsPolicyOf}
use Rattle.flow_policy.specs.Session.{duties_of}
use Rattle.flow_gen.specs.Generated.{generated}
use Rattle.flow_gen.specs.Laws.{CompilingIsNotRefused}
use Rattle.flow_findings.specs.declared.refused.Refused.{Refused}
use Rattle.flow_findings.specs.declared.refused.Refused.TheVariants as refused
use Rattle.flow_findings.specs.Refusing.{IsOfOptions, IsTold}
use Rattle.flow_words.specs.declared.request.Mode.{Mode}
use Rattle.flow_words.specs.declared.request.Mode.TheVariants.{Drive, Run, Check, Verify, Trace, Gen, Large, Duty, Audit}
use Rattle.flow_words.specs.declared.request.Request.{Request}
use Rattle.flow_front.specs.declared.stop.Stop.{Stop}
use Rattle.flow_front.specs.declared.stop.Stop.TheVariants as stop
use Rattle.flow_front.specs.Status.{status_of, status_of_compiling}
use Rattle.flow_front.specs.Stop.{IsStop}
use Rattle.flow_front.specs.Refusal.{the_session, the_query, the_policy, the_duties, the_journals, the_script, the_journal, the_index, the_workflow, the_question, IsCause, IsOfCounts}
use Rattle.flow_front.specs.Stages.{Then, Prepares}
use Rattle.flow_front.proofs.Stages.{each_refusal, no_refusal}
use Rattle.flow_cli.specs.Finding.{Finding, consistent, driven, ran, traced, audited, verified, tried}
use Rattle.flow_cli.specs.Check.{FindsConsistent, Checks}
use Rattle.flow_cli.specs.Drive.{DrivesWorkflow, DrivesSaid, DrivesText}
use Rattle.flow_cli.specs.Run.{RunsWorkflow, RunsSaid}
use Rattle.flow_cli.specs.Trace.{FindsOfLeaves, TracesLeaves, TracesWorkflow, TracesText}
use Rattle.flow_cli.specs.Verify.{VerifiesProperty, TriesConstraint, VerifiesConstraint, VerifiesWorkflow, VerifiesSaid, VerifiesText}
use Rattle.flow_cli.specs.Audit.{HasJournals, FindsOfJournals, AuditsSaid, AuditsText}
use Rattle.flow_cli.specs.Duty.{policy_part, session_part, DrivesUsers, DutySaid, DutyLines, DutyText}
use Rattle.flow_cli.specs.Output.{Finds, IsOfInput}

of_compiling : (r : CompileRefusal) → IsOfInput (status_of_compiling r)
of_compiling (compilation.Inconsistent dropped) = tt
of_compiling other = tt

of_options : (r : CompileRefusal) → IsOfCounts r → IsOfOptions r
of_options (compilation.Inconsistent dropped) h = tt
of_options compilation.NoMemory h = h
of_options other h = tt

-- the refusal can be told of what is said, and is of the input
abbrev pub IsLater : Said → Refused → Type 0
IsLater s why = IsTold (event_names s.decls) why × IsOfInput (status_of why)

module _ (s : Said) where
  session_later : (text : List ℕ) (why : Refused) → IsCause (the_session text) why → IsLater s why
  session_later text (refused.Record (BadLine line)) h = (tt, tt)
  session_later text why h = absurd h

  query_later : (said : Said) (text : List ℕ) (why : Refused) → IsCause (the_query said text) why → IsLater s why
  query_later said text (refused.Query refusal) h = (h.0, tt)
  query_later said text why h = absurd h

  policy_later : (said : Said) (text : List ℕ) (why : Refused) → IsCause (the_policy said text) why → IsLater s why
  policy_later said text (refused.Policy refusal) h = (h.0, tt)
  policy_later said text why h = absurd h

  duties_later : (text : List ℕ) (why : Refused) → IsCause (the_duties text) why → IsLater s why
  duties_later text (refused.Record (BadLine line)) h = (tt, tt)
  duties_later text why h = absurd h

  journals_later : (text : List ℕ) (why : Refused) → IsCause (the_journals text) why → IsLater s why
  journals_later text (refused.Journals count) h = (tt, tt)
  journals_later text why h = absurd h

  script_later : (why : Refused) → IsCause (the_script s) why → IsLater s why
  script_later (refused.Expand refusal) h = (h.0, tt)
  script_later why h = absurd h

  journal_later : (w : Definition) (text : List ℕ) (why : Refused) → IsCause (the_journal w text) why → IsLater s why
  journal_later w text (refused.Record (BadLine line)) h = (tt, tt)
  journal_later w text (refused.Record (Label line)) h = (tt, tt)
  journal_later w text (refused.Record NoMemory) h = absurd h
  journal_later w text why h = absurd h

  index_later : (w : Definition) (index : ℕ) (why : Refused) → IsCause (the_index w index) why → IsLater s why
  index_later w index (refused.NoRule other) h = (tt, tt)
  index_later w index why h = absurd h

  workflow_later : (w : Schema) (why : Refused) → IsCause (the_workflow w) why → IsLater s why
  workflow_later w (refused.Compile refusal) h = (h.0, of_compiling refusal)
  workflow_later w why h = absurd h

  question_later : (w : Schema) (why : Refused) → IsCause (the_question w) why → IsLater s why
  question_later w (refused.Compile refusal) h = (of_options refusal h.0, of_compiling refusal)
  question_later w why h = absurd h

  prepares_later : (P : Definition → Compilation → Result Finding Refused → Type 0) → ((w : Definition) (c : Compilation) (why : Refused) → P w c (Err why) → IsLater s why) →
      (why : Refused) → Prepares s P (Err why) → IsLater s why
  prepares_later P later = each_refusal (the_script s) (IsExpanded s) (λ w. Then (the_workflow (schema_of w)) (IsCompiled (schema_of w)) (P w)) (IsLater s) script_later
      (λ w why x. each_refusal (the_workflow (schema_of w)) (IsCompiled (schema_of w)) (P w) (IsLater s) (workflow_later (schema_of w)) (λ c why y. later w c why) why)

  checks_later : (why : Refused) → Checks s (Err why) → IsLater s why
  checks_later = prepares_later FindsConsistent (λ w c why h. no_refusal (IsLater s why) (consistent w c.counts) why h.1)

  drives_later : (steps : ℕ) (text : List ℕ) (why : Refused) → DrivesText s steps text (Err why) → IsLater s why
  drives_later steps text = each_refusal (the_session text) (λ session. session_of text ≡ commands session) (DrivesSaid s steps) (IsLater s) (session_later text)
      (λ session why is. prepares_later (λ w c. DrivesWorkflow w steps session) (λ w c why (d, is, none). no_refusal (IsLater s why) (driven d) why none) why)

  runs_later : (gives : Call → Outcome → Bool) (steps workers : ℕ) (why : Refused) → RunsSaid gives s steps workers (Err why) → IsLater s why
  runs_later gives steps workers = prepares_later (λ w c. RunsWorkflow gives w steps workers)
      (λ w c why (last, (meant, run, none)). no_refusal (IsLater s why) (ran last meant) why none)

  traces_later : (text : List ℕ) (why : Refused) → TracesText s text (Err why) → IsLater s why
  traces_later text = each_refusal (the_script s) (IsExpanded s) (λ w. TracesWorkflow w text) (IsLater s) script_later (λ w why x.
      each_refusal (the_journal w text) (λ leaves. journal_of w text ≡ journal leaves) (TracesLeaves w) (IsLater s) (journal_later w text) (λ leaves why is.
      each_refusal (the_workflow (schema_of w)) (IsCompiled (schema_of w)) (λ c. FindsOfLeaves w leaves) (IsLater s) (workflow_later (schema_of w))
      (λ c why y (checked, told, none). no_refusal (IsLater s why) (traced checked) why none) why) why)

  audits_later : (text : List ℕ) (why : Refused) → AuditsText s text (Err why) → IsLater s why
  audits_later text = each_refusal (the_journals text) (HasJournals text) (AuditsSaid s text) (IsLater s) (journals_later text)
      (λ cuts why is. prepares_later (λ w c. FindsOfJournals w text cuts) (λ w c why (found, are, none). no_refusal (IsLater s why) (audited found) why none) why)

  duty_lines_later : (steps : ℕ) (text : List ℕ) (a : Assigned) (why : Refused) → DutyLines s steps text a (Err why) → IsLater s why
  duty_lines_later steps text a = each_refusal (the_duties text) (λ session. duties_of text ≡ commands session) (DutySaid s steps a) (IsLater s) (duties_later text)
      (λ session why is. prepares_later (λ w c. DrivesUsers w steps a session)
      (λ w c why (d, (last, (caller, (is, none)))). no_refusal (IsLater s why) (driven d) why none) why)

  duty_later : (steps : ℕ) (text : List ℕ) (why : Refused) → DutyText s steps text (Err why) → IsLater s why
  duty_later steps text = each_refusal (the_policy s (policy_part text)) (IsPolicyOf (policy_part text) s) (DutyLines s steps (session_part text)) (IsLater s)
      (policy_later s (policy_part text)) (λ a why is. duty_lines_later steps (session_part text) a why)

  property_later : (w : Definition) (property : Constraint) (why : Refused) → VerifiesProperty w property (Err why) → IsLater s why
  property_later w property = each_refusal (the_question (against (schema_of w) property))
      (λ (told : Verified). IsWithinLimits (against (schema_of w) property) × TellsOfProperty (schema_of w) property told) (λ told came. came ≡ Ok (verified w told))
      (IsLater s) (question_later (against (schema_of w) property)) (λ told why h. no_refusal (IsLater s why) (verified w told) why)

  constraint_later : (w : Definition) (index : ℕ) (why : Refused) → VerifiesConstraint w index (Err why) → IsLater s why
  constraint_later w index = each_refusal (the_index w index) (λ rule. slice_get w.rules index ≡ Some rule) (TriesConstraint w index) (IsLater s) (index_later w index)
      (λ rule why is. each_refusal (the_question (against (without (schema_of w) index) rule))
      (λ (told : Redundancy). IsWithinLimits (against (without (schema_of w) index) rule) × TellsOfConstraint (schema_of w) index told)
      (λ told came. came ≡ Ok (tried w told)) (IsLater s) (question_later (against (without (schema_of w) index) rule))
      (λ told why h. no_refusal (IsLater s why) (tried w told) why) why)

  workflow_verifies_later : (w : Definition) (query : Asked) (why : Refused) → VerifiesWorkflow w query (Err why) → IsLater s why
  workflow_verifies_later w (holds property) = property_later w (constraint_of w.events property)
  workflow_verifies_later w (redundant index) = constraint_later w index

  verifies_later : (text : List ℕ) (why : Refused) → VerifiesText s text (Err why) → IsLater s why
  verifies_later text = each_refusal (the_query s text) (Asks text s) (VerifiesSaid s) (IsLater s) (query_later s text) (λ query why asks.
      each_refusal (the_script s) (IsExpanded s) (λ w. VerifiesWorkflow w query) (IsLater s) script_later (λ w why x. workflow_verifies_later w query why) why)

-- each refusal of what a mode finds
pub finds_later : (mode : Mode) (gives : Call → Outcome → Bool) (request : Request) (s : Said) (text : List ℕ) (why : Refused) →
    Finds mode gives request s text (Err why) → IsLater s why
finds_later Drive gives request s text why h = drives_later s request.steps text why h
finds_later Run gives request s text why h = runs_later s gives request.steps request.workers why h
finds_later Check gives request s text why h = checks_later s why h
finds_later Verify gives request s text why h = verifies_later s text why h
finds_later Trace gives request s text why h = traces_later s text why h
finds_later Audit gives request s text why h = audits_later s text why h
finds_later Duty gives request s text why h = duty_later s request.steps text why h
finds_later Gen gives request s text why h = absurd h
finds_later Large gives request s text why h = absurd h

-- a generated workflow is compiled
none_compiled : (seed size : ℕ) (w : Definition) (why : Refused) → 1 ≤ size → size ≤ GREATEST_SIZE → IsExpanded (generated seed size) w → CompilingIsNotRefused →
    IsCause (the_workflow (schema_of w)) why → ⊥
none_compiled seed size w (refused.Compile refusal) some few expanded law (told, first) =
    subst IsOfOptions (law seed size w refusal some few expanded first) told
none_compiled seed size w why some few expanded law h = absurd h

pub never_compiled : (seed size : ℕ) (w : Definition) (why : Stop) (r : Refused) → why ≡ stop.Refused r → 1 ≤ size → size ≤ GREATEST_SIZE → IsExpanded (generated seed size) w →
    CompilingIsNotRefused → IsStop (IsCause (the_workflow (schema_of w))) why → ⊥
never_compiled seed size w why r is some few expanded law stops =
    none_compiled seed size w r some few expanded law (subst (IsStop (IsCause (the_workflow (schema_of w)))) is stops)
