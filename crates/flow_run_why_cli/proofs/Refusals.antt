-- Refusals of what is said, and of what stands behind it: each can be told.
use Rattle.std.proofs.Common.{◌≡◌, ℕ, List, Some, Result, Ok, Err, slice_get, subst, inl, inr}
use Rattle.flow_model.specs.Constraint.{Constraint}
use Rattle.flow_model.specs.Schema.{Schema}
use Rattle.flow_form.specs.Script.{Said, Asked, holds, redundant}
use Rattle.flow_form.specs.Names.{event_names}
use Rattle.flow_workflow.specs.Definition.{Definition, schema_of}
use Rattle.flow_expand.specs.Constraints.{constraint_of}
use Rattle.flow_expand.specs.Workflows.{IsExpanded}
use Rattle.flow_excise.specs.declared.refusal.CompileRefusal.{CompileRefusal}
use Rattle.flow_excise.specs.declared.refusal.CompileRefusal.TheVariants as compilation
use Rattle.flow_plan.specs.Compilation.{Compilation, IsCompiled, IsWithinLimits}
use Rattle.flow_verify.specs.declared.answers.Verified.{Verified}
use Rattle.flow_verify.specs.declared.answers.Redundancy.{Redundancy}
use Rattle.flow_verify.specs.Verification.{against, without, TellsOfProperty, TellsOfConstraint}
use Rattle.flow_text.specs.Saying.{Asks}
use Rattle.flow_record.specs.Session.{session_of, commands}
use Rattle.flow_record.specs.Journal.{journal_of, journal}
use Rattle.flow_record.specs.declared.refusal.RecordRefusal.TheVariants.{BadLine, Label, NoMemory}
use Rattle.flow_policy.specs.Assigned.{Assigned}
use Rattle.flow_policy.specs.Policy.{IsPolicyOf}
use Rattle.flow_policy.specs.Session.{duties_of}
use Rattle.flow_findings.specs.declared.refused.Refused.{Refused}
use Rattle.flow_findings.specs.declared.refused.Refused.TheVariants as refused
use Rattle.flow_findings.specs.Refusing.{IsOfOptions, IsTold}
use Rattle.flow_front.specs.Refusal.{the_session, the_query, the_policy, the_duties, the_script, the_journal, the_index, the_workflow, the_question, IsCause, IsOfCounts}
use Rattle.flow_front.specs.Stages.{Then, Prepares}
use Rattle.flow_front.proofs.Stages.{each_refusal, no_refusal}
use Rattle.flow_run_why_cli.specs.Told.{Answer}
use Rattle.flow_run_why_cli.specs.Session.{answer_of, DrivesWorkflow, DrivesSaid, DrivesText, DrivesUsers, DutySaid, DutyLines, DutyText}
use Rattle.flow_run_why_cli.specs.Journal.{answer_of_checked, FindsOfLeaves, TracesLeaves, TracesWorkflow, TracesText}
use Rattle.flow_run_why_cli.specs.Query.{answer_of_property, answer_of_constraint, VerifiesProperty, TriesConstraint, VerifiesConstraint, VerifiesWorkflow, VerifiesSaid, VerifiesText}

of_options : (r : CompileRefusal) → IsOfCounts r → IsOfOptions r
of_options (compilation.Inconsistent dropped) h = tt
of_options compilation.NoMemory h = h
of_options other h = tt

module _ (s : Said) where
  -- the refusal can be told of what is said
  abbrev IsTellable : Refused → Type 0
  IsTellable why = IsTold (event_names s.decls) why

  session_tellable : (text : List ℕ) (why : Refused) → IsCause (the_session text) why → IsTellable why
  session_tellable text (refused.Record (BadLine line)) h = tt
  session_tellable text why h = absurd h

  query_tellable : (said : Said) (text : List ℕ) (why : Refused) → IsCause (the_query said text) why → IsTellable why
  query_tellable said text (refused.Query refusal) h = h.0
  query_tellable said text why h = absurd h

  policy_tellable : (said : Said) (text : List ℕ) (why : Refused) → IsCause (the_policy said text) why → IsTellable why
  policy_tellable said text (refused.Policy refusal) h = h.0
  policy_tellable said text why h = absurd h

  duties_tellable : (text : List ℕ) (why : Refused) → IsCause (the_duties text) why → IsTellable why
  duties_tellable text (refused.Record (BadLine line)) h = tt
  duties_tellable text why h = absurd h

  script_tellable : (why : Refused) → IsCause (the_script s) why → IsTellable why
  script_tellable (refused.Expand refusal) h = h.0
  script_tellable why h = absurd h

  journal_tellable : (w : Definition) (text : List ℕ) (why : Refused) → IsCause (the_journal w text) why → IsTellable why
  journal_tellable w text (refused.Record (BadLine line)) h = tt
  journal_tellable w text (refused.Record (Label line)) h = tt
  journal_tellable w text (refused.Record NoMemory) h = absurd h
  journal_tellable w text why h = absurd h

  index_tellable : (w : Definition) (index : ℕ) (why : Refused) → IsCause (the_index w index) why → IsTellable why
  index_tellable w index (refused.NoRule other) h = tt
  index_tellable w index why h = absurd h

  workflow_tellable : (w : Schema) (why : Refused) → IsCause (the_workflow w) why → IsTellable why
  workflow_tellable w (refused.Compile refusal) h = h.0
  workflow_tellable w why h = absurd h

  question_tellable : (w : Schema) (why : Refused) → IsCause (the_question w) why → IsTellable why
  question_tellable w (refused.Compile refusal) h = of_options refusal h.0
  question_tellable w why h = absurd h

  prepares_tellable : (P : Definition → Compilation → Result Answer Refused → Type 0) → ((w : Definition) (c : Compilation) (why : Refused) → P w c (Err why) → IsTellable why) →
      (why : Refused) → Prepares s P (Err why) → IsTellable why
  prepares_tellable P later = each_refusal (the_script s) (IsExpanded s) (λ w. Then (the_workflow (schema_of w)) (IsCompiled (schema_of w)) (P w)) IsTellable script_tellable
      (λ w why x. each_refusal (the_workflow (schema_of w)) (IsCompiled (schema_of w)) (P w) IsTellable (workflow_tellable (schema_of w)) (λ c why y. later w c why) why)

  pub drives_tellable : (text : List ℕ) (why : Refused) → DrivesText s text (Err why) → IsTellable why
  drives_tellable text = each_refusal (the_session text) (λ lines. session_of text ≡ commands lines) (DrivesSaid s) IsTellable (session_tellable text)
      (λ lines why is. prepares_tellable (λ w c. DrivesWorkflow w lines) (λ w c why (last, is, none). no_refusal (IsTellable why) (answer_of last) why none) why)

  lines_tellable : (text : List ℕ) (a : Assigned) (why : Refused) → DutyLines s text a (Err why) → IsTellable why
  lines_tellable text a = each_refusal (the_duties text) (λ lines. duties_of text ≡ commands lines) (DutySaid s a) IsTellable (duties_tellable text)
      (λ lines why is. prepares_tellable (λ w c. DrivesUsers w a lines)
      (λ w c why (last, (is, none)). no_refusal (IsTellable why) (answer_of last.run) why none) why)

  pub duty_tellable : (policy text : List ℕ) (why : Refused) → DutyText s policy text (Err why) → IsTellable why
  duty_tellable policy text why (inl (long, is)) = let same : refused.TooLong ≡ why = cc in subst IsTellable same tt
  duty_tellable policy text why (inr (short, h)) = each_refusal (the_policy s policy) (IsPolicyOf policy s) (DutyLines s text) IsTellable
      (policy_tellable s policy) (λ a why is. lines_tellable text a why) why h

  pub traces_tellable : (text : List ℕ) (why : Refused) → TracesText text s (Err why) → IsTellable why
  traces_tellable text = each_refusal (the_script s) (IsExpanded s) (λ w. TracesWorkflow w text) IsTellable script_tellable (λ w why x.
      each_refusal (the_journal w text) (λ leaves. journal_of w text ≡ journal leaves) (TracesLeaves w) IsTellable (journal_tellable w text) (λ leaves why is.
      each_refusal (the_workflow (schema_of w)) (IsCompiled (schema_of w)) (λ c. FindsOfLeaves w leaves) IsTellable (workflow_tellable (schema_of w))
      (λ c why y (checked, told, none). no_refusal (IsTellable why) (answer_of_checked checked) why none) why) why)

  property_tellable : (w : Definition) (property : Constraint) (why : Refused) → VerifiesProperty w property (Err why) → IsTellable why
  property_tellable w property = each_refusal (the_question (against (schema_of w) property))
      (λ (told : Verified). IsWithinLimits (against (schema_of w) property) × TellsOfProperty (schema_of w) property told) (λ told came. came ≡ Ok (answer_of_property w told))
      IsTellable (question_tellable (against (schema_of w) property)) (λ told why h. no_refusal (IsTellable why) (answer_of_property w told) why)

  constraint_tellable : (w : Definition) (index : ℕ) (why : Refused) → VerifiesConstraint w index (Err why) → IsTellable why
  constraint_tellable w index = each_refusal (the_index w index) (λ rule. slice_get w.rules index ≡ Some rule) (TriesConstraint w index) IsTellable (index_tellable w index)
      (λ rule why is. each_refusal (the_question (against (without (schema_of w) index) rule))
      (λ (told : Redundancy). IsWithinLimits (against (without (schema_of w) index) rule) × TellsOfConstraint (schema_of w) index told)
      (λ told came. came ≡ Ok (answer_of_constraint w told)) IsTellable (question_tellable (against (without (schema_of w) index) rule))
      (λ told why h. no_refusal (IsTellable why) (answer_of_constraint w told) why) why)

  workflow_verifies_tellable : (w : Definition) (query : Asked) (why : Refused) → VerifiesWorkflow w query (Err why) → IsTellable why
  workflow_verifies_tellable w (holds property) = property_tellable w (constraint_of w.events property)
  workflow_verifies_tellable w (redundant index) = constraint_tellable w index

  pub verifies_tellable : (text : List ℕ) (why : Refused) → VerifiesText text s (Err why) → IsTellable why
  verifies_tellable text = each_refusal (the_query s text) (Asks text s) (VerifiesSaid s) IsTellable (query_tellable s text) (λ query why asks.
      each_refusal (the_script s) (IsExpanded s) (λ w. VerifiesWorkflow w query) IsTellable script_tellable (λ w why x. workflow_verifies_tellable w query why) why)
