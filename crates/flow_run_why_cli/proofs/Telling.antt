-- What is told of what a call came to, and of what stopped it.
use Rattle.std.proofs.Common.{◌≡◌, ◌≤◌, ℕ, List, [], length, Result, Ok, Err, Some, inl, inr, refl, sym, ap, subst}
use Rattle.std.specs.Prelude.{IfOk}
use Rattle.std.specs.declared.alloc.AllocError.{AllocError}
use Rattle.flow_findings.specs.declared.refused.Refused.{Refused}
use Rattle.flow_findings.specs.Refusing.{IsTold}
use Rattle.flow_front.specs.declared.output.Output.{Output}
use Rattle.flow_front.specs.declared.stop.Stop.{Stop}
use Rattle.flow_front.specs.declared.stop.Stop.TheVariants as stop
use Rattle.flow_front.specs.Stop.{IsStop}
use Rattle.flow_why_cli.specs.declared.telling.Form.{Form}
use Rattle.flow_why_cli.specs.Explained.{IsExplainedStop}
use Rattle.flow_form.specs.Script.{Said}
use Rattle.flow_form.specs.Names.{event_names}
use Rattle.flow_workflow.specs.Definition.{Definition}
use Rattle.flow_expand.specs.Workflows.{IsExpanded}
use Rattle.flow_model.specs.declared.limits.TheConstants.{GREATEST_INPUT}
use Rattle.flow_policy.specs.Policy.{IsPolicyOf}
use Rattle.flow_front.specs.Refusal.{the_source, the_policy, IsCause}
use Rattle.flow_front.specs.declared.status.Status.{Status}
use Rattle.flow_front.specs.Stages.{Then}
use Rattle.flow_model.specs.Verdict as model
use Rattle.flow_model.specs.Verdict.{drive_verdict}
use Rattle.flow_core.specs.Run.{Run, schema}
use Rattle.flow_reply.specs.declared.verdict.Verdict.{Verdict}
use Rattle.flow_reply.specs.Conclusion.{Means}
use Rattle.flow_reply.specs.Verdict.{ended}
use Rattle.flow_why_cli.proofs.Explaining.{in_words}
use Rattle.flow_run_why_cli.specs.Session.{answer_of, DutyLines, DutyText}
use Rattle.flow_run_why_cli.specs.Told.{Answer, TellsAnswer, Tells, IsToldOf, IsExplainedWith}

module _ (form : Form) (events : List (List ℕ)) (May : Result Answer Refused → Type 0) where
  -- what stopped the call can be told
  pub stop_told : (why : Stop) → ((refused : Refused) → May (Err refused) → IsTold events refused) → Tells form May (Err why) → IsStop (IsTold events) why
  stop_told (stop.Refused refused) tellable may = tellable refused may
  stop_told stop.NoMemory tellable may = tt

  -- what was told of it is told of something that may come
  pub stopped : (why : Stop) (result : Result Output AllocError) → Tells form May (Err why) →
      IfOk result (λ output. IsExplainedStop events why form output.status output.text.items) → IfOk result (λ output. IsToldOf events May form output.status output.text.items)
  stopped (stop.Refused refused) (Ok output) may is = (Err refused, may, is)
  stopped (stop.Refused refused) (Err e) may is = tt
  stopped stop.NoMemory (Ok output) may is = absurd is
  stopped stop.NoMemory (Err e) may is = tt

  -- what the call came to is told
  pub came : (output : Output) → Tells form May (Ok output) → IsToldOf events May form output.status output.text.items
  came output (answer, may, is) = (Ok answer, may, is)

-- what stopped the reading of the workflow's text is told
pub source_stopped : (May : Said → Result Answer Refused → Type 0) (text : List ℕ) (form : Form) (why : Stop) (result : Result Output AllocError) →
    IsStop (IsCause (the_source (Some text))) why → IfOk result (λ output. IsExplainedStop [] why form output.status output.text.items) →
    IfOk result (λ output. IsExplainedWith May text form output.status output.text.items)
source_stopped May text form (stop.Refused refused) (Ok output) cause is = inl (refused, cause, is)
source_stopped May text form (stop.Refused refused) (Err e) cause is = tt
source_stopped May text form stop.NoMemory (Ok output) cause is = absurd is
source_stopped May text form stop.NoMemory (Err e) cause is = tt

-- a workflow has the events of what is said, in order
pub events_said : (s : Said) (w : Definition) → IsExpanded s w → event_names s.decls ≡ w.events
events_said s w x = sym (ap (λ (v : Definition). v.events) x.is)

-- the policy is not longer than an input may be
pub short_policy : (form : Form) (s : Said) (policy text : List ℕ) (result : Result Output Stop) → length policy ≤ GREATEST_INPUT →
    Tells form (Then (the_policy s policy) (IsPolicyOf policy s) (DutyLines s text)) result → Tells form (DutyText s policy text) result
short_policy form s policy text (Ok output) short (answer, may, is) = (answer, inr (short, may), is)
short_policy form s policy text (Err (stop.Refused why)) short may = inr (short, may)
short_policy form s policy text (Err stop.NoMemory) short may = tt

-- what came of a run that was driven is told
pub driven_told : (form : Form) (last r : Run) (status : Status) (verdict : Verdict) (output : List ℕ) →
    Means last verdict (drive_verdict (schema last) last.limit last.history) → ((s : Run) (meant : model.Verdict) → Means s verdict meant → status ≡ ended meant) → last ≡ r →
    TellsAnswer (answer_of r) form status output
driven_told form last r status verdict output means ends is = record {
  status_is = subst (λ (one : Run). status ≡ (answer_of one).status) is (ends last (drive_verdict (schema last) last.limit last.history) means);
  begins = in_words form output [] (output, refl);
}
