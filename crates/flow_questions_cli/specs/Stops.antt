-- Why nothing is told of a workflow and its policy.
use Rattle.std.specs.Prelude.{◌≡◌, ◌⊎◌, ◌<◌, ℕ, Bool, false, true, List, length, Some}
use Rattle.std.specs.List.{find}
use Rattle.flow_model.specs.declared.limits.TheConstants.{GREATEST_INPUT}
use Rattle.flow_model.specs.Lists.{◌∈◌}
use Rattle.flow_model.specs.Schema.{Schema}
use Rattle.flow_form.specs.Script.{Said}
use Rattle.flow_text.specs.Saying.{Says}
use Rattle.flow_fault.specs.Near.{is_near}
use Rattle.flow_workflow.specs.Definition.{Definition, schema_of}
use Rattle.flow_expand.specs.Workflows.{IsExpanded}
use Rattle.flow_roles.specs.Desked.{Desked}
use Rattle.flow_front.specs.Refusal.{workflow_part, the_source, the_script, the_workflow, IsCause}
use Rattle.flow_front.specs.Stop.{IsStop}
use Rattle.flow_case.specs.Rules.{Rules}
use Rattle.flow_case.specs.CasePolicy.{IsCasePolicyRefusal}
use Rattle.flow_questions_cli.specs.declared.stop.QuestionStop.{QuestionStop}
use Rattle.flow_questions_cli.specs.declared.stop.QuestionStop.TheVariants as stop
use Rattle.flow_questions_cli.specs.Subject.{IsOfTexts}

-- the workflow's text says nothing
abbrev pub IsUnread : List ℕ → QuestionStop → Type 0
IsUnread text (stop.Workflow why) = IsStop (IsCause (the_source (Some text))) why
IsUnread text other = ⊥

-- what is said has no workflow
abbrev pub IsUnexpanded : Said → QuestionStop → Type 0
IsUnexpanded s (stop.Workflow why) = IsStop (IsCause (the_script s)) why
IsUnexpanded s other = ⊥

-- the workflow is not compiled: no execution meets its constraints, or it is past the limits; want of memory says nothing
abbrev pub IsUncompiled : Schema → QuestionStop → Type 0
IsUncompiled w (stop.Workflow why) = IsStop (IsCause (the_workflow w)) why
IsUncompiled w stop.NoMemory = Unit {0}
IsUncompiled w other = ⊥

-- the policy is too long, or says nothing to a script with these events
abbrev pub IsUngoverned : List ℕ → Said → List (List ℕ) → QuestionStop → Type 0
IsUngoverned text s events stop.LongPolicy = GREATEST_INPUT < length text
IsUngoverned text s events (stop.Policy refusal) = IsCasePolicyRefusal text s events refusal
IsUngoverned text s events other = ⊥

-- the workflow has no run, or the policy says nothing to it
pub record IsUnruled (s : Said) (policy : List ℕ) (why : QuestionStop) : Type 0 where
  pub workflow : Definition
  pub expanded : IsExpanded s workflow
  pub because : IsUncompiled (schema_of workflow) why ⊎ IsUngoverned policy s workflow.events why

-- what is said has no workflow; or that has no run, or no policy
abbrev pub IsNoScript : Said → List ℕ → QuestionStop → Type 0
IsNoScript s policy why = IsUnexpanded s why ⊎ IsUnruled s policy why

-- the texts give nothing to ask: the first says nothing, or what it says has no run under what the second says
abbrev pub IsNoSubject : List ℕ → List ℕ → QuestionStop → Type 0
IsNoSubject workflow policy why = IsUnread workflow why ⊎ ((s : Said) × Says (workflow_part workflow) s × IsNoScript s policy why)

-- the name is that of no event, and that is the first event whose name differs from it at one place; want of memory says nothing
abbrev pub IsNoEvent : List (List ℕ) → List ℕ → Bool → QuestionStop → Type 0
IsNoEvent events name second (stop.NoEvent other near) = (other ≡ second) × ¬ (name ∈ events) × (near ≡ find (is_near name) events)
IsNoEvent events name second stop.NoMemory = Unit {0}
IsNoEvent events name second other = ⊥

-- both names are that of one event
abbrev pub IsOneEvent : QuestionStop → Type 0
IsOneEvent stop.OneEvent = Unit {0}
IsOneEvent other = ⊥

-- the first of the names is that of no event; or the second; or they are the same
abbrev pub IsNoPair : List (List ℕ) → List ℕ → List ℕ → QuestionStop → Type 0
IsNoPair events one two why = IsNoEvent events one false why
    ⊎ (((one ∈ events) × IsNoEvent events two true why) ⊎ ((one ∈ events) × (two ≡ one) × IsOneEvent why))

abbrev pub IsNoMemory : QuestionStop → Type 0
IsNoMemory stop.NoMemory = Unit {0}
IsNoMemory other = ⊥

-- there is something to ask, and the names are no two events of it
pub record IsMisnamed (workflow policy one two : List ℕ) (why : QuestionStop) : Type 0 where
  pub desk : Desked
  pub rules : Rules
  pub of_texts : IsOfTexts workflow policy desk rules
  pub because : IsNoPair desk.run.definition.events one two why
