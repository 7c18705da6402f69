-- What is found of a run is told of the texts.
use Rattle.std.proofs.Common.{◌≡◌, ◌≢◌, ◌∙◌, ℕ, List, sym, subst, ap}
use Rattle.flow_model.specs.Lists.{◌∈◌}
use Rattle.flow_form.specs.Script.{Said}
use Rattle.flow_workflow.specs.Definition.{Definition}
use Rattle.flow_workflow.specs.Numbers.{event_number}
use Rattle.flow_expand.specs.Workflows.{IsExpanded}
use Rattle.flow_front.specs.declared.status.Status.{Status}
use Rattle.flow_policy.specs.Assigned.{Assigned}
use Rattle.flow_roles.specs.Desked.{Desked}
use Rattle.flow_case.specs.Rules.{Rules}
use Rattle.flow_case.specs.CasePolicy.{IsCasePolicyOf}
use Rattle.flow_case.specs.Ruled.{Ruled}
use Rattle.flow_questions.specs.Questions.{IsRunOfSame, TellsOfBoth}
use Rattle.flow_questions_cli.specs.declared.stop.QuestionStop.{QuestionStop}
use Rattle.flow_questions_cli.specs.Stops.{IsNoPair, IsMisnamed}
use Rattle.flow_questions_cli.specs.Subject.{IsOfScript, IsOfTexts}
use Rattle.flow_questions_cli.specs.Told.{IsFoundOfBoth, IsFoundOfStaff, IsToldOfBoth, IsToldOfStaff}

-- under the same policy a run of the same workflow is one of the same script
of_same : (s : Said) (policy : List ℕ) (rules : Rules) (old new : Desked) → new.run.definition ≡ old.run.definition → new.assigned ≡ old.assigned → IsOfScript s policy old rules →
    IsOfScript s policy new rules
of_same s policy rules old new definition assigned is = record {
  expanded = subst (IsExpanded s) (sym definition) is.expanded;
  governed =
      subst (λ (w : Definition). IsCasePolicyOf policy s w.events (record { assigned = new.assigned; rules = rules })) (sym definition)
      (subst (λ (a : Assigned). IsCasePolicyOf policy s old.run.definition.events (record { assigned = a; rules = rules })) (sym assigned) is.governed);
}

still_of_texts : (workflow policy : List ℕ) (rules : Rules) (old new : Ruled) → IsRunOfSame old new → IsOfTexts workflow policy old.desk rules → IsOfTexts workflow policy new.desk rules
still_of_texts workflow policy rules old new (definition, assigned) is = record {
  script = is.script;
  says = is.says;
  of_script = of_same is.script policy rules old.desk new.desk definition assigned is.of_script;
}

pub staff_of_texts : (workflow policy : List ℕ) (rules : Rules) (old : Ruled) (states : ℕ) (status : Status) → IsOfTexts workflow policy old.desk rules → IsFoundOfStaff old states status →
    IsToldOfStaff workflow policy states status
staff_of_texts workflow policy rules old states status is f = record {
  found = f.found;
  shown = record { rules = rules; of_texts = still_of_texts workflow policy rules old f.found f.same is; lawful = f.lawful; duties = f.duties };
  told = f.told;
  tells = f.tells;
  status_is = f.status_is;
}

both_of_old : (workflow policy one two : List ℕ) (rules : Rules) (old : Ruled) (i j states : ℕ) (status : Status) → IsOfTexts workflow policy old.desk rules →
    one ∈ old.desk.run.definition.events → i ≡ event_number old.desk.run.definition.events one →
    two ∈ old.desk.run.definition.events → j ≡ event_number old.desk.run.definition.events two → two ≢ one →
    IsFoundOfBoth old i j states status → IsToldOfBoth workflow policy one two states status
both_of_old workflow policy one two rules old i j states status is first first_is second second_is different f =
    let events : f.found.desk.run.definition.events ≡ old.desk.run.definition.events = ap (λ (w : Definition). w.events) f.same.0 in
    let number : (name : List ℕ) → event_number old.desk.run.definition.events name ≡ event_number f.found.desk.run.definition.events name =
    λ name. ap (λ (es : List (List ℕ)). event_number es name) (sym events) in
    record {
      found = f.found;
      shown = record { rules = rules; of_texts = still_of_texts workflow policy rules old f.found f.same is; lawful = f.lawful; duties = f.duties };
      first = subst (λ (es : List (List ℕ)). one ∈ es) (sym events) first;
      second = subst (λ (es : List (List ℕ)). two ∈ es) (sym events) second;
      different = different;
      told = f.told;
      tells =
          subst (λ n. TellsOfBoth f.found n (event_number f.found.desk.run.definition.events two) states f.told) (first_is ∙ number one)
          (subst (λ n. TellsOfBoth f.found i n states f.told) (second_is ∙ number two) f.tells);
      status_is = f.status_is;
    }

-- these are the numbers of two events of the run's workflow
abbrev ArePair : List (List ℕ) → List ℕ → List ℕ → ℕ → ℕ → Type 0
ArePair events one two i j = ((one ∈ events) × (i ≡ event_number events one)) × ((two ∈ events) × (j ≡ event_number events two))

pub both_of_texts : (workflow policy one two : List ℕ) (rules : Rules) (old : Ruled) (events : List (List ℕ)) (i j states : ℕ) (status : Status) → IsOfTexts workflow policy old.desk rules →
    events ≡ old.desk.run.definition.events → (one ∈ events) × (i ≡ event_number events one) → (two ∈ events) × (j ≡ event_number events two) → two ≢ one →
    IsFoundOfBoth old i j states status → IsToldOfBoth workflow policy one two states status
both_of_texts workflow policy one two rules old events i j states status is same first second different f =
    let pair : ArePair old.desk.run.definition.events one two i j = subst (λ (es : List (List ℕ)). ArePair es one two i j) same (first, second) in
    both_of_old workflow policy one two rules old i j states status is pair.0.0 pair.0.1 pair.1.0 pair.1.1 different f

-- the names are no two events of the run's workflow
pub misnamed : (workflow policy one two : List ℕ) (d : Desked) (rules : Rules) (events : List (List ℕ)) (why : QuestionStop) → IsOfTexts workflow policy d rules →
    events ≡ d.run.definition.events → IsNoPair events one two why → IsMisnamed workflow policy one two why
misnamed workflow policy one two d rules events why is same none = record {
  desk = d;
  rules = rules;
  of_texts = is;
  because = subst (λ (es : List (List ℕ)). IsNoPair es one two why) same none;
}
