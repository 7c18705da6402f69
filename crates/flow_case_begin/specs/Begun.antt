-- The run of a case as it begins, by the texts of the case.
use Rattle.std.specs.Prelude.{◌≡◌, ◌⊎◌, ◌<◌, ℕ, List, [], length, Option, None, Some}
use Rattle.flow_model.specs.declared.limits.TheConstants.{GREATEST_INPUT}
use Rattle.flow_form.specs.Script.{Said}
use Rattle.flow_text.specs.Saying.{Says}
use Rattle.flow_text.specs.Parser.{IsParseRefusal}
use Rattle.flow_expand.specs.Workflows.{IsExpanded}
use Rattle.flow_core.specs.Run.{Run}
use Rattle.flow_case.specs.declared.case_run.CaseRun.{CaseRun}
use Rattle.flow_case.specs.declared.case_run.CaseRun.TheVariants.{Free, UnderPolicy}
use Rattle.flow_case.specs.CasePolicy.{IsCasePolicyOf}
use Rattle.flow_case_begin.specs.declared.texts.TheConstants.{MOST_STEPS}

-- the run of the workflow that is said, with no entry
pub record IsBegunRun (s : Said) (r : Run) : Type 0 where
  pub workflow : IsExpanded s r.definition
  pub limit : r.limit ≡ MOST_STEPS
  pub empty : r.history ≡ []

-- the case of that run, under what the policy says to the workflow, or without a policy
abbrev pub IsBegun : Said → Option (List ℕ) → CaseRun → Type 0
IsBegun s None (Free r) = IsBegunRun s r
IsBegun s None (UnderPolicy c) = ⊥
IsBegun s (Some policy) (Free r) = ⊥
IsBegun s (Some policy) (UnderPolicy c) =
    IsBegunRun s c.desk.run × IsCasePolicyOf policy s c.desk.run.definition.events (record { assigned = c.desk.assigned; rules = c.rules })

-- the case of these texts, with no entry
abbrev pub IsCaseOf : List ℕ → Option (List ℕ) → CaseRun → Type 0
IsCaseOf workflow policy c = (s : Said) × Says workflow s × IsBegun s policy c

-- the run is one of the workflow that the text says, whatever its entries are
pub record IsRunOf (workflow : List ℕ) (r : Run) : Type 0 where
  pub said : Said
  pub says : Says workflow said
  pub expanded : IsExpanded said r.definition
  pub limit : r.limit ≡ MOST_STEPS
