-- A workflow under a policy, as two texts say it, ready to be asked.
use Rattle.std.specs.Prelude.{ℕ, List}
use Rattle.flow_form.specs.Script.{Said}
use Rattle.flow_text.specs.Saying.{Says}
use Rattle.flow_expand.specs.Workflows.{IsExpanded}
use Rattle.flow_core.specs.Run.{schema}
use Rattle.flow_plan.specs.Compilation.{IsCompiled}
use Rattle.flow_front.specs.Refusal.{workflow_part}
use Rattle.flow_policy.specs.Assigned.{Assigned}
use Rattle.flow_roles.specs.Desked.{Desked}
use Rattle.flow_case.specs.Rules.{Rules}
use Rattle.flow_case.specs.CasePolicy.{IsCasePolicyOf}
use Rattle.flow_questions.specs.Questions.{HoldsRoles}
use Rattle.flow_questions_cli.specs.declared.subject.Subject.{Subject}

-- the run is one of the workflow that the script says, under the policy that the text says to it, with these rules besides duties
pub record IsOfScript (s : Said) (policy : List ℕ) (d : Desked) (rules : Rules) : Type 0 where
  pub expanded : IsExpanded s d.run.definition
  pub governed : IsCasePolicyOf policy s d.run.definition.events (record { assigned = d.assigned; rules = rules })

-- of what stands in front of a line `%%` of the workflow's text
pub record IsOfTexts (workflow policy : List ℕ) (d : Desked) (rules : Rules) : Type 0 where
  pub script : Said
  pub says : Says (workflow_part workflow) script
  pub of_script : IsOfScript script policy d rules

-- users who have a role have numbers below
pub record AreBelow (a : Assigned) (past : ℕ) : Type 0 where
  pub roles : HoldsRoles a.duties past

-- and the options are those of the run's workflow
pub record IsReady (s : Subject) : Type 0 where
  pub users : AreBelow s.run.desk.assigned s.past
  pub options_are : IsCompiled (schema s.run.desk.run) s.compiled
