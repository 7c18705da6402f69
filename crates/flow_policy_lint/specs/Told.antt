-- What is told of the policy of a case.
use Rattle.std.specs.Prelude.{◌≡◌, ℕ, Bool, List, [], length}
use Rattle.flow_model.specs.Duties.{Duties}
use Rattle.flow_model.specs.Verdict.{AreJust}
use Rattle.flow_workflow.specs.Definition.{Definition, schema_of}
use Rattle.flow_policy_lint.specs.declared.heads.Word.{Word}
use Rattle.flow_policy_lint.specs.declared.findings.PolicyFindings.{PolicyFindings}
use Rattle.flow_policy_lint.specs.Findings.{IsOneBelow, IsForNobody, IsUnmetBind, IsUnmetSeparate, IsStuckBehind, ArePairs}
use Rattle.flow_policy_lint.specs.Heads.{IsIdleRole}

-- Just what is so is found: of the duties, of what the policy's statements begin with, of the workflow with these final events
pub record ArePolicyFindings (d : Duties) (users : ℕ) (heads : List (Word × List ℕ)) (w : Definition) (finals : List Bool) (found : PolicyFindings) : Type 0 where
  pub untaken : AreJust (IsOneBelow (length w.events) (IsForNobody d users)) found.untaken.items
  pub idle_roles : AreJust (IsOneBelow (length heads) (IsIdleRole heads)) found.idle_roles.items
  pub unmet_binds : ArePairs (IsUnmetBind d users) (length w.events) (length w.events) found.unmet_binds.items
  pub unmet_separates : ArePairs (IsUnmetSeparate d users) (length w.events) (length w.events) found.unmet_separates.items
  pub stuck : ArePairs (IsStuckBehind (schema_of w) finals) (length w.events) (length w.events) found.stuck.items

-- nothing is found
pub record IsNothing (found : PolicyFindings) : Type 0 where
  pub untaken : found.untaken.items ≡ []
  pub idle_roles : found.idle_roles.items ≡ []
  pub unmet_binds : found.unmet_binds.items ≡ []
  pub unmet_separates : found.unmet_separates.items ≡ []
  pub stuck : found.stuck.items ≡ []
