-- What is told of a question.
use Rattle.std.specs.Prelude.{◌≡◌, ◌≢◌, ◌⊎◌, ℕ, List, map}
use Rattle.flow_model.specs.Lists.{◌∈◌}
use Rattle.flow_workflow.specs.Numbers.{event_number}
use Rattle.flow_front.specs.declared.status.Status.{Status}
use Rattle.flow_front.specs.declared.status.Status.TheVariants as ending
use Rattle.flow_core.specs.Run.{schema}
use Rattle.flow_core.specs.Lawful.{IsLawful}
use Rattle.flow_roles.specs.Desked.{Desked, KeepsDuties}
use Rattle.flow_case.specs.Rules.{Rules}
use Rattle.flow_case.specs.Ruled.{Ruled}
use Rattle.flow_questions.specs.declared.both.Shared.{Shared}
use Rattle.flow_questions.specs.declared.both.Shared.TheVariants as shared
use Rattle.flow_questions.specs.declared.manned.Manning.{Manning}
use Rattle.flow_questions.specs.declared.manned.Manning.TheVariants as manning
use Rattle.flow_questions.specs.Questions.{HoldsRoles, IsRunOfSame, TellsOfBoth, TellsOfStaff}
use Rattle.flow_policy.specs.Statement.{Statement}
use Rattle.flow_policy.specs.Texts.{SaysPolicy}
use Rattle.flow_policy_lint.specs.declared.heads.Word.{Word}
use Rattle.flow_policy_lint.specs.declared.findings.PolicyFindings.{PolicyFindings}
use Rattle.flow_policy_lint.specs.Heads.{head_of}
use Rattle.flow_policy_lint.specs.Told.{ArePolicyFindings, IsNothing}
use Rattle.flow_questions_cli.specs.Subject.{IsOfTexts}

-- a run shows it: 1; no run does: 0; it is not decided, or no run shows what was found: 7
abbrev pub status_of_shared : Shared → Status
status_of_shared (shared.By user) = ending.No
status_of_shared shared.Never = ending.Fine
status_of_shared (shared.Undecided looked) = ending.Spent
status_of_shared shared.Unmade = ending.Spent

abbrev pub status_of_manning : Manning → Status
status_of_manning (manning.Unmanned leaf) = ending.No
status_of_manning manning.Always = ending.Fine
status_of_manning (manning.Undecided looked) = ending.Spent
status_of_manning manning.Unmade = ending.Spent

-- a run of the texts: each of its entries was legal, and duties hold after each of them
pub record IsRunOfTexts (workflow policy : List ℕ) (d : Desked) : Type 0 where
  pub rules : Rules
  pub of_texts : IsOfTexts workflow policy d rules
  pub lawful : IsLawful (schema d.run) d.run.limit d.run.history
  pub duties : KeepsDuties d

-- that is found of one user who has both events: a run under the same policy shows it
pub record IsFoundOfBoth (old : Ruled) (one two states : ℕ) (status : Status) : Type 0 where
  pub found : Ruled
  pub same : IsRunOfSame old found
  pub lawful : IsLawful (schema found.desk.run) found.desk.run.limit found.desk.run.history
  pub duties : KeepsDuties found.desk
  pub told : Shared
  pub tells : TellsOfBoth found one two states told
  pub status_is : status ≡ status_of_shared told

-- that is found of an event that nobody may take
pub record IsFoundOfStaff (old : Ruled) (states : ℕ) (status : Status) : Type 0 where
  pub found : Ruled
  pub same : IsRunOfSame old found
  pub lawful : IsLawful (schema found.desk.run) found.desk.run.limit found.desk.run.history
  pub duties : KeepsDuties found.desk
  pub told : Manning
  pub tells : TellsOfStaff found states told
  pub status_is : status ≡ status_of_manning told

-- the two names are those of different events, and of these that is told
pub record IsToldOfBoth (workflow policy one two : List ℕ) (states : ℕ) (status : Status) : Type 0 where
  pub found : Ruled
  pub shown : IsRunOfTexts workflow policy found.desk
  pub first : one ∈ found.desk.run.definition.events
  pub second : two ∈ found.desk.run.definition.events
  pub different : two ≢ one
  pub told : Shared
  pub tells : TellsOfBoth found (event_number found.desk.run.definition.events one) (event_number found.desk.run.definition.events two) states told
  pub status_is : status ≡ status_of_shared told

-- that is told of an event that nobody may take
pub record IsToldOfStaff (workflow policy : List ℕ) (states : ℕ) (status : Status) : Type 0 where
  pub found : Ruled
  pub shown : IsRunOfTexts workflow policy found.desk
  pub told : Manning
  pub tells : TellsOfStaff found states told
  pub status_is : status ≡ status_of_manning told

-- what is told of a policy: the status is 0 where nothing is found, and else 1
abbrev pub IsStatusOf : PolicyFindings → Status → Type 0
IsStatusOf found status = (IsNothing found × (status ≡ ending.Fine)) ⊎ ((¬ (IsNothing found)) × (status ≡ ending.No))

-- Just what is so is found of the policy, for users with numbers below one that no user has, and for what its statements begin with where
-- it has duties alone; and that is told.
pub record IsToldOfPolicy (workflow policy : List ℕ) (status : Status) : Type 0 where
  pub desk : Desked
  pub rules : Rules
  pub of_texts : IsOfTexts workflow policy desk rules
  pub users : ℕ
  pub all_users : HoldsRoles desk.assigned.duties users
  pub heads : List (Word × List ℕ)
  pub heads_are : (statements : List Statement) → SaysPolicy policy statements → heads ≡ map head_of statements
  pub found : PolicyFindings
  pub findings : ArePolicyFindings desk.assigned.duties users heads desk.run.definition rules.finals found
  pub told : IsStatusOf found status
