-- What is found of each kind is what is told.
use Rattle.std.proofs.Common.{◌≡◌, ℕ, Bool, List, map, length, sym, subst}
use Rattle.std.proofs.lemmas.List.{length-map}
use Rattle.flow_model.specs.Duties.{Duties}
use Rattle.flow_model.specs.Verdict.{AreJust}
use Rattle.flow_workflow.specs.Definition.{Definition, schema_of}
use Rattle.flow_policy_lint.specs.declared.heads.Head.{Head}
use Rattle.flow_policy_lint.specs.declared.findings.PolicyFindings.{PolicyFindings}
use Rattle.flow_policy_lint.specs.Findings.{IsOneBelow, IsForNobody, IsUnmetBind, IsUnmetSeparate, IsStuckBehind, ArePairs}
use Rattle.flow_policy_lint.specs.Heads.{said, IsIdleRole}
use Rattle.flow_policy_lint.specs.Told.{ArePolicyFindings}

pub all_found : (d : Duties) (users n : ℕ) (heads : List Head) (w : Definition) (finals : List Bool) (found : PolicyFindings) → n ≡ length w.events →
    AreJust (IsOneBelow n (IsForNobody d users)) found.untaken.items →
    AreJust (IsOneBelow (length heads) (IsIdleRole (map said heads))) found.idle_roles.items →
    ArePairs (IsUnmetBind d users) n n found.unmet_binds.items →
    ArePairs (IsUnmetSeparate d users) n n found.unmet_separates.items →
    ArePairs (IsStuckBehind (schema_of w) finals) n n found.stuck.items → ArePolicyFindings d users (map said heads) w finals found
all_found d users n heads w finals found same untaken idle binds separates stuck = record {
  untaken = subst (λ m. AreJust (IsOneBelow m (IsForNobody d users)) found.untaken.items) same untaken;
  idle_roles = subst (λ m. AreJust (IsOneBelow m (IsIdleRole (map said heads))) found.idle_roles.items) (sym (length-map heads said)) idle;
  unmet_binds = subst (λ m. ArePairs (IsUnmetBind d users) m m found.unmet_binds.items) same binds;
  unmet_separates = subst (λ m. ArePairs (IsUnmetSeparate d users) m m found.unmet_separates.items) same separates;
  stuck = subst (λ m. ArePairs (IsStuckBehind (schema_of w) finals) m m found.stuck.items) same stuck;
}
