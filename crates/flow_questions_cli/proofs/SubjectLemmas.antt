-- What a script and a policy say of the run that is asked.
use Rattle.std.proofs.Common.{◌≡◌, ◌≤◌, ◌+◌, ℕ, not, List, length, sym, subst, ap, inl, inr, arith}
use Rattle.std.specs.List.{flat_map}
use Rattle.std.specs.Str.{bytes_eq}
use Rattle.std.proofs.lemmas.List.Sums.{prefix_len-le-length}
use Rattle.flow_model.proofs.MadeLists.{of_map}
use Rattle.flow_form.specs.Script.{Said}
use Rattle.flow_form.specs.Names.{event_names}
use Rattle.flow_workflow.specs.Definition.{Definition, schema_of}
use Rattle.flow_workflow.specs.Numbers.{event_number}
use Rattle.flow_expand.specs.Workflows.{IsExpanded}
use Rattle.flow_policy.specs.Assigned.{Assigned}
use Rattle.flow_policy.specs.Policy.{IsPolicyOf, memberships, numbered_member, users_of, roles_of}
use Rattle.flow_core.specs.Run.{Run}
use Rattle.flow_roles.specs.Desked.{Desked}
use Rattle.flow_case.specs.Rules.{Rules}
use Rattle.flow_case.specs.CasePolicy.{CaseSaid, IsCasePolicyOf}
use Rattle.flow_questions.specs.Questions.{HoldsRoles}
use Rattle.flow_questions_cli.specs.declared.stop.QuestionStop.{QuestionStop}
use Rattle.flow_questions_cli.specs.Subject.{AreBelow, IsOfScript}
use Rattle.flow_questions_cli.specs.Stops.{IsUncompiled, IsUngoverned, IsUnruled}

pub same_events : (s : Said) (w : Definition) → IsExpanded s w → event_names s.decls ≡ w.events
same_events s w is = sym (ap (λ (d : Definition). d.events) is.is)

-- users have numbers up to one past their count
holds_roles : (text : List ℕ) (s : Said) (a : Assigned) → IsPolicyOf text s a → HoldsRoles a.duties (length a.users + 2)
holds_roles text s a is user event (role, member, allowed) =
    let users = users_of is.statements in
    let ((name, its), i, same) = of_map (numbered_member users (roles_of is.statements)) (user, role) (flat_map memberships is.statements) (is.members_are.none_else (user, role) member) in
    let below : event_number users name ≤ length users = prefix_len-le-length (λ x. not (bytes_eq name x)) users in
    let user_is : user ≡ event_number users name + 1 = ap (λ (p : ℕ × ℕ). p.0) same in
    let count : length a.users ≡ length users = ap length is.users_are in
    omega (arith, below, user_is, count)

-- of the run under the policy, and its users
pub roles_held : (text : List ℕ) (s : Said) (events users : List (List ℕ)) (p : CaseSaid) (r : Run) (d : Desked) → IsCasePolicyOf text s events p →
    d ≡ record { run = r; assigned = p.assigned } → users ≡ p.assigned.users → AreBelow d.assigned (length users + 2)
roles_held text s events users p r d is same its = record {
  roles =
      subst (λ (x : Desked). HoldsRoles x.assigned.duties (length users + 2)) (sym same)
      (subst (λ (u : List (List ℕ)). HoldsRoles p.assigned.duties (length u + 2)) (sym its) (holds_roles _ s p.assigned is.duties));
}

-- the run is one of the script under the policy
pub of_script : (text : List ℕ) (s : Said) (p : CaseSaid) (r : Run) (d : Desked) (rules : Rules) → IsExpanded s r.definition → IsCasePolicyOf text s r.definition.events p →
    d ≡ record { run = r; assigned = p.assigned } → rules ≡ p.rules → IsOfScript s text d rules
of_script text s p r d rules expanded is same also =
    subst (λ (x : Desked). IsOfScript s text x rules) (sym same)
    (subst (IsOfScript s text (record { run = r; assigned = p.assigned })) (sym also) (record { expanded = expanded; governed = is }))

-- why the script has no run
pub uncompiled : (s : Said) (policy : List ℕ) (w : Definition) (why : QuestionStop) → IsExpanded s w → IsUncompiled (schema_of w) why → IsUnruled s policy why
uncompiled s policy w why expanded is = record { workflow = w; expanded = expanded; because = inl is }

-- why it has no policy
pub ungoverned : (s : Said) (policy : List ℕ) (w v : Definition) (why : QuestionStop) → IsExpanded s w → v ≡ w → IsUngoverned policy s v.events why → IsUnruled s policy why
ungoverned s policy w v why expanded same is = record {
  workflow = w;
  expanded = expanded;
  because = inr (subst (λ (x : Definition). IsUngoverned policy s x.events why) same is);
}
