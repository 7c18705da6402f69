-- Users and roles, as the names of a policy are gone through.
use Rattle.std.proofs.Common.{◌≡◌, ℕ, List, [], ◌∷◌, ◌++◌, sym, ap, ◌∙◌, append-nil}
use Rattle.std.specs.List.{flat_map}
use Rattle.flow_workflow.specs.Numbered.{IsAdded}
use Rattle.flow_policy.specs.declared.staff.Staff.{Staff}
use Rattle.flow_policy.specs.declared.stage.Stage.TheVariants.{RoleNeeded, UserNeeded}
use Rattle.flow_policy.specs.Policy.{firsts, with_name}
use Rattle.flow_policy.specs.Stages.{Mentioned}
use Rattle.flow_policy.specs.Numbering.{user_at, role_at, IsStaff}
use Rattle.flow_policy.proofs.FirstLemmas.{added_is_with_name, firsts_more}
use Rattle.flow_model.proofs.MadeLists.{flat_map_end}

-- one name more of those that are listed
listed_more : (f : Mentioned → List (List ℕ)) (so_far : List Mentioned) (m : Mentioned) (n : List ℕ) (old new : List (List ℕ)) →
    old ≡ firsts (flat_map f so_far) → f m ≡ n ∷ [] → IsAdded old n new → new ≡ firsts (flat_map f (so_far ++ m ∷ []))
listed_more f so_far m n old new is one added =
    added_is_with_name old new n added ∙ ap (λ l. with_name l n) is ∙ sym (firsts_more (flat_map f so_far) n)
    ∙ ap (λ l. firsts (flat_map f so_far ++ l)) (sym one) ∙ ap firsts (sym (flat_map_end f so_far m))

-- and none more
listed_same : (f : Mentioned → List (List ℕ)) (so_far : List Mentioned) (m : Mentioned) (old : List (List ℕ)) →
    old ≡ firsts (flat_map f so_far) → f m ≡ [] → old ≡ firsts (flat_map f (so_far ++ m ∷ []))
listed_same f so_far m old is none =
    is ∙ ap firsts (sym (append-nil (flat_map f so_far)) ∙ ap (λ l. flat_map f so_far ++ l) (sym none) ∙ sym (flat_map_end f so_far m))

pub user_added : (so_far : List Mentioned) (m : Mentioned) (old : Staff) (users : List (List ℕ)) → m.stage ≡ UserNeeded → IsStaff so_far old → IsAdded old.users m.name users →
    (users ≡ firsts (flat_map user_at (so_far ++ m ∷ []))) × (old.roles ≡ firsts (flat_map role_at (so_far ++ m ∷ [])))
user_added so_far m old users at h added = (
  listed_more user_at so_far m m.name old.users users h.users (ap (λ s. user_at (record m { stage = s })) at) added,
  listed_same role_at so_far m old.roles h.roles (ap (λ s. role_at (record m { stage = s })) at),
)

pub role_added : (so_far : List Mentioned) (m : Mentioned) (old : Staff) (roles : List (List ℕ)) → m.stage ≡ RoleNeeded → IsStaff so_far old → IsAdded old.roles m.name roles →
    (old.users ≡ firsts (flat_map user_at (so_far ++ m ∷ []))) × (roles ≡ firsts (flat_map role_at (so_far ++ m ∷ [])))
role_added so_far m old roles at h added = (
  listed_same user_at so_far m old.users h.users (ap (λ s. user_at (record m { stage = s })) at),
  listed_more role_at so_far m m.name old.roles roles h.roles (ap (λ s. role_at (record m { stage = s })) at) added,
)
