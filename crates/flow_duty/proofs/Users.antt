-- Users of a policy: no two have one name, so a name has one number.
use Rattle.std.proofs.Common.{◌≡◌, ◌≤◌, ◌-◌, ℕ, Bool, true, false, List, [], ◌∷◌, fold, map, slice_get, Some, if◌then◌else◌, refl, sym, subst, ◌∙◌, inl, inr, arith}
use Rattle.std.specs.List.{flat_map, list_any}
use Rattle.std.specs.Str.{bytes_eq}
use Rattle.std.specs.Cmp.Lexicographic.{bytes_decides}
use Rattle.std.proofs.Math.Bool.{or-true}
use Rattle.flow_model.specs.Lists.{◌∈◌, AreDistinct}
use Rattle.flow_workflow.proofs.FirstPlaces.{place_in}
use Rattle.flow_workflow.proofs.Places.{distinct_more}
use Rattle.flow_form.specs.Script.{Said}
use Rattle.flow_policy.specs.Assigned.{Assigned}
use Rattle.flow_policy.specs.Policy.{with_name, memberships, IsPolicyOf}
use Rattle.flow_duty.specs.Replies.{IsUser}
use Rattle.flow_policy.proofs.FirstLemmas.{firsts_distinct}

-- the users of a policy
pub users_distinct : (text : List ℕ) (s : Said) (a : Assigned) → IsPolicyOf text s a → AreDistinct a.users
users_distinct text s a is = subst AreDistinct (sym is.users_are) (firsts_distinct (map (λ m. m.0) (flat_map memberships is.statements)))

-- a name has one number
pub one_user : (a : Assigned) (name : List ℕ) (u v : ℕ) → AreDistinct a.users → IsUser a name u → IsUser a name v → u ≡ v
one_user a name u v distinct (at, some) (there, one) =
    omega (arith, some, one, sym (place_in bytes_eq bytes_decides a.users (u - 1) name distinct at) ∙ place_in bytes_eq bytes_decides a.users (v - 1) name distinct there)
