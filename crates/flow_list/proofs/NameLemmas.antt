-- The name of a user, by his number.
use Rattle.std.proofs.Common.{◌≡◌, ◌-◌, ◌≤◌, ℕ, zero, suc, List, Option, None, Some, slice_get, codes, refl, sym, ap, subst, arith}
use Rattle.std.specs.Option.{unwrap_or}
use Rattle.flow_case.specs.RulesOf.{IsUser}
use Rattle.flow_list.specs.Words.{user_name}

pub named_so : (users : List (List ℕ)) (number : ℕ) (name : List ℕ) → IsUser users number name → name ≡ user_name users number
named_so users zero name is = absurd (let from : 1 ≤ 0 = is.0 in omega arith)
named_so users (suc place) name is =
    let less : suc place - 1 ≡ place = omega arith in
    let there : slice_get users place ≡ Some name = subst (λ (p : ℕ). slice_get users p ≡ Some name) less is.1 in
    ap (λ (found : Option (List ℕ)). unwrap_or found (codes "nobody")) (sym there)

nobody_at : (users : List (List ℕ)) (place : ℕ) (found : Option (List ℕ)) → slice_get users place ≡ found → ((name : List ℕ) → ¬ (IsUser users (suc place) name)) →
    codes "nobody" ≡ unwrap_or found (codes "nobody")
nobody_at users place None is none = refl
nobody_at users place (Some name) is none =
    let less : place ≡ suc place - 1 = omega arith in
    absurd (none name (omega arith, subst (λ (p : ℕ). slice_get users p ≡ Some name) less is))

pub named_none : (users : List (List ℕ)) (number : ℕ) → ((name : List ℕ) → ¬ (IsUser users number name)) → codes "nobody" ≡ user_name users number
named_none users zero none = refl
named_none users (suc place) none = nobody_at users place (slice_get users place) refl none
