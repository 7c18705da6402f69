-- The rules of a case by numbers, from what a policy's text says by names.
use Rattle.std.specs.Prelude.{◌≡◌, ◌-◌, ◌≤◌, ◌⊎◌, ◌↔◌, ℕ, Bool, List, [], map, Some, slice_get}
use Rattle.flow_model.specs.Lists.{◌∈◌, Each}
use Rattle.flow_case.specs.declared.kind.Kind.{Kind}
use Rattle.flow_case.specs.declared.kind.Kind.TheVariants.{Final, Back, Close}
use Rattle.flow_policy.specs.Policy.{firsts}
use Rattle.flow_case.specs.Reading.{Given, names_given}
use Rattle.flow_case.specs.Rules.{Rules, IsMarked}

-- a name of a `final` is that of an event; one of a `back` or a `close` is that of a role that some user has
abbrev pub IsNamed : List (List ℕ) → List (List ℕ) → Kind → List ℕ → Type 0
IsNamed events roles Final n = n ∈ events
IsNamed events roles Back n = n ∈ roles
IsNamed events roles Close n = n ∈ roles

abbrev pub IsKnownName : List (List ℕ) → List (List ℕ) → Given → Type 0
IsKnownName events roles g = IsNamed events roles g.kind g.name

-- the event of that number is named
abbrev pub IsFinalIn : List (List ℕ) → List (List ℕ) → ℕ → Type 0
IsFinalIn names events event = (n : List ℕ) × (n ∈ names) × (slice_get events event ≡ Some n)

-- users and roles, each once, in the order in which they are first named
abbrev pub users_in : List (List ℕ × List ℕ) → List (List ℕ)
users_in members = firsts (map (λ m. m.0) members)

abbrev pub roles_in : List (List ℕ × List ℕ) → List (List ℕ)
roles_in members = firsts (map (λ m. m.1) members)

-- the user has that number
abbrev pub IsUser : List (List ℕ) → ℕ → List ℕ → Type 0
IsUser users number name = (1 ≤ number) × (slice_get users (number - 1) ≡ Some name)

-- the right is given to the role: each role has it where none is named
abbrev pub IsGivenTo : List (List ℕ) → List ℕ → Type 0
IsGivenTo named role = (named ≡ []) ⊎ (role ∈ named)

-- the user of that number has a role to which the right is given
abbrev pub HasRight : List (List ℕ) → List (List ℕ × List ℕ) → List (List ℕ) → ℕ → Type 0
HasRight named members users number =
    (user role : List ℕ) × ((user, role) ∈ members) × IsUser users number user × IsGivenTo named role

-- the names that the statements of the kind give, each once
abbrev pub named_in : Kind → List Given → List (List ℕ)
named_in kind given = firsts (names_given kind given)

-- the events that a `final` names are marked
pub record AreFinals (events : List (List ℕ)) (given : List Given) (marks : List Bool) : Type 0 where
  pub marked : (event : ℕ) → IsMarked marks event ↔ IsFinalIn (names_given Final given) events event

-- the users who have the right are marked
abbrev pub HaveRight : List (List ℕ) → List (List ℕ) → List (List ℕ × List ℕ) → List Bool → Type 0
HaveRight named users members marks = (user : ℕ) → IsMarked marks user ↔ HasRight named members users user

pub record AreRulesOf (given : List Given) (members : List (List ℕ × List ℕ)) (users events : List (List ℕ)) (rules : Rules) : Type 0 where
  pub known : Each (IsKnownName events (roles_in members)) given
  pub finals : AreFinals events given rules.finals
  pub back : HaveRight (named_in Back given) users members rules.back
  pub close : HaveRight (named_in Close given) users members rules.close
