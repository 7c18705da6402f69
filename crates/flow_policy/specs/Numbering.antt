-- The names of a policy by their numbers.
use Rattle.std.specs.Prelude.{◌≡◌, ◌+◌, ℕ, List, [], ◌∷◌, ◌++◌, length, map, fold}
use Rattle.std.specs.List.{flat_map}
use Rattle.flow_policy.specs.Assigned.{Assigned}
use Rattle.flow_model.specs.Lists.{◌∈◌, Each}
use Rattle.flow_workflow.specs.Numbers.{event_number}
use Rattle.flow_policy.specs.declared.stage.Stage.{Stage}
use Rattle.flow_policy.specs.declared.stage.Stage.TheVariants.{RoleNeeded, UserNeeded, AllowedNeeded, EventNeeded, SeparateFirst, SeparateSecond, BindFirst, BindSecond}
use Rattle.flow_policy.specs.declared.staff.Staff.{Staff}
use Rattle.flow_policy.specs.declared.event_table.EventTable.{EventTable}
use Rattle.flow_policy.specs.declared.draft.Draft.{Draft}
use Rattle.flow_policy.specs.declared.refusal.PolicyRefusal.{PolicyRefusal}
use Rattle.flow_policy.specs.declared.refusal.PolicyRefusal.TheVariants.{Unknown, NoMemory}
use Rattle.flow_policy.specs.Policy.{firsts, AreRising, AreJust, turned}
use Rattle.flow_policy.specs.Stages.{Mentioned}

-- the name of a user, and that of a role that a line gives
abbrev pub user_at : Mentioned → List (List ℕ)
user_at m = from m.stage
  where
    from : Stage → List (List ℕ)
    from UserNeeded = m.name ∷ []
    from _ = []

abbrev pub role_at : Mentioned → List (List ℕ)
role_at m = from m.stage
  where
    from : Stage → List (List ℕ)
    from RoleNeeded = m.name ∷ []
    from _ = []

-- the users and roles that are named
pub record IsStaff (mentions : List Mentioned) (staff : Staff) : Type 0 where
  pub users : staff.users ≡ firsts (flat_map user_at mentions)
  pub roles : staff.roles ≡ firsts (flat_map role_at mentions)

-- the events, each with the place where it first stands
pub record IsEventTable (events : List (List ℕ)) (table : EventTable) : Type 0 where
  pub names : table.names ≡ firsts events
  pub places : table.places.items ≡ map (event_number events) (firsts events)
  pub count : table.count ≡ length events

-- names of users, of roles and of events
pub record Names : Type 0 where
  pub users : List (List ℕ)
  pub roles : List (List ℕ)
  pub events : List (List ℕ)

-- those are what the tables hold
pub record AreTablesOf (names : Names) (staff : Staff) (table : EventTable) : Type 0 where
  pub users : staff.users ≡ names.users
  pub roles : staff.roles ≡ names.roles
  pub events : IsEventTable names.events table

-- the refusal is of that name, which is not in the list
abbrev pub IsMissing : List (List ℕ) → Mentioned → PolicyRefusal → Type 0
IsMissing names m (Unknown place) = (place ≡ m.place) × ¬ (m.name ∈ names)
IsMissing names m NoMemory = Unit {0}
IsMissing names m _ = ⊥

-- the name is among those of its kind
abbrev pub IsListed : Names → Mentioned → Type 0
IsListed names m = from m.stage
  where
    from : Stage → Type 0
    from RoleNeeded = m.name ∈ names.roles
    from UserNeeded = m.name ∈ names.users
    from AllowedNeeded = m.name ∈ names.roles
    from EventNeeded = m.name ∈ names.events
    from SeparateFirst = m.name ∈ names.events
    from SeparateSecond = m.name ∈ names.events
    from BindFirst = m.name ∈ names.events
    from BindSecond = m.name ∈ names.events
    from _ = Unit {0}

-- what is numbered so far
pub record Numbered : Type 0 where
  -- the last role, and the last first event of a pair
  pub role : ℕ
  pub first : ℕ
  -- users, and then events, each with a role
  pub members : List (ℕ × ℕ)
  pub allowed : List (ℕ × ℕ)
  pub separate : List (ℕ × ℕ)
  pub bound : List (ℕ × ℕ)

abbrev pub numbered : Draft → Numbered
numbered d = record {
  role = d.role;
  first = d.first;
  members = d.members.items;
  allowed = d.allowed.items;
  separate = d.separate.items;
  bound = d.bound.items;
}

abbrev pub nothing_numbered : Numbered
nothing_numbered = record { role = 0; first = 0; members = []; allowed = []; separate = []; bound = [] }

abbrev pub with_mention : Names → Numbered → Mentioned → Numbered
with_mention names d m = from m.stage
  where
    from : Stage → Numbered
    from RoleNeeded = record d { role = event_number names.roles m.name }
    from UserNeeded = record d { members = d.members ++ (event_number names.users m.name + 1, d.role) ∷ [] }
    from AllowedNeeded = record d { role = event_number names.roles m.name }
    from EventNeeded = record d { allowed = d.allowed ++ (event_number names.events m.name, d.role) ∷ [] }
    from SeparateFirst = record d { first = event_number names.events m.name }
    from SeparateSecond = record d { separate = d.separate ++ (d.first, event_number names.events m.name) ∷ [] }
    from BindFirst = record d { first = event_number names.events m.name }
    from BindSecond = record d { bound = d.bound ++ (d.first, event_number names.events m.name) ∷ [] }
    from _ = d

-- the refusal is of that name, which is not listed
abbrev pub IsNotListed : Names → Mentioned → PolicyRefusal → Type 0
IsNotListed names m (Unknown place) = (place ≡ m.place) × ¬ IsListed names m
IsNotListed names m NoMemory = Unit {0}
IsNotListed names m _ = ⊥

-- the refusal is of the first name that is not listed
pub record IsFirstUnlisted (names : Names) (mentions : List Mentioned) (place : ℕ) : Type 0 where
  pub front : List Mentioned
  pub here : Mentioned
  pub back : List Mentioned
  pub cut : mentions ≡ front ++ here ∷ back
  pub there : place ≡ here.place
  pub unlisted : ¬ IsListed names here
  pub first : Each (IsListed names) front

abbrev pub IsNumberRefusal : Names → List Mentioned → PolicyRefusal → Type 0
IsNumberRefusal names mentions (Unknown place) = IsFirstUnlisted names mentions place
IsNumberRefusal names mentions NoMemory = Unit {0}
IsNumberRefusal names mentions _ = ⊥

-- the names of a policy
abbrev pub names_of : List Mentioned → List (List ℕ) → Names
names_of mentions events = record { users = firsts (flat_map user_at mentions); roles = firsts (flat_map role_at mentions); events = events }

-- it is what was numbered, each pair of a role once and in order
pub record IsAssignedBy (users : List (List ℕ)) (d : Numbered) (p : Assigned) : Type 0 where
  pub users_are : p.users ≡ users
  pub members_rise : AreRising p.duties.members
  pub members_are : AreJust p.duties.members d.members
  pub allowed_rise : AreRising (map turned p.duties.allowed)
  pub allowed_are : AreJust (map turned p.duties.allowed) d.allowed
  pub separate_are : p.duties.separate ≡ d.separate
  pub bound_are : p.duties.bound ≡ d.bound

-- each of the names is listed, and it is what they assign
pub record IsMentionedIn (mentions : List Mentioned) (events : List (List ℕ)) (p : Assigned) : Type 0 where
  pub listed : Each (IsListed (names_of mentions events)) mentions
  pub assigned : IsAssignedBy (names_of mentions events).users (fold (with_mention (names_of mentions events)) nothing_numbered mentions) p
