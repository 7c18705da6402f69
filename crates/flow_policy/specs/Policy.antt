-- The policy that a text says, or why it says none.
use Rattle.std.specs.Prelude.{◌≡◌, ◌<◌, ◌+◌, ◌⊎◌, ℕ, List, [], ◌∷◌, ◌++◌, length, map, Some, fold, if◌then◌else◌}
use Rattle.std.specs.List.{flat_map, list_any}
use Rattle.std.specs.Str.{bytes_eq}
use Rattle.flow_model.specs.Lists.{◌∈◌, Each}
use Rattle.flow_form.specs.Script.{Said}
use Rattle.flow_form.specs.Names.{event_names}
use Rattle.flow_lex.specs.declared.token.Token.{Token}
use Rattle.flow_lex.specs.Tokens.{lexed, IsAscii, IsFirstNotAscii}
use Rattle.flow_reader.specs.Symbols.{symbols_of}
use Rattle.flow_reader.specs.Reading.{place_of}
use Rattle.flow_workflow.specs.Numbers.{event_number}
use Rattle.flow_policy.specs.Statement.{Statement, gives, allows, separates, binds, Part, a_role, an_event, parts}
use Rattle.flow_policy.specs.Texts.{SpellsPolicy, IsCutInto, SaysPolicy, IsExpectedAt}
use Rattle.flow_policy.specs.Assigned.{Assigned}
use Rattle.flow_policy.specs.Ties.{Rises}
use Rattle.flow_policy.specs.declared.refusal.PolicyRefusal.{PolicyRefusal}
use Rattle.flow_policy.specs.declared.refusal.PolicyRefusal.TheVariants.{NotAscii, BadToken, Expected, Unknown, NoMemory}

-- What statements say, by names

-- a user and a role that is given to it
abbrev pub memberships : Statement → List (List ℕ × List ℕ)
memberships (gives role user users) = map (λ u. (u, role)) (user ∷ users)
memberships _ = []

-- a role and an event that it is allowed
abbrev pub allowances : Statement → List (List ℕ × List ℕ)
allowances (allows role event events) = map (λ e. (role, e)) (event ∷ events)
allowances _ = []

-- the role that a line gives to users
abbrev pub given_role : Statement → List (List ℕ)
given_role (gives role user users) = role ∷ []
given_role _ = []

abbrev pub separations : Statement → List (List ℕ × List ℕ)
separations (separates e f) = (e, f) ∷ []
separations _ = []

abbrev pub bindings : Statement → List (List ℕ × List ℕ)
bindings (binds e f) = (e, f) ∷ []
bindings _ = []

-- the name at the end of the others, unless it is there
abbrev pub with_name : List (List ℕ) → List ℕ → List (List ℕ)
with_name names n = if list_any (bytes_eq n) names then names else names ++ n ∷ []

-- each name once, in the order in which they first stand
abbrev pub firsts : List (List ℕ) → List (List ℕ)
firsts names = fold with_name [] names

-- users and roles of lines that give a role, by first appearance
abbrev pub users_of : List Statement → List (List ℕ)
users_of statements = firsts (map (λ m. m.0) (flat_map memberships statements))

abbrev pub roles_of : List Statement → List (List ℕ)
roles_of statements = firsts (flat_map given_role statements)

-- the name is that of a role, or an event, where it must be
abbrev pub IsKnown : List (List ℕ) → List (List ℕ) → Part → Type 0
IsKnown roles events (a_role n) = n ∈ roles
IsKnown roles events (an_event n) = n ∈ events
IsKnown roles events _ = Unit {0}

-- By numbers: users count from 1, roles and events from 0

abbrev pub numbered_member : List (List ℕ) → List (List ℕ) → List ℕ × List ℕ → ℕ × ℕ
numbered_member users roles (user, role) = (event_number users user + 1, event_number roles role)

abbrev pub numbered_allowance : List (List ℕ) → List (List ℕ) → List ℕ × List ℕ → ℕ × ℕ
numbered_allowance roles events (role, event) = (event_number roles role, event_number events event)

abbrev pub numbered_pair : List (List ℕ) → List ℕ × List ℕ → ℕ × ℕ
numbered_pair events (e, f) = (event_number events e, event_number events f)

-- the first number is less, or it is the same and the second is less
abbrev pub IsBelow : ℕ × ℕ → ℕ × ℕ → Type 0
IsBelow (a, b) (c, d) = (a < c) ⊎ ((a ≡ c) × (b < d))

abbrev pub turned : ℕ × ℕ → ℕ × ℕ
turned (a, b) = (b, a)

-- each stands below all behind it
abbrev pub AreRising : List (ℕ × ℕ) → Type 0
AreRising pairs = Rises IsBelow pairs

-- the pairs are those that are said
pub record AreJust (pairs said : List (ℕ × ℕ)) : Type 0 where
  pub none_else : (p : ℕ × ℕ) → p ∈ pairs → p ∈ said
  pub all : (p : ℕ × ℕ) → p ∈ said → p ∈ pairs

-- the text is a policy of the script, and this is what it assigns
pub record IsPolicyOf (text : List ℕ) (s : Said) (p : Assigned) : Type 0 where
  pub statements : List Statement
  pub says : SaysPolicy text statements
  pub known : Each (IsKnown (roles_of statements) (event_names s.decls)) (flat_map parts statements)
  pub users_are : p.users ≡ users_of statements
  -- each pair once: users rise, and of a user the roles; events rise, and of an event the roles
  pub members_rise : AreRising p.duties.members
  pub members_are : AreJust p.duties.members (map (numbered_member (users_of statements) (roles_of statements)) (flat_map memberships statements))
  pub allowed_rise : AreRising (map turned p.duties.allowed)
  pub allowed_are : AreJust p.duties.allowed (map (numbered_allowance (roles_of statements) (event_names s.decls)) (flat_map allowances statements))
  -- a constraint's number is its place
  pub separate_are : p.duties.separate ≡ map (numbered_pair (event_names s.decls)) (flat_map separations statements)
  pub bound_are : p.duties.bound ≡ map (numbered_pair (event_names s.decls)) (flat_map bindings statements)

-- at the place stands the first name that must be that of a role, or of an event, and is not
pub record IsUnknownAt (text : List ℕ) (s : Said) (place : ℕ) : Type 0 where
  pub tokens : List Token
  pub cut : IsCutInto text tokens
  pub statements : List Statement
  pub spelled : SpellsPolicy (symbols_of text tokens) statements
  pub front : List Part
  pub part : Part
  pub back : List Part
  pub parted : flat_map parts statements ≡ front ++ part ∷ back
  pub there : place ≡ place_of text tokens (length front)
  pub unknown : ¬ IsKnown (roles_of statements) (event_names s.decls) part
  pub first : Each (IsKnown (roles_of statements) (event_names s.decls)) front

-- the refusal is the first that applies to the text; want of memory says nothing of it
abbrev pub IsPolicyRefusal : List ℕ → Said → PolicyRefusal → Type 0
IsPolicyRefusal text s (NotAscii place) = IsFirstNotAscii text place
IsPolicyRefusal text s (BadToken place) = IsAscii text × ((lexed text).bad ≡ Some place)
IsPolicyRefusal text s (Expected place) = IsExpectedAt text place
IsPolicyRefusal text s (Unknown place) = IsUnknownAt text s place
IsPolicyRefusal text s NoMemory = Unit {0}
