-- The first name that is not declared once and as it must be.
use Rattle.std.specs.Prelude.{◌≡◌, ℕ, List, ◌∷◌, ◌++◌, length}
use Rattle.flow_model.specs.Lists.{◌∈◌, Each, AreDistinct}
use Rattle.flow_form.specs.Script.{Declared, Said, Asked}
use Rattle.flow_form.specs.Names.{declared_names, event_names}
use Rattle.flow_grammar.specs.Roles.{Role, declares, in_goal, in_rule, declaring, used_in_rules, script_roles, query_roles}

-- after those roles, the role declares a name that one of them declares
abbrev pub IsRepeated : List Role → Role → Type 0
IsRepeated front (declares n) = n ∈ declaring front
IsRepeated front _ = ⊥

-- the role uses a name that is not declared, or in a constraint one that is not an event
abbrev pub IsUnknown : List Declared → Role → Type 0
IsUnknown decls (in_goal n) = ¬ (n ∈ declared_names decls)
IsUnknown decls (in_rule n) = ¬ (n ∈ event_names decls)
IsUnknown decls _ = ⊥

-- counted from 0, role number k has P after those before it, and no earlier role has it
pub record IsFirst (P : List Role → Role → Type 0) (roles : List Role) (k : ℕ) : Type 0 where
  pub front : List Role
  pub role : Role
  pub back : List Role
  pub cut : roles ≡ front ++ role ∷ back
  pub place : length front ≡ k
  pub here : P front role
  pub first : (before between : List Role) (earlier : Role) → front ≡ before ++ earlier ∷ between → ¬ P before earlier

-- the first name that is declared a second time
abbrev pub IsFirstRepeated : Said → ℕ → Type 0
IsFirstRepeated s k = IsFirst IsRepeated (script_roles s) k

-- none is declared a second time, and this is the first that is not declared as it must be
pub record IsFirstUnknown (s : Said) (k : ℕ) : Type 0 where
  pub once : AreDistinct (declared_names s.decls)
  pub first : IsFirst (λ front role. IsUnknown s.decls role) (script_roles s) k

-- each name of the query is that of an event
abbrev pub AsksOfEvents : Asked → Said → Type 0
AsksOfEvents q s = Each (λ n. n ∈ event_names s.decls) (used_in_rules (query_roles q))

-- the first name of the query that is not that of an event
abbrev pub AsksFirstOfOther : Asked → Said → ℕ → Type 0
AsksFirstOfOther q s k = IsFirst (λ front role. IsUnknown s.decls role) (query_roles q) k
