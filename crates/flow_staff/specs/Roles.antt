-- The roles that a policy allows an event, as its symbols are read.
use Rattle.std.specs.Prelude.{ℕ, if◌then◌else◌, List, [], ◌∷◌, ◌++◌, codes}
use Rattle.flow_grammar.specs.Symbol.{Symbol, a_name, semicolon}
use Rattle.flow_reader.specs.Symbols.{is}
use Rattle.flow_staff.specs.declared.roles.Reading.{Reading}
use Rattle.flow_staff.specs.declared.roles.Reading.TheVariants.{Begins, Allow, Events, Other}

-- the role of a pair, if its event is that one
abbrev pub role_for : List ℕ → List ℕ × List ℕ → List (List ℕ)
role_for event (role, e) = if is e event then role ∷ [] else []

abbrev pub reading_after : Reading → Symbol → Reading
reading_after Begins semicolon = Begins
reading_after Begins (a_name n) = if is n (codes "allow") then Allow else Other
reading_after Begins other = Other
reading_after Allow semicolon = Begins
reading_after Allow (a_name n) = Events
reading_after Allow other = Other
reading_after Events semicolon = Begins
reading_after Events other = Events
reading_after Other semicolon = Begins
reading_after Other other = Other

-- the role that is allowed events behind the symbol; none where a statement ends
abbrev pub role_after : Reading → List ℕ → Symbol → List ℕ
role_after reading role semicolon = []
role_after Allow role (a_name n) = n
role_after reading role other = role

-- the role, where the symbol is the event
abbrev pub role_at : List ℕ → Reading → List ℕ → Symbol → List (List ℕ)
role_at event Events role (a_name n) = role_for event (role, n)
role_at event reading role other = []

abbrev pub roles_from : List ℕ → Reading → List ℕ → List Symbol → List (List ℕ)
roles_from event reading role [] = []
roles_from event reading role (t ∷ ts) = role_at event reading role t ++ roles_from event (reading_after reading t) (role_after reading role t) ts

-- the roles that are allowed the event, in the order in which they stand
abbrev pub roles_said : List ℕ → List Symbol → List (List ℕ)
roles_said event symbols = roles_from event Begins [] symbols
