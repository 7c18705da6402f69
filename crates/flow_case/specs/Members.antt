-- Users with the roles that a policy gives to them, as its symbols are read.
use Rattle.std.specs.Prelude.{ℕ, if◌then◌else◌, List, [], ◌∷◌, ◌++◌, codes}
use Rattle.flow_grammar.specs.Symbol.{Symbol, a_name, semicolon}
use Rattle.flow_reader.specs.Symbols.{is}
use Rattle.flow_case.specs.declared.members.Reading.{Reading}
use Rattle.flow_case.specs.declared.members.Reading.TheVariants.{Begins, Role, Users, Other}
use Rattle.flow_case.specs.declared.members.Member.{Member}

abbrev pub said : Member → List ℕ × List ℕ
said m = (m.user.now, m.role.now)

abbrev pub reading_after : Reading → Symbol → Reading
reading_after Begins semicolon = Begins
reading_after Begins (a_name n) = if is n (codes "role") then Role else Other
reading_after Begins other = Other
reading_after Role semicolon = Begins
reading_after Role (a_name n) = Users
reading_after Role other = Other
reading_after Users semicolon = Begins
reading_after Users other = Users
reading_after Other semicolon = Begins
reading_after Other other = Other

-- the role that is given behind the symbol; none where a statement ends
abbrev pub role_after : Reading → List ℕ → Symbol → List ℕ
role_after reading role semicolon = []
role_after Role role (a_name n) = n
role_after reading role other = role

-- the user that the symbol is, with the role
abbrev pub member_at : Reading → List ℕ → Symbol → List (List ℕ × List ℕ)
member_at Users role (a_name n) = (n, role) ∷ []
member_at reading role other = []

abbrev pub members_from : Reading → List ℕ → List Symbol → List (List ℕ × List ℕ)
members_from reading role [] = []
members_from reading role (t ∷ ts) = member_at reading role t ++ members_from (reading_after reading t) (role_after reading role t) ts
