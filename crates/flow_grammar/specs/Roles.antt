-- What each name of a text is there for, in the order of the text.
use Rattle.std.specs.Prelude.{◌≡◌, ℕ, List, [], ◌∷◌, ◌++◌, map}
use Rattle.std.specs.List.{flat_map}
use Rattle.flow_facts.specs.declared.constant.Const.{Const}
use Rattle.flow_facts.specs.declared.constant.Const.TheVariants.{Word, Number}
use Rattle.flow_facts.specs.Atom.{Atom}
use Rattle.flow_form.specs.Form.{Shape, Shapes, nop, named, test, absent, ins, del, iso, serial, beside, either, no_more, followed}
use Rattle.flow_form.specs.Script.{Declared, fact, event, flow, Said, Asked, holds, redundant}
use Rattle.flow_form.specs.Names.{declared_names, names_in, goals_of, names_in_rule}
use Rattle.flow_grammar.specs.Symbol.{Symbol, Placed, symbols, a_name}

pub data Role : Type 0 where
  -- it declares an event or a sub-workflow
  declares : List ℕ → Role
  -- it stands in a goal, for an event or a sub-workflow
  in_goal : List ℕ → Role
  -- it stands in a constraint, for an event
  in_rule : List ℕ → Role
  -- it is a relation, or a word among the arguments of a fact
  in_fact : List ℕ → Role

abbrev pub role_name : Role → List ℕ
role_name (declares n) = n
role_name (in_goal n) = n
role_name (in_rule n) = n
role_name (in_fact n) = n

abbrev pub constant_roles : List Const → List Role
constant_roles [] = []
constant_roles (Word n ∷ cs) = in_fact n ∷ constant_roles cs
constant_roles (Number n ∷ cs) = constant_roles cs

abbrev pub fact_roles : Atom → List Role
fact_roles a = in_fact a.relation ∷ constant_roles a.args

abbrev mutual
  pub goal_roles : Shape → List Role
  goal_roles nop = []
  goal_roles (named n) = in_goal n ∷ []
  goal_roles (test a) = fact_roles a
  goal_roles (absent a) = fact_roles a
  goal_roles (ins a) = fact_roles a
  goal_roles (del a) = fact_roles a
  goal_roles (iso s) = goal_roles s
  goal_roles (serial ss) = roles_in_each ss
  goal_roles (beside ss) = roles_in_each ss
  goal_roles (either ss) = roles_in_each ss

  pub roles_in_each : Shapes → List Role
  roles_in_each no_more = []
  roles_in_each (followed s ss) = goal_roles s ++ roles_in_each ss

abbrev pub declared_roles : Declared → List Role
declared_roles (fact a) = fact_roles a
declared_roles (event n note) = declares n ∷ []
declared_roles (flow n s) = declares n ∷ goal_roles s

abbrev pub script_roles : Said → List Role
script_roles s = flat_map declared_roles s.decls ++ (goal_roles s.goal ++ map in_rule (flat_map names_in_rule s.rules))

abbrev pub query_roles : Asked → List Role
query_roles (holds r) = map in_rule (names_in_rule r)
query_roles (redundant n) = []

-- the names among the symbols
abbrev pub names_of : List Symbol → List (List ℕ)
names_of [] = []
names_of (a_name n ∷ ts) = n ∷ names_of ts
names_of (_ ∷ ts) = names_of ts

-- the names of a text, in order, are those of what it says, in order: the first has the first role, and so on
abbrev pub NamesHaveRoles : {V : Type 0} → (List Placed → V → Type 0) → (V → List Role) → Type 0
NamesHaveRoles {V} Spells roles = (w : List Placed) (x : V) → Spells w x → names_of (symbols w) ≡ map role_name (roles x)

-- the roles of each kind

abbrev pub declared_by : Role → List (List ℕ)
declared_by (declares n) = n ∷ []
declared_by _ = []

abbrev pub goal_name : Role → List (List ℕ)
goal_name (in_goal n) = n ∷ []
goal_name _ = []

abbrev pub rule_name : Role → List (List ℕ)
rule_name (in_rule n) = n ∷ []
rule_name _ = []

abbrev pub declaring : List Role → List (List ℕ)
declaring rs = flat_map declared_by rs

abbrev pub used_in_goals : List Role → List (List ℕ)
used_in_goals rs = flat_map goal_name rs

abbrev pub used_in_rules : List Role → List (List ℕ)
used_in_rules rs = flat_map rule_name rs

abbrev pub RolesAreTheNames : Type 0
RolesAreTheNames = (s : Said) →
    (declaring (script_roles s) ≡ declared_names s.decls) ×
    (used_in_goals (script_roles s) ≡ flat_map names_in (goals_of s)) ×
    (used_in_rules (script_roles s) ≡ flat_map names_in_rule s.rules)
