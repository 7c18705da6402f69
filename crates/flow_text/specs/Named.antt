-- The names of a text as the code lists them.
use Rattle.std.specs.Prelude.{◌≡◌, List, map, ◌++◌}
use Rattle.flow_grammar.specs.Roles.{Role, declares, in_goal, in_rule, in_fact}
use Rattle.flow_text.specs.declared.named.Named.{Named}
use Rattle.flow_text.specs.declared.named.Named.TheVariants.{Declares, InGoal, InRule, InFact}

abbrev pub role_of : Named → Role
role_of (Declares n) = declares n.now
role_of (InGoal n) = in_goal n.now
role_of (InRule n) = in_rule n.now
role_of (InFact n) = in_fact n.now

abbrev pub roles_of : List Named → List Role
roles_of list = map role_of list

-- the list has grown by these roles
abbrev pub Adds : List Named → List Named → List Role → Type 0
Adds old new more = roles_of new ≡ roles_of old ++ more
