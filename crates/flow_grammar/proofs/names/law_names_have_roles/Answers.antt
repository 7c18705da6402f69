use Rattle.flow_grammar.proofs.RolesOfNames.{scripts_have_roles, queries_have_roles, roles_are_the_names}
use Rattle.flow_grammar.proofs.names.law_names_have_roles.Goals as goal

pub returns : goal.returns
returns c = record { in_scripts = scripts_have_roles; in_queries = queries_have_roles; of_each_kind = roles_are_the_names }
