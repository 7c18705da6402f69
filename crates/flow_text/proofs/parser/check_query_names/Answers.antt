use Rattle.std.proofs.Common.{rules}
use Rattle.flow_form.specs.Script.{said, asked}
use Rattle.flow_grammar.specs.Roles.{query_roles}
use Rattle.flow_grammar.specs.Texts.{SpellsQuery}
use Rattle.flow_grammar.proofs.RolesOfNames.{queries_have_roles}
use Rattle.flow_text.specs.GoodNames.{AsksFirstOfOther}
use Rattle.flow_text.proofs.ParserLemmas.{first_named, first_there}
use Rattle.flow_text.proofs.parser.check_query_names.Goals as goal

pub name_at-requires : goal.name_at-requires
name_at-requires c =
    first_named SpellsQuery query_roles _ c.args.lexed.now.text c.args.lexed.now.tokens (asked c.args.query.now) c.in-Err-Unknown.index queries_have_roles c.requires
    (c.in-Err-Unknown.ensures.unknown c.in-Err-Unknown.index (search rules))

pub returns-in_ok-place-in-Err-Unknown-clause-refused : goal.returns-in_ok-place-in-Err-Unknown-clause-refused
returns-in_ok-place-in-Err-Unknown-clause-refused c =
    first_there SpellsQuery query_roles (λ q k. AsksFirstOfOther q (said c.args.script.now) k) c.args.lexed.now.text c.args.lexed.now.tokens (asked c.args.query.now)
    c.in-Err-Unknown.index _ _ queries_have_roles c.in_ok-place-in-Err-Unknown.ensures.cut c.requires
    (c.in-Err-Unknown.ensures.unknown c.in-Err-Unknown.index (search rules)) c.in_ok-place-in-Err-Unknown.ensures.name
