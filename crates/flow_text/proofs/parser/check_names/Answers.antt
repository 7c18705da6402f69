use Rattle.std.proofs.Common.{rules}
use Rattle.flow_form.specs.Script.{said}
use Rattle.flow_grammar.specs.Roles.{script_roles}
use Rattle.flow_grammar.specs.Texts.{SpellsScript}
use Rattle.flow_grammar.proofs.RolesOfNames.{scripts_have_roles}
use Rattle.flow_text.specs.GoodNames.{IsFirstRepeated, IsFirstUnknown}
use Rattle.flow_text.proofs.ParserLemmas.{first_named, first_there}
use Rattle.flow_text.proofs.parser.check_names.Goals as goal

pub name_at-requires : goal.name_at-requires
name_at-requires c =
    first_named SpellsScript script_roles _ c.args.lexed.now.text c.args.lexed.now.tokens (said c.args.script.now) c.in-Err-Repeated.index scripts_have_roles c.requires
    (c.in-Err-Repeated.ensures.repeated c.in-Err-Repeated.index (search rules))

pub name_at-requires-in-Err-Unknown : goal.name_at-requires-in-Err-Unknown
name_at-requires-in-Err-Unknown c =
    first_named SpellsScript script_roles _ c.args.lexed.now.text c.args.lexed.now.tokens (said c.args.script.now) c.in-Err-Unknown.index scripts_have_roles c.requires
    (c.in-Err-Unknown.ensures.unknown c.in-Err-Unknown.index (search rules)).first

pub returns-in_ok-place-in-Err-Repeated-clause-refused : goal.returns-in_ok-place-in-Err-Repeated-clause-refused
returns-in_ok-place-in-Err-Repeated-clause-refused c =
    first_there SpellsScript script_roles IsFirstRepeated c.args.lexed.now.text c.args.lexed.now.tokens (said c.args.script.now) c.in-Err-Repeated.index _ _ scripts_have_roles
    c.in_ok-place-in-Err-Repeated.ensures.cut c.requires (c.in-Err-Repeated.ensures.repeated c.in-Err-Repeated.index (search rules)) c.in_ok-place-in-Err-Repeated.ensures.name

pub returns-in_ok-place-in-Err-Unknown-clause-refused : goal.returns-in_ok-place-in-Err-Unknown-clause-refused
returns-in_ok-place-in-Err-Unknown-clause-refused c =
    first_there SpellsScript script_roles IsFirstUnknown c.args.lexed.now.text c.args.lexed.now.tokens (said c.args.script.now) c.in-Err-Unknown.index _ _ scripts_have_roles
    c.in_ok-place-in-Err-Unknown.ensures.cut c.requires (c.in-Err-Unknown.ensures.unknown c.in-Err-Unknown.index (search rules)) c.in_ok-place-in-Err-Unknown.ensures.name
