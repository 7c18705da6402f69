use Rattle.std.proofs.Common.{rules}
use Rattle.std.proofs.lemmas.Result.{err_from_is_err_and}
use Rattle.flow_form.specs.Script.{said}
use Rattle.flow_grammar.proofs.Reading.{scripts_are_read}
use Rattle.flow_text.proofs.ParserLemmas.{lexed_of, derived, written, refused, is_closed}
use Rattle.flow_text.proofs.parser.parse_lexed.Goals as goal

pub returns-in_err-script-clause-refused : goal.returns-in_err-script-clause-refused
returns-in_err-script-clause-refused c =
    let p = err_from_is_err_and c.from_residual.result c.from_residual.ensures.1 in
    rw (p.1, p.2) (refused scripts_are_read c.lexed.view_is c.deref.ensures.value _ _ _ c.lexed.invariant c.in_err-script.ensures.refused)

pub check_names-requires : goal.check_names-requires
check_names-requires c = derived scripts_are_read c.lexed.view_is c.deref.ensures.value (said c.in_ok-script.script) c.in_ok-script.ensures.ok

pub returns-in-Ok-clause-ok : goal.returns-in-Ok-clause-ok
returns-in-Ok-clause-ok c = record {
  writes = written scripts_are_read c.lexed.view_is c.deref.ensures.value (said c.in_ok-script.script) c.lexed.invariant c.in_ok-script.ensures.ok;
  named = search rules;
}

pub returns-in-Ok-clause-closed : goal.returns-in-Ok-clause-closed
returns-in-Ok-clause-closed c =
    is_closed c.args.lexed.now.text c.args.lexed.now.tokens (said c.in_ok-script.script)
    (lexed_of c.lexed.view_is c.lexed.invariant).spans
    (derived scripts_are_read c.lexed.view_is c.deref.ensures.value (said c.in_ok-script.script) c.in_ok-script.ensures.ok) (search rules)
